-- The console of the entries in front of a place, and of the one that stands there.
use Rattle.std.proofs.Common.{◌≡◌, ℕ, zero, suc, add-one, ◌+◌, List, [], ◌∷◌, ◌++◌, Option, Some, None, take, refl, ap, ◌∙◌}
use Rattle.std.specs.Prelude.{option_and_then, slice_get}
use Rattle.std.specs.List.{cons_option, filter_map}
use Rattle.std.specs.Option.{option_to_list}
use Rattle.xom_base.specs.declared.entry.Entry.{Entry}
use Rattle.xom_journal.specs.EntryParts.{byte_in}
use Rattle.run_text.specs.Console.{console_of}

cons_option-nil : {A : Type 0} (o : Option A) → cons_option o [] ≡ option_to_list o
cons_option-nil None = refl
cons_option-nil (Some x) = refl

cons_option-append : {A : Type 0} (o : Option A) (xs ys : List A)
    → cons_option o (xs ++ ys) ≡ cons_option o xs ++ ys
cons_option-append None xs ys = refl
cons_option-append (Some x) xs ys = refl

filter_map-suc : {A B : Type 0} (h : A → Option B) (xs : List A) (i : ℕ)
    → filter_map h (take (suc i) xs) ≡ filter_map h (take i xs) ++ option_to_list
    (option_and_then h (slice_get xs i))
filter_map-suc h [] zero = refl
filter_map-suc h [] (suc i) = refl
filter_map-suc h (x ∷ xs) zero = cons_option-nil (h x)
filter_map-suc h (x ∷ xs) (suc i) =
    ap (cons_option (h x)) (filter_map-suc h xs i)
    ∙ cons_option-append (h x) (filter_map h (take i xs))
    (option_to_list (option_and_then h (slice_get xs i)))

-- the console of the entries up to a place
pub console_next : (entries : List Entry) (i : ℕ)
    → console_of (take (i + 1) entries) ≡ console_of (take i entries) ++ option_to_list
    (option_and_then byte_in (slice_get entries i))
console_next entries i = rw add-one (filter_map-suc byte_in entries i)
