-- Labels, one after another.
use Rattle.std.proofs.Common.{◌≡◌, ℕ, ◌+◌, ◌<◌, ◌||◌, Bool, true, false, cond, List, [], ◌∷◌, ◌++◌, length, get_or, take, Option, Some, None, refl, sym, ap, ◌∙◌}
use Rattle.std.specs.Prelude.{is_some}
use Rattle.std.specs.Option.{option_map_or, option_or}
use Rattle.std.specs.List.{list_any}
use Rattle.std.specs.Str.{bytes_eq}
use Rattle.std.proofs.lemmas.List.{take_more}
use Rattle.std.proofs.lemmas.List.Folds.{list_any_more}
use Rattle.asm_source.specs.declared.content.Part.{Part}
use Rattle.mips_asm.specs.Places.{Placed}
use Rattle.mips_asm.specs.Passes.{is_label, label_said, place_of, repeats}

-- ---- one label or statement

label_is : (q name : List ℕ) (part : Part) → label_said part.content ≡ Some name
    → is_label q part ≡ bytes_eq name q
label_is q name part is =
    ap (λ (o : Option (List ℕ)). option_map_or (λ (label : List ℕ). bytes_eq label q) o false) is

no_label : (q : List ℕ) (part : Part) → label_said part.content ≡ None → is_label q part ≡ false
no_label q part is =
    ap (λ (o : Option (List ℕ)). option_map_or (λ (label : List ℕ). bytes_eq label q) o false) is

pub repeats_label : (before : List Part) (name : List ℕ) (part : Part)
    → label_said part.content ≡ Some name → repeats before part ≡ list_any (is_label name) before
repeats_label before name part is =
    ap
    (λ (o : Option (List ℕ)). option_map_or (λ (name : List ℕ). list_any (is_label name) before) o
    false)
    is

pub repeats_none : (before : List Part) (part : Part) → label_said part.content ≡ None
    → repeats before part ≡ false
repeats_none before part is =
    ap
    (λ (o : Option (List ℕ)). option_map_or (λ (name : List ℕ). list_any (is_label name) before) o
    false)
    is

-- ---- the names so far

chosen : (b any : Bool) (n : ℕ) (old : Option ℕ) → is_some old ≡ any
    → is_some (cond b (Some n) old) ≡ (any || b)
chosen true true n old is = refl
chosen true false n old is = refl
chosen false true n old is = is
chosen false false n old is = is

pub known_label : (parts : List Part) (i : ℕ) (d : Part) (q name : List ℕ) (n : ℕ)
    (old new : Option ℕ)
    → i < length parts → label_said (get_or parts i d).content ≡ Some name
    → new ≡ cond (bytes_eq name q) (Some n) old → is_some old ≡ list_any (is_label q) (take i parts)
    → is_some new ≡ list_any (is_label q) (take (i + 1) parts)
known_label parts i d q name n old new within is set known =
    ap is_some set
    ∙ chosen (bytes_eq name q) (list_any (is_label q) (take i parts)) n old known
    ∙ ap (λ (b : Bool). list_any (is_label q) (take i parts) || b)
    (sym (label_is q name (get_or parts i d) is))
    ∙ sym (list_any_more (is_label q) parts i d within)

or_false : (b : Bool) → b ≡ (b || false)
or_false true = refl
or_false false = refl

pub known_none : (parts : List Part) (i : ℕ) (d : Part) (q : List ℕ) → i < length parts
    → label_said (get_or parts i d).content ≡ None
    → list_any (is_label q) (take i parts) ≡ list_any (is_label q) (take (i + 1) parts)
known_none parts i d q within is =
    or_false (list_any (is_label q) (take i parts))
    ∙ ap (λ (b : Bool). list_any (is_label q) (take i parts) || b)
    (sym (no_label q (get_or parts i d) is))
    ∙ sym (list_any_more (is_label q) parts i d within)

-- ---- the places so far

past : (b : Bool) (n : ℕ) (old other : Option ℕ)
    → option_or (cond b (Some n) old) other ≡ cond b (Some n) (option_or old other)
past true n old other = refl
past false n old other = refl

place_of-push : (xs : List Placed) (x : Placed) (q : List ℕ)
    → place_of (xs ++ x ∷ []) q ≡ cond (is_label q x.part) (Some x.place) (place_of xs q)
unfolding place_of
place_of-push [] x q = refl
place_of-push (y ∷ xs) x q =
    rw (place_of-push xs x q) (past (is_label q x.part) x.place (place_of xs q)
    (cond (is_label q y.part) (Some y.place) None))

pub place_label : (placed : List Placed) (i : ℕ) (d : Placed) (q name : List ℕ) (old new : Option ℕ)
    → i < length placed → label_said (get_or placed i d).part.content ≡ Some name
    → new ≡ cond (bytes_eq name q) (Some (get_or placed i d).place) old
    → old ≡ place_of (take i placed) q → new ≡ place_of (take (i + 1) placed) q
place_label placed i d q name old new within is set known =
    set
    ∙ ap (λ (b : Bool). cond b (Some (get_or placed i d).place) old)
    (sym (label_is q name (get_or placed i d).part is))
    ∙ ap (λ (o : Option ℕ). cond (is_label q (get_or placed i d).part)
    (Some (get_or placed i d).place) o) known
    ∙ sym (place_of-push (take i placed) (get_or placed i d) q)
    ∙ ap (λ (before : List Placed). place_of before q) (sym (take_more placed i d within))

pub place_none : (placed : List Placed) (i : ℕ) (d : Placed) (q : List ℕ) → i < length placed
    → label_said (get_or placed i d).part.content ≡ None
    → place_of (take i placed) q ≡ place_of (take (i + 1) placed) q
place_none placed i d q within is =
    ap (λ (b : Bool). cond b (Some (get_or placed i d).place) (place_of (take i placed) q))
    (sym (no_label q (get_or placed i d).part is))
    ∙ sym (place_of-push (take i placed) (get_or placed i d) q)
    ∙ ap (λ (before : List Placed). place_of before q) (sym (take_more placed i d within))

pub place_of_nil : (q : List ℕ) → place_of [] q ≡ None
unfolding place_of
place_of_nil q = refl
