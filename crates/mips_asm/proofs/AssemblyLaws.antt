-- From the answers of the passes to that of the whole.
use Rattle.std.proofs.Common.{◌≡◌, ℕ, ◌⊎◌, inl, inr, Bool, true, false, cond, List, [], ◌∷◌, Option, Some, None, Result, Ok, Err, refl, sym, ap, subst, ◌∙◌, reverse}
use Rattle.std.specs.Prelude.{MatchResult, find, is_none}
use Rattle.std.specs.Result.{IsErrAnd, is_ok, result_err}
use Rattle.std.specs.List.{All}
use Rattle.std.proofs.lemmas.List.{reverse-append}
use Rattle.std.proofs.lemmas.List.Elements.{All-head, All-nil, All-push, All-tail}
use Rattle.std.proofs.lemmas.Option.{none-some, same_Some}
use Rattle.asm_source.specs.declared.content.Part.{Part}
use Rattle.asm_syntax.specs.Lines.{source_of}
use Rattle.mips_asm.specs.declared.fault.AsmFault.{AsmFault}
use Rattle.mips_asm.specs.declared.fault.AsmFault.TheVariants.{Syntax, Duplicate, TooLong, Overlap, UnknownName, Range, NoMemory}
use Rattle.mips_asm.specs.Places.{Placed}
use Rattle.mips_asm.specs.Layout.{layout}
use Rattle.mips_asm.specs.Passes.{Labels, duplicate_line, overlap_line, statement_line, too_long_line, unknown_line}
use Rattle.mips_asm.specs.Sources.{IsFaultOf, IsFirst, IsOutOfRange, IsPlacedFault, OrNoMemory, bad_entry, bad_entry_of, entry_value, is_entry_statement, labels_of, last_entry}

range_said : (placed : List Placed) (fault : AsmFault) → overlap_line placed ≡ None
    → unknown_line (labels_of placed) placed ≡ None
    → (fault ≡ NoMemory) ⊎ ((n : ℕ) × (fault ≡ Range n) × IsFirst statement_line
    (IsOutOfRange (labels_of placed) (bad_entry_of placed)) placed n)
    → OrNoMemory (IsPlacedFault placed) fault
range_said placed fault apart known (inl none) = inl none
range_said placed fault apart known (inr some) =
    inr (subst (IsPlacedFault placed) (sym some.1) (apart, known, some.2))

-- one element, and what is found behind it
here : {X : Type 0} (P : X → Type 0) (b : Bool) (y x : X) (more : Option X) → P y
    → (more ≡ Some x → P x) → cond b (Some y) more ≡ Some x → P x
here P true y x more this later found = subst P (same_Some y x found) this
here P false y x more this later found = later found

-- what is found in a list is one of it
found_in : {X : Type 0} (test : X → Bool) (P : X → Type 0) (xs : List X) (x : X) → All P xs
    → find test xs ≡ Some x → P x
found_in {X} test P [] x all found = absurd (none-some x found)
found_in {X} test P (y ∷ xs) x all found =
    here P (test y) y x (find test xs) (All-head P y xs all)
    (λ later. found_in test P xs x (All-tail P y xs all) later) found

All-reverse : {X : Type 0} (P : X → Type 0) (xs : List X) → All P xs → All P (reverse xs)
All-reverse P [] all = All-nil P
All-reverse P (x ∷ xs) all =
    subst (All P) (sym (reverse-append (x ∷ []) xs))
    (All-push P (reverse xs) x (All-reverse P xs (All-tail P x xs all)) (All-head P x xs all))

-- where no line is that of a bad last entry, there is none
pub no_bad_entry : (labels : Labels) (placed : List Placed) (line : ℕ)
    → All (λ (p : Placed). ¬ (bad_entry labels (last_entry placed) ≡ Some (statement_line p))) placed
    → bad_entry labels (last_entry placed) ≡ Some line → ⊥
no_bad_entry labels placed line all bad = at (last_entry placed) refl bad
  where
    P : Placed → Type 0
    P = λ p. ¬ (bad_entry labels (last_entry placed) ≡ Some (statement_line p))

    at : (o : Option Placed) → last_entry placed ≡ o → bad_entry labels o ≡ Some line → ⊥
    at None is bad = none-some line bad
    at (Some p) is bad =
        found_in is_entry_statement P (reverse placed) p (All-reverse P placed all) is
        (ap (bad_entry labels) is ∙ whose (is_none (entry_value labels p.part.content)) bad)
      where
        whose : (b : Bool) → cond b (Some (statement_line p)) None ≡ Some line
            → cond b (Some (statement_line p)) None ≡ Some (statement_line p)
        whose true h = refl
        whose false h = absurd (none-some line h)

-- ---- sources

-- a fault at places is one of the source, where no kind before it occurs
pub placed_fault : (text : List ℕ) (parts : List Part) (fault : AsmFault)
    → source_of text ≡ Ok parts → duplicate_line parts ≡ None
    → too_long_line (layout 0 parts) ≡ None
    → IsPlacedFault (layout 0 parts) fault → IsFaultOf text fault
placed_fault text parts (Syntax n) read unique short is = absurd is
placed_fault text parts (Duplicate n) read unique short is = absurd is
placed_fault text parts (TooLong n) read unique short is = absurd is
placed_fault text parts (Overlap n) read unique short is = (parts, read, (unique, short, is))
placed_fault text parts (UnknownName n) read unique short is = (parts, read, (unique, short, is))
placed_fault text parts (Range n) read unique short is = (parts, read, (unique, short, is))
placed_fault text parts NoMemory read unique short is = absurd is

-- what is true of an error is true of the answer that hands it on
pub err_is : {A : Type 0} (r : Result A AsmFault) (fault : AsmFault) → IsErrAnd r (λ e. e ≡ fault)
    → (P : A → Type 0) (Q : AsmFault → Type 0) → Q fault → MatchResult r P Q
err_is (Ok x) fault is P Q q = absurd is
err_is (Err e) fault is P Q q = subst Q (sym is) q

-- the line that is handed in is that of a bad last entry
pub bad_is : (r : Result ℕ ℕ) (told bad : Option ℕ)
    → MatchResult r (λ entry. bad ≡ None) (λ line. bad ≡ Some line) → told ≡ result_err r
    → told ≡ bad
bad_is (Ok entry) told bad is given = given ∙ sym is
bad_is (Err line) told bad is given = given ∙ sym is

pub range_here : (placed : List Placed) (fault : AsmFault) (labels : Labels) (bad : Option ℕ)
    → labels ≡ labels_of placed → bad ≡ bad_entry_of placed
    → overlap_line placed ≡ None → unknown_line labels placed ≡ None
    → (fault ≡ NoMemory) ⊎ ((n : ℕ) × (fault ≡ Range n) × IsFirst statement_line (IsOutOfRange labels bad)
    placed n)
    → OrNoMemory (IsPlacedFault placed) fault
range_here placed fault labels bad named last apart known said =
    let F : Labels → Option ℕ → Type 0 = λ l b. (fault ≡ NoMemory)
    ⊎ ((n : ℕ) × (fault ≡ Range n) × IsFirst statement_line (IsOutOfRange l b) placed n) in
    range_said placed fault apart (ap (λ (l : Labels). unknown_line l placed) (sym named) ∙ known)
    (subst (F (labels_of placed)) last (subst (λ (l : Labels). F l bad) named said))

-- where no statement is out of its range, the entry isn't bad
pub entry_is_ok : (labels : Labels) (placed : List Placed) (r : Result ℕ ℕ) (told : Option ℕ)
    → MatchResult r (λ entry. bad_entry labels (last_entry placed) ≡ None)
    (λ line. bad_entry labels (last_entry placed) ≡ Some line)
    → told ≡ result_err r → All (λ (p : Placed). ¬ (told ≡ Some (statement_line p))) placed
    → is_ok r ≡ true
entry_is_ok labels placed (Ok entry) told is given all = refl
entry_is_ok labels placed (Err line) told is given all =
    absurd (no_bad_entry labels placed line
    (subst (λ (o : Option ℕ). All (λ (p : Placed). ¬ (o ≡ Some (statement_line p))) placed)
    (given ∙ sym is) all) is)
