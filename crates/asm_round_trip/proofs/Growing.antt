-- One more element behind a list: what is found, faults and lines.
use Rattle.std.proofs.Common.{◌≡◌, ℕ, ◌+◌, Bool, false, List, [], ◌∷◌, ◌++◌, reverse, Some, None, Result, Ok, Err, refl, sym, ap, ◌∙◌, append_assoc}
use Rattle.std.specs.Prelude.{find}
use Rattle.std.specs.List.{list_any}
use Rattle.std.proofs.lemmas.Bool.{or_from}
use Rattle.std.proofs.lemmas.List.{append-nil, reverse-append}
use Rattle.std.proofs.lemmas.List.Folds.{find-append, list_any-append}
use Rattle.text_lines.specs.Lines.{LineStep, lines_of, read_from, with_front}
use Rattle.text_lines.proofs.CutLaws.{cut_of-at, lines_of-cut}
use Rattle.text_lines.proofs.LineLaws.{read_from-one}
use Rattle.mips_asm.specs.Passes.{first_fault}
use Rattle.mips_asm.proofs.FaultLaws.{first_good, rest_good}
use Rattle.asm_round_trip.proofs.LineEnds.{OneLine, one_line-each}

-- ---- lists

-- no element is found, and the next isn't it either
pub find-more : {X : Type 0} (p : X → Bool) (xs : List X) (x : X) → find p xs ≡ None → p x ≡ false
    → find p (xs ++ x ∷ []) ≡ None
find-more p xs x none other = find-append p xs (x ∷ []) ∙ rw (none, other) refl

-- nor is it found from the end
pub find_last-more : {X : Type 0} (p : X → Bool) (xs : List X) (x : X) → find p (reverse xs) ≡ None
    → p x ≡ false → find p (reverse (xs ++ x ∷ [])) ≡ None
find_last-more p xs x none other = ap (find p) (reverse-append xs (x ∷ [])) ∙ rw other none

-- no element passes, and the next doesn't either
pub any-more : {X : Type 0} (p : X → Bool) (xs : List X) (x : X) → list_any p xs ≡ false
    → p x ≡ false → list_any p (xs ++ x ∷ []) ≡ false
any-more p xs x none other =
    list_any-append p xs (x ∷ [])
    ∙ or_from (list_any p xs) (list_any p (x ∷ [])) none (or_from (p x) false other refl)

module _ {X : Type 0} (line : X → ℕ) (bad : List X → X → Bool) where
  -- the first is good, and so is what is behind it
  good-cons : (before : List X) (x : X) (xs : List X) → bad before x ≡ false
      → first_fault line bad (before ++ x ∷ []) xs ≡ None
      → first_fault line bad before (x ∷ xs) ≡ None
  unfolding first_fault
  good-cons before x xs good rest = rw good rest

  -- no element is at fault where there is none
  good-nil : (before : List X) → first_fault line bad before [] ≡ None
  unfolding first_fault
  good-nil before = refl

  -- none has a fault, and the next doesn't either
  pub fault-more : (before xs : List X) (x : X) → first_fault line bad before xs ≡ None
      → bad (before ++ xs) x ≡ false → first_fault line bad before (xs ++ x ∷ []) ≡ None
  fault-more before [] x none good =
      good-cons before x [] (rw append-nil at good) (good-nil (before ++ x ∷ []))
  fault-more before (y ∷ ys) x none good =
      good-cons before y (ys ++ x ∷ []) (first_good line bad before y ys none)
      (fault-more (before ++ y ∷ []) ys x (rest_good line bad before y ys none)
      (ap (λ (front : List X). bad front x) (append_assoc before (y ∷ []) ys) ∙ good))

-- ---- lines

-- one line, and what is behind its end
pub lines-front : (line rest : List ℕ) → OneLine line
    → lines_of (line ++ (10 ∷ rest)) ≡ line ∷ lines_of rest
lines-front line rest one =
    lines_of-cut (line ++ (10 ∷ rest)) line rest (cut_of-at 10 line rest (one_line-each line one))

-- no values in front
nothing_in_front : {S X : Type 0} (answer : Result (List X × S) ℕ) → with_front [] answer ≡ answer
nothing_in_front (Ok more) = refl
nothing_in_front (Err bad) = refl

-- the next line gives no value of its own
pub read-next : {S X : Type 0} (step : LineStep S X) (s next : S) (n : ℕ) (line : List ℕ)
    (lines : List (List ℕ))
    → step s n line ≡ Some (None, next)
    → read_from step s n (line ∷ lines) ≡ read_from step next (n + 1) lines
read-next step s next n line lines is =
    sym (nothing_in_front (read_from step s n (line ∷ lines)))
    ∙ read_from-one step [] s next n None line lines is
    ∙ nothing_in_front (read_from step next (n + 1) lines)
