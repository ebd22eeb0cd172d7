-- The first fault, element by element.
use Rattle.std.proofs.Common.{◌≡◌, ℕ, ◌+◌, ◌<◌, ◌≤◌, Bool, true, false, List, [], ◌∷◌, ◌++◌, length, get_or, take, drop, Some, None, refl, sym, ap, ◌∙◌}
use Rattle.std.proofs.lemmas.Bool.{false_from_ne_true}
use Rattle.std.proofs.lemmas.List.{take_more, drop_more, drop_all}
use Rattle.std.proofs.lemmas.Option.{none-some}
use Rattle.mips_asm.specs.Passes.{first_fault}

module _ {X : Type 0} (line : X → ℕ) (bad : List X → X → Bool) where
  found : (before : List X) (x : X) (xs : List X) → bad before x ≡ true
      → first_fault line bad before (x ∷ xs) ≡ Some (line x)
  unfolding first_fault
  found before x xs is = rw is refl

  next : (before : List X) (x : X) (xs : List X) → bad before x ≡ false
      → first_fault line bad before (x ∷ xs) ≡ first_fault line bad (before ++ x ∷ []) xs
  unfolding first_fault
  next before x xs is = rw is refl

  none : (before : List X) → first_fault line bad before [] ≡ None
  unfolding first_fault
  none before = refl

  -- where no element is bad, the first is not
  pub first_good : (before : List X) (x : X) (xs : List X)
      → first_fault line bad before (x ∷ xs) ≡ None → bad before x ≡ false
  first_good before x xs is =
      false_from_ne_true (bad before x)
      (λ wrong. none-some (line x) (sym is ∙ found before x xs wrong))

  -- and none of the rest is
  pub rest_good : (before : List X) (x : X) (xs : List X)
      → first_fault line bad before (x ∷ xs) ≡ None
      → first_fault line bad (before ++ x ∷ []) xs ≡ None
  rest_good before x xs is = sym (next before x xs (first_good before x xs is)) ∙ is

  -- the element at a place is bad
  pub found_at : (xs : List X) (i : ℕ) (d : X) → i < length xs
      → bad (take i xs) (get_or xs i d) ≡ true
      → first_fault line bad (take i xs) (drop i xs) ≡ Some (line (get_or xs i d))
  found_at xs i d within is =
      ap (first_fault line bad (take i xs)) (drop_more xs i d within)
      ∙ found (take i xs) (get_or xs i d) (drop (i + 1) xs) is

  -- the element at a place is not bad
  pub next_at : (xs : List X) (i : ℕ) (d : X) → i < length xs
      → bad (take i xs) (get_or xs i d) ≡ false
      → first_fault line bad (take i xs) (drop i xs) ≡ first_fault line bad (take (i + 1) xs)
      (drop (i + 1) xs)
  next_at xs i d within is =
      ap (first_fault line bad (take i xs)) (drop_more xs i d within)
      ∙ next (take i xs) (get_or xs i d) (drop (i + 1) xs) is
      ∙ ap (λ (before : List X). first_fault line bad before (drop (i + 1) xs))
      (sym (take_more xs i d within))

  -- all elements were looked at
  pub none_at : (xs : List X) (i : ℕ) → length xs ≤ i
      → first_fault line bad (take i xs) (drop i xs) ≡ None
  none_at xs i past = ap (first_fault line bad (take i xs)) (drop_all i xs past) ∙ none (take i xs)
