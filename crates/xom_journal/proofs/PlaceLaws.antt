-- What stands in front of a place of a list, and behind it, by the entry that `get` gives there.
use Rattle.std.proofs.Common.{◌≡◌, ℕ, suc, ◌+◌, ◌<◌, ◌≤◌, inl, inr, List, [], ◌∷◌, ◌++◌, length, take, drop, Some, None, sym, ap, ◌∙◌, add-one, arith, drop-cons}
use Rattle.std.specs.Prelude.{slice_get}
use Rattle.std.proofs.lemmas.List.{take_all, take_more}
use Rattle.std.proofs.lemmas.Option.{none-some, slice_get_cases, slice_get_within, get_or_from_slice_get}

-- where there is none, the place is past the end
pub past_end : {A : Type 0} (xs : List A) (i : ℕ) → slice_get xs i ≡ None → length xs ≤ i
past_end xs i none =
    elim (slice_get_cases xs i).1 [
      | inl one ↦ absurd (none-some one.0 (sym none ∙ one.2))
      | inr past ↦ past.0
    ]

-- one more in front
pub front_some : {A : Type 0} (xs : List A) (i : ℕ) (x : A) → slice_get xs i ≡ Some x
    → take (i + 1) xs ≡ take i xs ++ x ∷ []
front_some xs i x some =
    take_more xs i x (slice_get_within xs i x some) ∙ ap (λ y. take i xs ++ y ∷ [])
    (get_or_from_slice_get xs i x x some)

pub front_none : {A : Type 0} (xs : List A) (i : ℕ) → slice_get xs i ≡ None
    → take (i + 1) xs ≡ take i xs
front_none xs i none =
    let past : length xs ≤ i = past_end xs i none in
    take_all (i + 1) xs (omega arith) ∙ sym (take_all i xs past)

-- the one at the place is the first behind it
pub behind_some : {A : Type 0} (xs : List A) (i : ℕ) (x : A) → slice_get xs i ≡ Some x
    → drop i xs ≡ x ∷ drop (i + 1) xs
behind_some xs i x some =
    let within : i < length xs = slice_get_within xs i x some in
    drop-cons xs i x within
    ∙ rw (add-one i) (ap (λ y. y ∷ drop (suc i) xs) (get_or_from_slice_get xs i x x some))
