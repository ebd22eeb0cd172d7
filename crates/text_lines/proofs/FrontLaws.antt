-- Lists by a front of them and by what stands at its end.
use Rattle.std.proofs.Common.{◌≡◌, ℕ, ◌+◌, ◌≤◌, inl, inr, List, [], ◌∷◌, ◌++◌, length, take, Some, None, sym, ap, ◌∙◌, arith}
use Rattle.std.specs.Prelude.{slice_get}
use Rattle.std.specs.List.{AllByRecursion}
use Rattle.std.proofs.lemmas.List.{take_all, take_more}
use Rattle.std.proofs.lemmas.Option.{none-some, slice_get_cases, slice_get_within, get_or_from_slice_get}

-- where there is no item, the place is past the end
pub past_end : {A : Type 0} (xs : List A) (i : ℕ) → slice_get xs i ≡ None → length xs ≤ i
past_end xs i none =
    elim (slice_get_cases xs i).1 [
      | inl one ↦ absurd (none-some one.0 (sym none ∙ one.2))
      | inr past ↦ past.0
    ]

-- one more in front, where there is an item
pub take-some : {A : Type 0} (xs : List A) (i : ℕ) (x : A) → slice_get xs i ≡ Some x
    → take (i + 1) xs ≡ take i xs ++ x ∷ []
take-some xs i x some =
    take_more xs i x (slice_get_within xs i x some) ∙ ap (λ y. take i xs ++ y ∷ [])
    (get_or_from_slice_get xs i x x some)

-- no more, where there is none
pub take-none : {A : Type 0} (xs : List A) (i : ℕ) → slice_get xs i ≡ None
    → take (i + 1) xs ≡ take i xs
take-none xs i none =
    let past : length xs ≤ i = past_end xs i none in
    take_all (i + 1) xs (omega arith) ∙ sym (take_all i xs past)

-- what holds of all items and of one more
pub all-snoc : {A : Type 0} (P : A → Type 0) (items : List A) (item : A) → AllByRecursion P items
    → P item → AllByRecursion P (items ++ (item ∷ []))
all-snoc P [] item all one = (one, tt)
all-snoc P (first ∷ items) item all one = (all.0, all-snoc P items item all.1 one)
