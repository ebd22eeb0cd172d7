-- The front of a list, by what stands behind it.
use Rattle.std.proofs.Common.{◌≡◌, ℕ, ◌+◌, zero, suc, List, [], ◌∷◌, ◌++◌, Some, None, take, refl, subst, ap, arith}
use Rattle.std.specs.Prelude.{slice_get}

-- one more, where there is one
suc-got : {X : Type 0} (xs : List X) (i : ℕ) (x : X) → slice_get xs i ≡ Some x
    → take (suc i) xs ≡ take i xs ++ x ∷ []
suc-got [] i x is = absurd (cc)
suc-got (y ∷ xs) zero x is = let same : y ≡ x = cc in ap (λ z. z ∷ []) same
suc-got (y ∷ xs) (suc i) x is = ap (λ rest. y ∷ rest) (suc-got xs i x is)

pub take_got : {X : Type 0} (xs : List X) (i : ℕ) (x : X) → slice_get xs i ≡ Some x
    → take (i + 1) xs ≡ take i xs ++ x ∷ []
take_got xs i x is =
    let next : suc i
    ≡ i + 1 = omega arith in subst (λ n. take n xs ≡ take i xs ++ x ∷ []) next (suc-got xs i x is)

-- no more, where there is none
suc-none : {X : Type 0} (xs : List X) (i : ℕ) → slice_get xs i ≡ None → take (suc i) xs ≡ take i xs
suc-none [] zero none = refl
suc-none [] (suc i) none = refl
suc-none (y ∷ xs) zero none = absurd (cc)
suc-none (y ∷ xs) (suc i) none = ap (λ rest. y ∷ rest) (suc-none xs i none)

pub take_none : {X : Type 0} (xs : List X) (i : ℕ) → slice_get xs i ≡ None
    → take (i + 1) xs ≡ take i xs
take_none xs i none =
    let next : suc i
    ≡ i + 1 = omega arith in subst (λ n. take n xs ≡ take i xs) next (suc-none xs i none)
