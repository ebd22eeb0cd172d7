-- The registers whose texts are a number, or a letter and a digit.
use Rattle.std.proofs.Common.{◌≡◌, ℕ, zero, suc, ◌+◌, ◌-◌, ◌*◌, ◌/◌, ◌%◌, ◌<◌, ◌≤◌, ◌==◌, ◌&&◌, Bool, true, List, [], ◌∷◌, Some, refl, sym, ap, ◌∙◌, subst, arith, inl, inr}
use Rattle.std.proofs.lemmas.Bool.{and_parts, cases_Bool, eqb-true, eqb-false}
use Rattle.asm_tokens.specs.Registers.{register_names, register_numbers, register_of}
use Rattle.asm_tokens.proofs.RegisterLaws.{is_some_of, is_some_of-true}

-- a test passes at all numbers below n
all_below : ℕ → (ℕ → Bool) → Bool
all_below zero test = true
all_below (suc n) test = test n && all_below n test

below_passes : (n : ℕ) (test : ℕ → Bool) → all_below n test ≡ true → (k : ℕ) → k < n → test k ≡ true
unfolding all_below
below_passes zero test all k below = absurd (omega (arith, below))
below_passes (suc n) test all k below =
    let parts = and_parts (test n) (all_below n test) all in
    elim (cases_Bool (k == n)) [
      | inl here ↦ subst (λ (i : ℕ). test i ≡ true) (sym (eqb-true k n here)) parts.0
      | inr there ↦ below_passes n test parts.1 k (let differ = eqb-false k n there in
          omega (arith, below, differ))
    ]

-- the texts of all numbers below n are those of these registers
module _ (n : ℕ) (text : ℕ → List ℕ) (register : ℕ → ℕ)
    (all : all_below n (λ k. is_some_of (register_of (text k)) (register k)) ≡ true) where
  read_below : (k : ℕ) → k < n → register_of (text k) ≡ Some (register k)
  read_below k below =
      is_some_of-true (register_of (text k)) (register k)
      (below_passes n (λ k. is_some_of (register_of (text k)) (register k)) all k below)

-- `$0` to `$9`
ones_read : (k : ℕ) → k < 10 → register_of (36 ∷ (48 + k) ∷ []) ≡ Some k
unfolding all_below is_some_of register_of register_numbers register_names
ones_read = read_below 10 (λ k. 36 ∷ (48 + k) ∷ []) (λ k. k) refl

pub ones : (digit : ℕ) → 48 ≤ digit → digit ≤ 57 → register_of (36 ∷ digit ∷ []) ≡ Some (digit - 48)
ones digit from to =
    let same : 48 + (digit - 48) ≡ digit = omega (arith, from) in
    subst (λ (byte : ℕ). register_of (36 ∷ byte ∷ []) ≡ Some (digit - 48)) same
    (ones_read (digit - 48) (omega (arith, from, to)))

-- `$10` to `$29`
tens_read : (k : ℕ) → k < 20 → register_of (36 ∷ (49 + k / 10) ∷ (48 + k % 10) ∷ []) ≡ Some (10 + k)
unfolding all_below is_some_of register_of register_numbers register_names
tens_read = read_below 20 (λ k. 36 ∷ (49 + k / 10) ∷ (48 + k % 10) ∷ []) (λ k. 10 + k) refl

pub tens : (ten digit : ℕ) → 49 ≤ ten → ten ≤ 50 → 48 ≤ digit → digit ≤ 57
    → register_of (36 ∷ ten ∷ digit ∷ []) ≡ Some ((ten - 48) * 10 + (digit - 48))
tens ten digit from to low high =
    let k = (ten - 49) * 10 + (digit - 48) in
    let first : 49 + k / 10 ≡ ten = omega (arith, from, to, low, high) in
    let second : 48 + k % 10 ≡ digit = omega (arith, from, to, low, high) in
    let number : 10 + k ≡ (ten - 48) * 10 + (digit - 48) = omega (arith, from, to, low, high) in
    let small : k < 20 = omega (arith, from, to, low, high) in
    subst (λ (byte : ℕ). register_of (36 ∷ ten ∷ byte ∷ []) ≡ Some ((ten - 48) * 10 + (digit - 48)))
    second
    (subst (λ (byte : ℕ). register_of (36 ∷ byte ∷ (48 + k % 10) ∷ [])
    ≡ Some ((ten - 48) * 10 + (digit - 48))) first (tens_read k small ∙ ap (λ (r : ℕ). Some r)
    number))

-- `$t0` to `$t7`
temporary_read : (k : ℕ) → k < 8 → register_of (36 ∷ 116 ∷ (48 + k) ∷ []) ≡ Some (8 + k)
unfolding all_below is_some_of register_of register_numbers register_names
temporary_read = read_below 8 (λ k. 36 ∷ 116 ∷ (48 + k) ∷ []) (λ k. 8 + k) refl

-- `$s0` to `$s7`
saved_read : (k : ℕ) → k < 8 → register_of (36 ∷ 115 ∷ (48 + k) ∷ []) ≡ Some (16 + k)
unfolding all_below is_some_of register_of register_numbers register_names
saved_read = read_below 8 (λ k. 36 ∷ 115 ∷ (48 + k) ∷ []) (λ k. 16 + k) refl

-- `$a0` to `$a3`
given_read : (k : ℕ) → k < 4 → register_of (36 ∷ 97 ∷ (48 + k) ∷ []) ≡ Some (4 + k)
unfolding all_below is_some_of register_of register_numbers register_names
given_read = read_below 4 (λ k. 36 ∷ 97 ∷ (48 + k) ∷ []) (λ k. 4 + k) refl

-- a letter and a digit
named : (letter first n : ℕ)
    → ((k : ℕ) → k < n → register_of (36 ∷ letter ∷ (48 + k) ∷ []) ≡ Some (first + k))
    → (digit : ℕ) → 48 ≤ digit → digit < 48 + n
    → register_of (36 ∷ letter ∷ digit ∷ []) ≡ Some (digit - 48 + first)
named letter first n read digit from to =
    let k = digit - 48 in
    let same : 48 + k ≡ digit = omega (arith, from) in
    let number : first + k ≡ k + first = omega arith in
    subst (λ (byte : ℕ). register_of (36 ∷ letter ∷ byte ∷ []) ≡ Some (digit - 48 + first)) same
    (read k (omega (arith, from, to)) ∙ ap (λ (r : ℕ). Some r) number)

pub temporary : (letter digit : ℕ) → letter ≡ 116 → 48 ≤ digit → digit < 56
    → register_of (36 ∷ letter ∷ digit ∷ []) ≡ Some (digit - 48 + 8)
temporary letter digit is from to =
    subst (λ (byte : ℕ). register_of (36 ∷ byte ∷ digit ∷ []) ≡ Some (digit - 48 + 8)) (sym is)
    (named 116 8 8 temporary_read digit from (omega (arith, to)))

pub saved : (letter digit : ℕ) → letter ≡ 115 → 48 ≤ digit → digit < 56
    → register_of (36 ∷ letter ∷ digit ∷ []) ≡ Some (digit - 48 + 16)
saved letter digit is from to =
    subst (λ (byte : ℕ). register_of (36 ∷ byte ∷ digit ∷ []) ≡ Some (digit - 48 + 16)) (sym is)
    (named 115 16 8 saved_read digit from (omega (arith, to)))

pub given : (letter digit : ℕ) → letter ≡ 97 → 48 ≤ digit → digit < 52
    → register_of (36 ∷ letter ∷ digit ∷ []) ≡ Some (digit - 48 + 4)
given letter digit is from to =
    subst (λ (byte : ℕ). register_of (36 ∷ byte ∷ digit ∷ []) ≡ Some (digit - 48 + 4)) (sym is)
    (named 97 4 4 given_read digit from (omega (arith, to)))
