-- Two texts are equal where no bit differs, byte for byte.
use Rattle.std.proofs.Common.{◌≡◌, ◌↔◌, ℕ, ◌<◌, ◌≤◌, ◌+◌, List, get_or, sym, ◌∙◌, ap, arith, below_more}
use Rattle.std.specs.Int.Bits.{bit_or, bit_xor, or_zero_l, xor_assoc, xor_self, xor_zero_l, xor_zero_r}
use Rattle.std.proofs.lemmas.Nat.{le_or_l, le_or_r}

-- two numbers whose difference is none are equal
pub same_from_xor : (a b : ℕ) → bit_xor a b ≡ 0 → a ≡ b
same_from_xor a b none =
    sym (xor_zero_r a) ∙ ap (λ n. bit_xor a n) (sym (xor_self b)) ∙ sym (xor_assoc a b b)
    ∙ ap (λ n. bit_xor n b) none ∙ xor_zero_l b

-- what is joined to no bits has none
pub none_in_or : (a b : ℕ) → bit_or a b ≡ 0 → (a ≡ 0) × (b ≡ 0)
none_in_or a b none =
    let l : a ≤ bit_or a b = le_or_l a b in
    let r : b ≤ bit_or a b = le_or_r a b in
    (omega (arith, none), omega (arith, none))

-- the texts have the same bytes before this place
abbrev pub SameBefore : ℕ → List ℕ → List ℕ → Type 0
SameBefore i xs ys = (k : ℕ) → k < i → get_or xs k 0 ≡ get_or ys k 0

-- the difference of one more byte joined to that of those before
pub none_more : (d i : ℕ) (xs ys : List ℕ) → (d ≡ 0) ↔ SameBefore i xs ys
    → (bit_or d (bit_xor (get_or xs i 0) (get_or ys i 0)) ≡ 0) ↔ SameBefore (i + 1) xs ys
none_more d i xs ys before = (
  (λ none. let both = none_in_or d (bit_xor (get_or xs i 0) (get_or ys i 0)) none in
      below_more (λ k. get_or xs k 0 ≡ get_or ys k 0) i (before.0 both.0)
      (same_from_xor (get_or xs i 0) (get_or ys i 0) both.1)),
  (λ same.
      let none : d ≡ 0 = before.1 (λ k below. same k (omega arith)) in
      let here : get_or xs i 0 ≡ get_or ys i 0 = same i (omega arith) in
      ap (λ n. bit_or n (bit_xor (get_or xs i 0) (get_or ys i 0))) none
      ∙ or_zero_l (bit_xor (get_or xs i 0) (get_or ys i 0))
      ∙ ap (λ n. bit_xor n (get_or ys i 0)) here
      ∙ xor_self (get_or ys i 0)),
)
