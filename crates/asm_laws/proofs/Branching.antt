-- A branch of the field that a target has goes to the target.
use Rattle.std.proofs.Common.{◌≡◌, ℕ, ◌+◌, ◌-◌, ◌/◌, ◌%◌, ◌^◌, ◌<◌, ◌≤◌, ◌||◌, ltb, leb, inl, inr, Some, sym, ap, ◌∙◌, arith}
use Rattle.std.proofs.lemmas.Bool.{or_cases, ltb-true, leb-true}
use Rattle.std.proofs.lemmas.Int.{ints}
use Rattle.std.proofs.lemmas.Option.{cond_some}
use Rattle.mips_instruction.specs.Numbers.{target}
use Rattle.mips_asm.specs.Encoding.{branch_field, distance}

-- forward, and backward
target-forward : (following d : ℕ) → d < 2 ^ 17 → d % 4 ≡ 0
    → target following (d / 4 % 2 ^ 16) ≡ (following + d) % 2 ^ 32
target-forward following d near four = grind (arith, ints)

target-backward : (following d : ℕ) → following < 2 ^ 32 → 2 ^ 32 - 2 ^ 17 ≤ d → d < 2 ^ 32
    → d % 4 ≡ 0 → target following (d / 4 % 2 ^ 16) ≡ (following + d) % 2 ^ 32
target-backward following d first near last four = grind (arith, ints)

-- the target is as far behind the following instruction as its distance
distance-behind : (place address : ℕ) → place + 4 ≤ 2 ^ 20 → address < 2 ^ 32
    → (place + 4 + distance place address) % 2 ^ 32 ≡ address
distance-behind place address inside fits = omega arith

distance-words : (place address : ℕ) → place + 4 ≤ 2 ^ 20 → place % 4 ≡ 0 → address < 2 ^ 32
    → address % 4 ≡ 0 → distance place address % 4 ≡ 0
distance-words place address inside four fits words = omega arith

-- a field that reaches an address goes there
pub branch_field-target : (place address imm : ℕ) → place + 4 ≤ 2 ^ 20 → place % 4 ≡ 0
    → address < 2 ^ 32 → address % 4 ≡ 0 → branch_field place address ≡ Some imm
    → target (place + 4) imm ≡ address
branch_field-target place address imm inside four fits words found =
    let d : ℕ = distance place address in
    let reaches = cond_some (ltb d (2 ^ 17) || leb (2 ^ 32 - 2 ^ 17) d) (d / 4 % 2 ^ 16) imm
    found in
    let d_words : d % 4 ≡ 0 = distance-words place address inside four fits words in
    ap (target (place + 4)) (sym reaches.1)
    ∙ (elim (or_cases (ltb d (2 ^ 17)) (leb (2 ^ 32 - 2 ^ 17) d) reaches.0) [
      | inl near ↦ target-forward (place + 4) d (ltb-true d (2 ^ 17) near) d_words
      | inr far ↦ target-backward (place + 4) d (omega arith) (leb-true (2 ^ 32 - 2 ^ 17) d far)
          (omega arith) d_words
    ])
    ∙ distance-behind place address inside fits
