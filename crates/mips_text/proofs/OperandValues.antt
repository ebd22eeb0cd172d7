-- The number that stands for an operand tells it from every other of its kind.
use Rattle.std.proofs.Common.{◌≡◌, ◌⊎◌, ℕ, ◌+◌, ◌-◌, ◌*◌, ◌%◌, ◌^◌, ◌<◌, ◌≤◌, ℤ, pos, ◌+ℤ◌, ◌-ℤ◌, ◌*ℤ◌, ltb, inl, inr, Option, refl, sym, ap, ◌∙◌, mul_comm, lit<, arith}
use Rattle.std.proofs.lemmas.Bool.{cases_Bool, ltb-true, ltb-false}
use Rattle.std.proofs.lemmas.Int.{ints, int_rem_euclid_is}
use Rattle.std.specs.Prelude.{unsigned_abs}
use Rattle.mips_isa.proofs.Reading.{Word-read, reserved-none}
use Rattle.mips_instruction.specs.declared.instruction.Ins.{Ins}
use Rattle.mips_instruction.specs.Numbers.{jump_target, next_address, number_modulo_word, signed_16, target}
use Rattle.mips_forms.specs.declared.operand.Operand.TheVariants.{Register, Shift, Signed, Unsigned, Code, Branch, Jump, Offset}
use Rattle.mips_text.specs.Texts.{read_text}
use Rattle.mips_text.specs.TextLaws.{ValuesDiffer, WordsAreListed}

-- a number of 16 bits with its sign is itself, or itself less 2^16
signed_16-is : (n : ℕ)
    → ((n < 2 ^ 15) × (signed_16 n ≡ pos n))
    ⊎ ((2 ^ 15 ≤ n) × (signed_16 n ≡ pos n -ℤ pos (2 ^ 16)))
signed_16-is n =
    elim (cases_Bool (ltb n (2 ^ 15))) [
      | inl low ↦ inl (ltb-true n (2 ^ 15) low, rw low refl)
      | inr high ↦ inr (ltb-false n (2 ^ 15) high, rw high refl)
    ]

signed_16-same : (a b : ℕ) → a < 2 ^ 16 → b < 2 ^ 16 → signed_16 a ≡ signed_16 b → a ≡ b
signed_16-same a b a_fits b_fits same =
    elim (signed_16-is a) [
      | inl low_a ↦ elim (signed_16-is b) [
        | inl low_b ↦ let whole : pos a ≡ pos b = sym low_a.1 ∙ same ∙ low_b.1 in
            omega (arith, ints, whole)
        | inr high_b ↦ let whole : pos a ≡ pos b -ℤ pos (2 ^ 16) = sym low_a.1 ∙ same ∙ high_b.1 in
            omega (arith, ints, whole, high_b.0)
      ]
      | inr high_a ↦ elim (signed_16-is b) [
        | inl low_b ↦ let whole : pos a -ℤ pos (2 ^ 16) ≡ pos b = sym high_a.1 ∙ same ∙ low_b.1 in
            omega (arith, ints, whole, high_a.0)
        | inr high_b ↦ let whole : pos a -ℤ pos (2 ^ 16) ≡ pos b -ℤ pos (2 ^ 16) = sym high_a.1
            ∙ same ∙ high_b.1 in omega (arith, ints, whole)
      ]
    ]

-- where a branch goes, forward and back
target_forward : (following imm : ℕ) → signed_16 imm ≡ pos imm
    → target following imm ≡ (following + 4 * imm) % 2 ^ 32
target_forward following imm is =
    ap (λ (s : ℤ). number_modulo_word (pos following +ℤ s *ℤ pos 4)) is
    ∙ ap (λ (n : ℕ). (following + n) % 2 ^ 32) (mul_comm imm 4)

whole_back : (imm : ℕ) → imm < 2 ^ 16
    → (pos imm -ℤ pos (2 ^ 16)) *ℤ pos 4 ≡ pos (4 * imm) -ℤ pos (2 ^ 18)
whole_back imm fits = omega (arith, ints)

target_back : (following imm : ℕ) → imm < 2 ^ 16 → signed_16 imm ≡ pos imm -ℤ pos (2 ^ 16)
    → target following imm ≡ (following + 4 * imm + (2 ^ 32 - 2 ^ 18)) % 2 ^ 32
target_back following imm fits is =
    let sum : (pos following +ℤ (pos (4 * imm) -ℤ pos (2 ^ 18))) +ℤ pos (1 * 2 ^ 32) ≡ pos
    (following + 4 * imm + (2 ^ 32 - 2 ^ 18)) = omega (arith, ints) in
    ap (λ (s : ℤ). number_modulo_word (pos following +ℤ s *ℤ pos 4)) is
    ∙ ap (λ (s : ℤ). number_modulo_word (pos following +ℤ s)) (whole_back imm fits)
    ∙ ap unsigned_abs (int_rem_euclid_is (pos following +ℤ (pos (4 * imm) -ℤ pos (2 ^ 18)))
    (pos (2 ^ 32)) (2 ^ 32) 1 (following + 4 * imm + (2 ^ 32 - 2 ^ 18)) (lit< tt) refl sum)

target-is : (following imm : ℕ) → imm < 2 ^ 16
    → ((imm < 2 ^ 15) × (target following imm ≡ (following + 4 * imm) % 2 ^ 32))
    ⊎ ((2 ^ 15 ≤ imm) × (target following imm ≡ (following + 4 * imm + (2 ^ 32 - 2 ^ 18)) % 2 ^
    32))
target-is following imm fits =
    elim (signed_16-is imm) [
      | inl low ↦ inl (low.0, target_forward following imm low.1)
      | inr high ↦ inr (high.0, target_back following imm fits high.1)
    ]

target-same : (following a b : ℕ) → a < 2 ^ 16 → b < 2 ^ 16
    → target following a ≡ target following b → a ≡ b
target-same following a b a_fits b_fits same =
    elim (target-is following a a_fits) [
      | inl low_a ↦ elim (target-is following b b_fits) [
        | inl low_b ↦ let sums : (following + 4 * a) % 2 ^ 32 ≡ (following + 4 * b) % 2 ^ 32 =
            sym low_a.1 ∙ same ∙ low_b.1 in omega (arith, sums)
        | inr high_b ↦ let sums : (following + 4 * a) % 2 ^
            32 ≡ (following + 4 * b + (2 ^ 32 - 2 ^ 18)) % 2 ^ 32 = sym low_a.1 ∙ same ∙ high_b.1 in
            omega (arith, sums, low_a.0, high_b.0)
      ]
      | inr high_a ↦ elim (target-is following b b_fits) [
        | inl low_b ↦ let sums : (following + 4 * a + (2 ^ 32 - 2 ^ 18)) % 2 ^
            32 ≡ (following + 4 * b) % 2 ^ 32 = sym high_a.1 ∙ same ∙ low_b.1 in
            omega (arith, sums, high_a.0, low_b.0)
        | inr high_b ↦ let sums : (following + 4 * a + (2 ^ 32 - 2 ^ 18)) % 2 ^
            32 ≡ (following + 4 * b + (2 ^ 32 - 2 ^ 18)) % 2 ^ 32 = sym high_a.1 ∙ same
            ∙ high_b.1 in omega (arith, sums)
      ]
    ]

pub values_differ : ValuesDiffer
values_differ pc (Register a) (Register b) kinds a_fits b_fits same base = cc
values_differ pc (Shift a) (Shift b) kinds a_fits b_fits same base = cc
values_differ pc (Signed a) (Signed b) kinds a_fits b_fits same base =
    ap (λ (imm : ℕ). Signed imm) (signed_16-same a b a_fits b_fits same)
values_differ pc (Unsigned a) (Unsigned b) kinds a_fits b_fits same base = cc
values_differ pc (Code a) (Code b) kinds a_fits b_fits same base = cc
values_differ pc (Branch a) (Branch b) kinds a_fits b_fits same base =
    let address : target (next_address pc) a ≡ target (next_address pc) b = cc in
    ap (λ (imm : ℕ). Branch imm) (target-same (next_address pc) a b a_fits b_fits address)
values_differ pc (Jump a) (Jump b) kinds a_fits b_fits same base =
    let address : jump_target (next_address pc) a ≡ jump_target (next_address pc) b = cc in
    let index : a ≡ b = omega (arith, address) in
    ap (λ (index : ℕ). Jump index) index
values_differ pc (Offset a s) (Offset b t) kinds a_fits b_fits same base =
    let imm : a ≡ b = signed_16-same a b a_fits.0 b_fits.0 same in
    cc
values_differ pc _ _ kinds a_fits b_fits same base = cc

pub words_are_listed : WordsAreListed
words_are_listed = (
  λ i word pc has. ap (λ (o : Option Ins). read_text o word pc) (Word-read i word has),
  λ word pc reserved. ap (λ (o : Option Ins). read_text o word pc) (reserved-none word reserved),
)
