-- Sums and differences: ADDU, ADDIU and SUBU modulo 2^32, ADD, ADDI and SUB as whole numbers or
-- Overflow.
-- Source: Kane and Heinrich, MIPS RISC Architecture, appendix A (ADD, ADDI, ADDIU, ADDU, SUB,
-- SUBU).
use Rattle.std.specs.Prelude.{◌≡◌, ℕ, ◌+◌, ◌%◌, ◌^◌, ◌<◌, ℤ, pos, ◌+ℤ◌, ◌-ℤ◌, ◌≤ℤ◌, ◌<ℤ◌}
use Rattle.mips_instruction.specs.declared.instruction.Ins.{Ins}
use Rattle.mips_instruction.specs.declared.instruction.Ins.TheVariants.{Add, Addi, Addiu, Addu, Sub, Subu}
use Rattle.mips_instruction.specs.Numbers.{sign_extended, signed_16, signed_number}
use Rattle.mips_laws.specs.Acts.{SetsOnly, Overflows}

-- 32 signed bits hold the whole number
pub record IsSigned32 (z : ℤ) : Type 0 where
  pub least : (pos 0 -ℤ pos (2 ^ 31)) ≤ℤ z
  pub most : z <ℤ pos (2 ^ 31)

-- the instruction sets the register to a number of 32 bits that has this value as a signed number
pub record SetsSigned (i : Ins) (s t reg : ℕ) (value : ℤ) : Type 0 where
  pub number : ℕ
  pub number_bits : number < 2 ^ 32
  pub sets : SetsOnly i s t reg number
  pub number_is : signed_number number ≡ value

-- it does so where 32 signed bits hold the value, and faults by Overflow exactly where they don't
pub record SetsOrOverflows (i : Ins) (s t reg : ℕ) (value : ℤ) : Type 0 where
  pub holds : IsSigned32 value → SetsSigned i s t reg value
  pub not_held : ¬ IsSigned32 value → Overflows i s t

-- ADD and SUB are the sum and the difference of signed numbers, and ADDI is the sum with its signed
-- immediate
abbrev pub SumsAreWhole : Type 0
SumsAreWhole = (rd rs rt imm s t : ℕ) → s < 2 ^ 32 → t < 2 ^ 32 → imm < 2 ^ 16
    → SetsOrOverflows (Add rd rs rt) s t rd (signed_number s +ℤ signed_number t)
    × SetsOrOverflows (Sub rd rs rt) s t rd (signed_number s -ℤ signed_number t)
    × SetsOrOverflows (Addi rt rs imm) s t rt (signed_number s +ℤ signed_16 imm)

-- ADDU is the sum modulo 2^32, and ADDIU the sum with its immediate, extended by its sign to 32
-- bits
abbrev pub AdduAddsModulo : Type 0
AdduAddsModulo = (rd rs rt imm s t : ℕ) → s < 2 ^ 32 → imm < 2 ^ 16
    → SetsOnly (Addu rd rs rt) s t rd ((s + t) % 2 ^ 32)
    × SetsOnly (Addiu rt rs imm) s t rt ((s + sign_extended imm) % 2 ^ 32)

-- SUBU sets the number of 32 bits that gives the first again where the second is added modulo 2^32
pub record SetsDifference (i : Ins) (s t reg : ℕ) : Type 0 where
  pub number : ℕ
  pub number_bits : number < 2 ^ 32
  pub sets : SetsOnly i s t reg number
  pub number_is : (number + t) % 2 ^ 32 ≡ s

-- SUBU is the difference modulo 2^32
abbrev pub SubuSubtractsModulo : Type 0
SubuSubtractsModulo =
    (rd rs rt s t : ℕ) → s < 2 ^ 32 → t < 2 ^ 32 → SetsDifference (Subu rd rs rt) s t rd
