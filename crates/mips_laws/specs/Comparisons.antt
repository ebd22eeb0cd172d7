-- Comparisons: SLT of signed numbers, SLTU of unsigned ones, and the same with an immediate.
-- Source: Kane and Heinrich, MIPS RISC Architecture, appendix A (SLT, SLTI, SLTIU, SLTU).
use Rattle.std.specs.Prelude.{ℕ, ◌^◌, ◌<◌, ◌≤◌, ℤ, ◌≤ℤ◌, ◌<ℤ◌}
use Rattle.mips_instruction.specs.declared.instruction.Ins.{Ins}
use Rattle.mips_instruction.specs.declared.instruction.Ins.TheVariants.{Slt, Slti, Sltiu, Sltu}
use Rattle.mips_instruction.specs.Numbers.{sign_extended, signed_16, signed_number}
use Rattle.mips_laws.specs.Acts.{SetsOnly}

-- 1 where the first is less than the second, 0 where it isn't, as signed numbers
pub record SetsWhereLess (i : Ins) (s t reg : ℕ) (first second : ℤ) : Type 0 where
  pub less : first <ℤ second → SetsOnly i s t reg 1
  pub not_less : second ≤ℤ first → SetsOnly i s t reg 0

-- and as unsigned numbers
pub record SetsWhereBelow (i : Ins) (s t reg first second : ℕ) : Type 0 where
  pub below : first < second → SetsOnly i s t reg 1
  pub not_below : second ≤ first → SetsOnly i s t reg 0

-- SLT and SLTI compare signed numbers, the immediate with its sign
abbrev pub SignedComparisons : Type 0
SignedComparisons = (rd rs rt imm s t : ℕ) → imm < 2 ^ 16
    → SetsWhereLess (Slt rd rs rt) s t rd (signed_number s) (signed_number t)
    × SetsWhereLess (Slti rt rs imm) s t rt (signed_number s) (signed_16 imm)

-- SLTU and SLTIU compare unsigned numbers, the immediate extended by its sign to 32 bits first
abbrev pub UnsignedComparisons : Type 0
UnsignedComparisons = (rd rs rt imm s t : ℕ)
    → SetsWhereBelow (Sltu rd rs rt) s t rd s t
    × SetsWhereBelow (Sltiu rt rs imm) s t rt s (sign_extended imm)
