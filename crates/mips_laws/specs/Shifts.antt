-- Shifts: to the left a product by a power of two modulo 2^32, to the right a quotient rounded
-- down, of unsigned numbers (SRL) or signed ones (SRA).
-- Source: Kane and Heinrich, MIPS RISC Architecture, appendix A (SLL, SLLV, SRA, SRAV, SRL, SRLV).
use Rattle.std.specs.Prelude.{ℕ, ◌*◌, ◌/◌, ◌%◌, ◌^◌, ◌<◌, ℤ, pos, ◌+ℤ◌, ◌*ℤ◌, ◌≤ℤ◌, ◌<ℤ◌}
use Rattle.mips_instruction.specs.declared.instruction.Ins.{Ins}
use Rattle.mips_instruction.specs.declared.instruction.Ins.TheVariants.{Sll, Sllv, Sra, Srav, Srl, Srlv}
use Rattle.mips_instruction.specs.Numbers.{signed_number}
use Rattle.mips_laws.specs.Acts.{SetsOnly}

-- a quotient of a whole number by a positive one, rounded down
pub record IsQuotientDown (z : ℤ) (divisor : ℕ) (quotient : ℤ) : Type 0 where
  pub at_most : (quotient *ℤ pos divisor) ≤ℤ z
  pub next_is_more : z <ℤ ((quotient +ℤ pos 1) *ℤ pos divisor)

-- the instruction sets the register to a number of 32 bits that is, as a signed number, the
-- quotient rounded down
pub record SetsQuotientDown (i : Ins) (s t reg : ℕ) (z : ℤ) (divisor : ℕ) : Type 0 where
  pub number : ℕ
  pub number_bits : number < 2 ^ 32
  pub sets : SetsOnly i s t reg number
  pub quotient : IsQuotientDown z divisor (signed_number number)

-- SLL multiplies by 2^sa modulo 2^32, and SRL divides by it
abbrev pub UnsignedShifts : Type 0
UnsignedShifts = (rd rt rs sa s t : ℕ)
    → SetsOnly (Sll rd rt sa) s t rd (t * 2 ^ sa % 2 ^ 32) × SetsOnly (Srl rd rt sa) s t rd
    (t / 2 ^ sa)
    × SetsOnly (Sllv rd rt rs) s t rd (t * 2 ^ (s % 32) % 2 ^ 32) × SetsOnly (Srlv rd rt rs) s t rd
    (t / 2 ^ (s % 32))

-- SRA divides a signed number by 2^sa, and SRAV by 2 to the power of the low five bits
abbrev pub SignedShifts : Type 0
SignedShifts = (rd rt rs sa s t : ℕ) → t < 2 ^ 32
    → SetsQuotientDown (Sra rd rt sa) s t rd (signed_number t) (2 ^ sa)
    × SetsQuotientDown (Srav rd rt rs) s t rd (signed_number t) (2 ^ (s % 32))
