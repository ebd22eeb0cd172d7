-- Products of whole numbers, as MULT and MULTU make them: HI and LO are the high and the low half
-- of one number of 64 bits.
-- Source: Kane and Heinrich, MIPS RISC Architecture, appendix A (MULT, MULTU).
use Rattle.std.specs.Prelude.{◌≡◌, ℕ, ◌+◌, ◌*◌, ◌^◌, ◌<◌, nat_lt, ℤ, pos, ◌-ℤ◌, ◌*ℤ◌, if◌then◌else◌}
use Rattle.mips_instruction.specs.declared.instruction.Ins.{Ins}
use Rattle.mips_instruction.specs.declared.instruction.Ins.TheVariants.{Mult, Multu}
use Rattle.xom_base.specs.declared.step.Writes.TheVariants as writes
use Rattle.mips_instruction.specs.Numbers.{signed_number}
use Rattle.mips_laws.specs.Acts.{WritesOnly}

-- the number of 64 bits in HI and LO
abbrev pub double_word : (hi lo : ℕ) → ℕ
double_word hi lo = hi * 2 ^ 32 + lo

-- a number of 64 bits with its sign
abbrev pub signed_64 : ℕ → ℤ
signed_64 n = if nat_lt n (2 ^ 63) then pos n else pos n -ℤ pos (2 ^ 64)

-- the instruction leaves halves of 32 bits in HI and LO, which stand for the product so
pub record Multiplies (i : Ins) (s t : ℕ) (stands_for : ℕ → ℤ) (product : ℤ) : Type 0 where
  pub hi : ℕ
  pub lo : ℕ
  pub hi_bits : hi < 2 ^ 32
  pub lo_bits : lo < 2 ^ 32
  pub writes : WritesOnly i s t (writes.Pair hi lo)
  pub product_is : stands_for (double_word hi lo) ≡ product

-- MULT multiplies signed numbers: the product is whole in 64 signed bits
abbrev pub MultMultiplies : Type 0
MultMultiplies =
    (rs rt s t : ℕ) → s < 2 ^ 32 → t < 2 ^ 32
    → Multiplies (Mult rs rt) s t signed_64 (signed_number s *ℤ signed_number t)

-- MULTU multiplies unsigned numbers
abbrev pub MultuMultiplies : Type 0
MultuMultiplies =
    (rs rt s t : ℕ) → s < 2 ^ 32 → t < 2 ^ 32 → Multiplies (Multu rs rt) s t pos (pos (s * t))
