-- Division of whole numbers, as DIV and DIVU do it: the quotient goes to LO and the remainder to
-- HI.
-- Source: Kane and Heinrich, MIPS RISC Architecture, appendix A (DIV, DIVU).
use Rattle.std.specs.Prelude.{◌≡◌, ◌≢◌, ℕ, ◌-◌, ◌^◌, ◌<◌, ◌⊎◌, ℤ, pos, ◌+ℤ◌, ◌*ℤ◌, unsigned_abs, int_lt}
use Rattle.mips_instruction.specs.declared.instruction.Ins.{Ins}
use Rattle.mips_instruction.specs.declared.instruction.Ins.TheVariants.{Div, Divu}
use Rattle.xom_base.specs.declared.step.Writes.TheVariants as writes
use Rattle.mips_instruction.specs.Numbers.{signed_number}
use Rattle.mips_laws.specs.Acts.{WritesOnly}

-- a number is zero, or has the same sign as another
abbrev pub HasSignOf : (other z : ℤ) → Type 0
HasSignOf other z = (z ≡ pos 0) ⊎ (int_lt z (pos 0) ≡ int_lt other (pos 0))

-- quotient times divisor, plus remainder, is the dividend; the remainder is smaller in size than
-- the divisor, and it is zero or has the dividend's sign
pub record IsDivision (dividend divisor quotient remainder : ℤ) : Type 0 where
  pub whole : quotient *ℤ divisor +ℤ remainder ≡ dividend
  pub smaller : unsigned_abs remainder < unsigned_abs divisor
  pub sign : HasSignOf dividend remainder

-- the instruction leaves a remainder in HI and a quotient in LO, each of 32 bits, that divide one
-- whole number by another, where the two cells stand for whole numbers so
pub record Divides (i : Ins) (s t : ℕ) (stands_for : ℕ → ℤ) : Type 0 where
  pub hi : ℕ
  pub lo : ℕ
  pub hi_bits : hi < 2 ^ 32
  pub lo_bits : lo < 2 ^ 32
  pub writes : WritesOnly i s t (writes.Pair hi lo)
  pub division : IsDivision (stands_for s) (stands_for t) (stands_for lo) (stands_for hi)

-- the one row whose quotient 32 signed bits don't hold: the least number, -2^31, by -1
pub record IsOverflowRow (s t : ℕ) : Type 0 where
  pub least : s ≡ 2 ^ 31
  pub minus_one : t ≡ 2 ^ 32 - 1

-- DIV divides signed numbers, but for a divisor 0 and the overflow row
abbrev pub DivDivides : Type 0
DivDivides =
    (rs rt s t : ℕ) → s < 2 ^ 32 → t < 2 ^ 32 → t ≢ 0 → ¬ IsOverflowRow s t
    → Divides (Div rs rt) s t signed_number

-- in the overflow row it leaves the dividend as the quotient, and the remainder 0
abbrev pub DivOverflowRow : Type 0
DivOverflowRow = (rs rt s t : ℕ) → IsOverflowRow s t → WritesOnly (Div rs rt) s t (writes.Pair 0 s)

-- DIVU divides unsigned numbers, but for a divisor 0
abbrev pub DivuDivides : Type 0
DivuDivides = (rs rt s t : ℕ) → s < 2 ^ 32 → t < 2 ^ 32 → t ≢ 0 → Divides (Divu rs rt) s t pos

-- a divisor 0 leaves the quotient 0 and the dividend as the remainder, in both: the manual leaves
-- it open
abbrev pub ZeroDivides : Type 0
ZeroDivides =
    (rs rt s : ℕ)
    → WritesOnly (Div rs rt) s 0 (writes.Pair s 0) × WritesOnly (Divu rs rt) s 0 (writes.Pair s 0)

-- two numbers have one quotient and one remainder
abbrev pub DivisionIsOne : Type 0
DivisionIsOne =
    (a d q r q' r' : ℤ) → IsDivision a d q r → IsDivision a d q' r' → (q ≡ q') × (r ≡ r')
