-- Signed numbers as the code has them are those of the definitions.
use Rattle.std.proofs.Common.{◌≡◌, ℕ, ◌^◌, ◌<◌, ◌≤◌, ℤ, pos, negsuc, ◌*ℤ◌, lit<, arith, FitsSigned}
use Rattle.std.proofs.lemmas.Int.{ints, to_z-of_z, fits_signed_mul}
use Rattle.std.specs.Prelude.{unsigned_abs}
use Rattle.std.specs.Int.{w32, w64, cast_signed, cast_unsigned}
use Rattle.mips_instruction.specs.Numbers.{reduced_64, signed_number}

-- the signed value of a number of 32 bits
pub signed-is : (n : ℕ) → n < 2 ^ 32 → cast_signed w32 n ≡ signed_number n
signed-is n below = grind (arith, ints)

-- a whole number that 64 signed bits hold, in those bits
reduced_64-is : (z : ℤ) → FitsSigned w64 z → cast_unsigned w64 z ≡ reduced_64 z
reduced_64-is (pos n) fits = omega (arith, fits.sfits)
reduced_64-is (negsuc n) fits = omega (arith, fits.sfits)

-- how large a number of 32 signed bits is
unsigned_abs-small : (z : ℤ) → FitsSigned w32 z → unsigned_abs z ≤ 2 ^ 31
unsigned_abs-small (pos n) fits = omega (arith, fits.sfits)
unsigned_abs-small (negsuc n) fits = omega (arith, fits.sfits)

-- and it is one of 64 signed bits too
fits-wider : (z : ℤ) → FitsSigned w32 z → FitsSigned w64 z
fits-wider z fits = record { sfits = omega (arith, fits.sfits) }

-- the product of two numbers of 32 signed bits, in 64 bits
pub product-is : (x y : ℤ) → FitsSigned w32 x → FitsSigned w32 y
    → cast_unsigned w64 (cast_signed w64
    (cast_unsigned w64 (cast_signed w64 (cast_unsigned w64 x) *ℤ cast_signed w64
    (cast_unsigned w64 y)))) ≡ reduced_64 (x *ℤ y)
product-is x y x_fits y_fits =
    let whole : FitsSigned w64 (x *ℤ y) = fits_signed_mul w64 x y (2 ^ 31) (2 ^ 31)
    (unsigned_abs-small x x_fits) (unsigned_abs-small y y_fits) (lit< tt) in
    rw (
      to_z-of_z w64 x (fits-wider x x_fits),
      to_z-of_z w64 y (fits-wider y y_fits),
      to_z-of_z w64
          (x *ℤ y) whole,
    ) (reduced_64-is (x *ℤ y) whole)
