-- MULT and MULTU leave the whole product.
use Rattle.std.proofs.Common.{ℕ, ◌*◌, ◌/◌, ◌%◌, ◌^◌, ◌<◌, ℤ, pos, ◌*ℤ◌, refl, ap, ◌∙◌, lit<, arith, FitsSigned, div-add-mod'}
use Rattle.std.proofs.lemmas.Int.{fits_signed_mul}
use Rattle.std.proofs.lemmas.Nat.{mul-lt}
use Rattle.std.specs.Int.{w64}
use Rattle.mips_instruction.specs.Numbers.{reduced_64, signed_number}
use Rattle.mips_effect.specs.Effects.{act}
use Rattle.mips_laws.specs.Products.{signed_64, MultMultiplies, MultuMultiplies}
use Rattle.mips_laws.proofs.Whole.{signed-fits, reduced_64-below, signed_64-reduced, unsigned_abs-fits}

-- the halves of a number of 64 bits
high-below : (n : ℕ) → n < 2 ^ 64 → n / 2 ^ 32 < 2 ^ 32
high-below n below = omega arith

low-below : (n : ℕ) → n % 2 ^ 32 < 2 ^ 32
low-below n = omega arith

pub mult_multiplies : MultMultiplies
unfolding act
mult_multiplies rs rt s t s_below t_below =
    let x : ℤ = signed_number s in
    let y : ℤ = signed_number t in
    let x_small = unsigned_abs-fits x (signed-fits s s_below) in
    let y_small = unsigned_abs-fits y (signed-fits t t_below) in
    let fits : FitsSigned w64 (x *ℤ y) = fits_signed_mul w64 x y (2 ^ 31) (2 ^ 31) x_small y_small
    (lit< tt) in
    let n : ℕ = reduced_64 (x *ℤ y) in
    record {
      hi = n / 2 ^ 32;
      lo = n % 2 ^ 32;
      hi_bits = high-below n (reduced_64-below (x *ℤ y));
      lo_bits = low-below n;
      writes = λ mode d following. refl;
      product_is = ap signed_64 (div-add-mod' n (2 ^ 32)) ∙ signed_64-reduced (x *ℤ y) fits;
    }

pub multu_multiplies : MultuMultiplies
unfolding act
multu_multiplies rs rt s t s_below t_below =
    let n : ℕ = s * t in
    record {
      hi = n / 2 ^ 32;
      lo = n % 2 ^ 32;
      hi_bits = high-below n (mul-lt s t (2 ^ 32) (2 ^ 32) s_below t_below);
      lo_bits = low-below n;
      writes = λ mode d following. refl;
      product_is = ap pos (div-add-mod' n (2 ^ 32));
    }
