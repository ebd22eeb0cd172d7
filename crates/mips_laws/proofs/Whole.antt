-- Numbers of 32 and 64 bits as whole numbers, and back.
use Rattle.std.proofs.Common.{◌≡◌, ℕ, suc, ◌+◌, ◌-◌, ◌^◌, ◌<◌, ◌≤◌, nat_lt, ℤ, pos, negsuc, ◌-ℤ◌, if◌then◌else◌, refl, sym, subst, lit≤, arith, FitsSigned}
use Rattle.std.proofs.lemmas.Bool.{cond_both, ltb-true, ltb-false}
use Rattle.std.proofs.lemmas.Int.{ints}
use Rattle.std.specs.Prelude.{unsigned_abs}
use Rattle.std.specs.Int.{w32, w64}
use Rattle.mips_instruction.specs.Numbers.{number_modulo_word, reduced_64, sign_extended, signed_16, signed_8, signed_number}
use Rattle.mips_laws.specs.Products.{signed_64}

-- a number of at most 32 bits, read with its sign, is held by 32 signed bits
with_sign-fits : (half whole n : ℕ) → whole ≡ half + half → half ≤ 2 ^ 31 → n < whole
    → FitsSigned w32 (if nat_lt n half then pos n else pos n -ℤ pos whole)
with_sign-fits half whole n twice few below =
    cond_both (nat_lt n half) _ _ (FitsSigned w32)
    (λ low. let small : n < half = ltb-true n half low in record { sfits = omega arith })
    (λ high.
    let large : half ≤ n = ltb-false n half high in
    let is : pos n -ℤ pos whole ≡ negsuc (whole - suc n) = omega (arith, ints) in
    subst (FitsSigned w32) (sym is) (record { sfits = omega arith }))

pub signed-fits : (n : ℕ) → n < 2 ^ 32 → FitsSigned w32 (signed_number n)
signed-fits n below = with_sign-fits (2 ^ 31) (2 ^ 32) n refl (lit≤ tt) below

-- a whole number in 32 bits
pub reduced-below : (z : ℤ) → number_modulo_word z < 2 ^ 32
reduced-below (pos n) = omega arith
reduced-below (negsuc n) = omega arith

-- where 32 signed bits hold it, the bits stand for it
pub signed-reduced : (z : ℤ) → FitsSigned w32 z → signed_number (number_modulo_word z) ≡ z
signed-reduced (pos n) fits = let small : n < 2 ^ 31 = fits.sfits in grind (arith, ints)
signed-reduced (negsuc n) fits = let small : n < 2 ^ 31 = fits.sfits in grind (arith, ints)

-- the same of 64 bits
pub reduced_64-below : (z : ℤ) → reduced_64 z < 2 ^ 64
reduced_64-below (pos n) = omega arith
reduced_64-below (negsuc n) = omega arith

pub signed_64-reduced : (z : ℤ) → FitsSigned w64 z → signed_64 (reduced_64 z) ≡ z
signed_64-reduced (pos n) fits = let small : n < 2 ^ 63 = fits.sfits in grind (arith, ints)
signed_64-reduced (negsuc n) fits = let small : n < 2 ^ 63 = fits.sfits in grind (arith, ints)

-- how large a number of 32 signed bits is
pub unsigned_abs-fits : (z : ℤ) → FitsSigned w32 z → unsigned_abs z ≤ 2 ^ 31
unsigned_abs-fits (pos n) fits = omega (arith, fits.sfits)
unsigned_abs-fits (negsuc n) fits = omega (arith, fits.sfits)

-- a number that isn't 0 stands for none that is 0
pub signed-size : (n : ℕ) → n < 2 ^ 32 → (n ≡ 0 → ⊥) → 0 < unsigned_abs (signed_number n)
signed-size n below not_zero =
    cond_both (nat_lt n (2 ^ 31)) _ _ (λ z. 0 < unsigned_abs z)
    (λ low. omega (arith, not_zero))
    (λ high.
    let large : 2 ^ 31 ≤ n = ltb-false n (2 ^ 31) high in
    let is : pos n -ℤ pos (2 ^ 32) ≡ negsuc (2 ^ 32 - suc n) = omega (arith, ints) in
    subst (λ z. 0 < unsigned_abs z) (sym is) (omega arith))

-- an immediate extended by its sign stands for the same number
pub signed-extended : (imm : ℕ) → imm < 2 ^ 16 → signed_number (sign_extended imm) ≡ signed_16 imm
signed-extended imm below =
    signed-reduced (signed_16 imm) (with_sign-fits (2 ^ 15) (2 ^ 16) imm refl (lit≤ tt) below)

-- and so does a byte
pub signed-byte : (n : ℕ) → n < 2 ^ 8 → signed_number (number_modulo_word (signed_8 n)) ≡ signed_8 n
signed-byte n below =
    signed-reduced (signed_8 n) (with_sign-fits (2 ^ 7) (2 ^ 8) n refl (lit≤ tt) below)
