-- The field of 256 elements of FIPS 197, section 4, in whose update 1 the sections have the numbers
-- given here. A polynomial whose coefficients are 0 and 1 is a number whose bits are the
-- coefficients,
-- as the standard writes bytes (3.2): {63} is x ^ 6 + x ^ 5 + x + 1. A byte is a polynomial of a
-- degree
-- below 8. The sum of two polynomials is their exclusive or (4.1).
use Rattle.std.specs.Prelude.{ℕ, zero, suc, ◌+◌, ◌*◌, ◌^◌, ◌==◌, bit_xor, if◌then◌else◌}
use Rattle.std.specs.Int.{bit_at}

-- the polynomial m = x ^ 8 + x ^ 4 + x ^ 3 + x + 1, modulo which bytes are multiplied (4.2)
abbrev pub modulus : ℕ
modulus = 2 ^ 8 + 2 ^ 4 + 2 ^ 3 + 2 + 1

-- the product of b and the lowest n terms of a: the sum of x ^ i * b over those terms x ^ i
unfoldable pub polynomial_product : ℕ → ℕ → ℕ → ℕ
polynomial_product zero a b = 0
polynomial_product (suc i) a b = bit_xor (polynomial_product i a b) (bit_at a i * 2 ^ i * b)

-- what the division by m leaves of a polynomial of a degree below 8 + n: where it has a term
-- x ^ (8 + i), from the highest on, x ^ i * m is taken off
unfoldable pub remainder : ℕ → ℕ → ℕ
remainder zero p = p
remainder (suc i) p = remainder i (bit_xor p (bit_at p (8 + i) * 2 ^ i * modulus))

-- the product of two bytes in the field: their product modulo m, whose degree was at most 14 (4.2)
unfoldable pub times : ℕ → ℕ → ℕ
times a b = remainder 7 (polynomial_product 8 a b)

-- the first of the bytes n - 1, .., 0 whose product with b is {01}, or {00}
unfoldable pub inverse_below : ℕ → ℕ → ℕ
inverse_below zero b = 0
inverse_below (suc c) b = if times b c == 1 then c else inverse_below c b

-- the byte whose product with b is {01}; {00} for {00}, for which there is none (4.4)
unfoldable pub inverse : ℕ → ℕ
inverse b = inverse_below 256 b
