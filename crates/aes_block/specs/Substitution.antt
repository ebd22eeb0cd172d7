-- The substitution box of FIPS 197, 5.1.1: the inverse in the field, and then an affine map.
use Rattle.std.specs.Prelude.{ℕ, zero, suc, ◌+◌, ◌*◌, ◌^◌, ◌%◌}
use Rattle.std.specs.Int.{bit_at}
use Rattle.aes_block.specs.Field.{inverse}

-- bit i of the affine map's value: the sum of the bits i, i + 4, i + 5, i + 6 and i + 7 of b,
-- counted
-- modulo 8, and of bit i of {63}
abbrev pub affine_bit : ℕ → ℕ → ℕ
affine_bit b i =
    (bit_at b i + bit_at b ((i + 4) % 8) + bit_at b ((i + 5) % 8) + bit_at b ((i + 6) % 8)
    + bit_at b ((i + 7) % 8) + bit_at 0x63 i) % 2

-- the lowest n bits of the affine map's value
unfoldable pub affine_bits : ℕ → ℕ → ℕ
affine_bits zero b = 0
affine_bits (suc i) b = affine_bits i b + affine_bit b i * 2 ^ i

-- SBOX
unfoldable pub s_box : ℕ → ℕ
s_box b = affine_bits 8 (inverse b)
