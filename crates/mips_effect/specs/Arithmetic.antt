-- What instructions compute. Signed values are whole numbers, and a sum or product is taken whole
-- and then reduced.
-- Source: Kane and Heinrich, MIPS RISC Architecture, appendix A (MIPS I).
use Rattle.std.specs.Prelude.{ℕ, ◌+◌, ◌-◌, ◌*◌, ◌/◌, ◌%◌, ◌^◌, ◌==◌, ◌&&◌, Bool, ℤ, pos, ◌+ℤ◌, ◌-ℤ◌, ◌*ℤ◌, int_lt, int_le, int_div, int_rem, Option, Some, None, if◌then◌else◌}
use Rattle.std.specs.Int.{int_div_euclid}
use Rattle.xom_base.specs.declared.step.Writes.{Writes}
use Rattle.xom_base.specs.declared.step.Writes.TheVariants as writes
use Rattle.mips_instruction.specs.Numbers.{number_modulo_word, reduced_64, signed_number}

-- ---- Sums, shifts and comparisons

-- the difference that wraps
abbrev pub minus : ℕ → ℕ → ℕ
minus s t = number_modulo_word (pos s -ℤ pos t)

-- a whole number, where 32 signed bits hold it
abbrev pub in_32 : ℤ → Option ℕ
in_32 z =
    if int_le (pos 0 -ℤ pos (2 ^ 31)) z && int_lt z (pos (2 ^ 31)) then Some (number_modulo_word z) else None

-- the signed sum, where 32 bits hold it
abbrev pub sum : ℕ → ℕ → Option ℕ
sum s t = in_32 (signed_number s +ℤ signed_number t)

-- the signed difference, where 32 bits hold it
abbrev pub difference : ℕ → ℕ → Option ℕ
difference s t = in_32 (signed_number s -ℤ signed_number t)

-- a shift to the right that copies the sign: the signed number divided by a power of two, rounded
-- down
abbrev pub shifted_signed : ℕ → ℕ → ℕ
shifted_signed t by = number_modulo_word (int_div_euclid (signed_number t) (pos (2 ^ by)))

-- one number is below another as signed numbers
abbrev pub is_less : ℕ → ℕ → Bool
is_less s t = int_lt (signed_number s) (signed_number t)

-- 1 where it holds, else 0
abbrev pub bit_if : Bool → ℕ
bit_if holds = if holds then 1 else 0

-- ---- Products and quotients

-- a number of 64 bits, its high half for HI and its low half for LO
abbrev pub pair_of_halves : ℕ → Writes
pair_of_halves n = writes.Pair (n / 2 ^ 32) (n % 2 ^ 32)

-- the signed product
abbrev pub product : ℕ → ℕ → ℕ
product s t = reduced_64 (signed_number s *ℤ signed_number t)

-- the remainder for HI and the quotient for LO, of signed numbers: the quotient goes towards zero,
-- and the remainder has the dividend's sign.
-- Where the divisor is 0 the manual says nothing: LO is 0 and HI the dividend.
abbrev pub quotient_and_remainder : ℕ → ℕ → Writes
quotient_and_remainder s t =
    if t == 0 then writes.Pair s 0 else writes.Pair (number_modulo_word (int_rem (signed_number s) (signed_number t)))
    (number_modulo_word (int_div (signed_number s) (signed_number t)))

-- the same of unsigned numbers
abbrev pub divided_unsigned : ℕ → ℕ → Writes
divided_unsigned s t = if t == 0 then writes.Pair s 0 else writes.Pair (s % t) (s / t)

-- ---- Parts of words, where place 0 is a word's first byte, the highest

-- the byte at a place of a word
abbrev pub byte_in_word : ℕ → ℕ → ℕ
byte_in_word word place = word / 2 ^ (24 - 8 * place) % 2 ^ 8

-- the half-word that begins at a place of a word
abbrev pub half_of : ℕ → ℕ → ℕ
half_of word place = word / 2 ^ (16 - 8 * place) % 2 ^ 16

-- the bytes from a place to the word's end at the high end of a register, whose other bytes stay
abbrev pub left_merged : ℕ → ℕ → ℕ → ℕ
left_merged old place word = word % 2 ^ (8 * (4 - place)) * 2 ^ (8 * place) + old % 2 ^ (8 * place)

-- the bytes from the word's start through a place at the low end of a register, whose other bytes
-- stay
abbrev pub right_merged : ℕ → ℕ → ℕ → ℕ
right_merged old place word =
    old / 2 ^ (8 * (place + 1)) * 2 ^ (8 * (place + 1)) + word / 2 ^ (8 * (3 - place))
