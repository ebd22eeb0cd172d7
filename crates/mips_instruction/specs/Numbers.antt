-- The 32-bit numbers that instructions compute with, as whole numbers, and the addresses that they
-- name. A sum is taken whole and then reduced.
-- Source: Kane and Heinrich, MIPS RISC Architecture, appendix A (MIPS I).
use Rattle.std.specs.Prelude.{ℕ, ◌+◌, ◌*◌, ◌/◌, ◌%◌, ◌^◌, nat_lt, ℤ, pos, ◌+ℤ◌, ◌-ℤ◌, ◌*ℤ◌, unsigned_abs, if◌then◌else◌}
use Rattle.std.specs.Int.{int_rem_euclid}

-- ---- Signed numbers

-- a number of 8 bits with its sign
abbrev pub signed_8 : ℕ → ℤ
signed_8 n = if nat_lt n (2 ^ 7) then pos n else pos n -ℤ pos (2 ^ 8)

-- a number of 16 bits with its sign
abbrev pub signed_16 : ℕ → ℤ
signed_16 n = if nat_lt n (2 ^ 15) then pos n else pos n -ℤ pos (2 ^ 16)

-- a number of 32 bits with its sign
abbrev pub signed_number : ℕ → ℤ
signed_number n = if nat_lt n (2 ^ 31) then pos n else pos n -ℤ pos (2 ^ 32)

-- a whole number reduced to 32 bits
abbrev pub number_modulo_word : ℤ → ℕ
number_modulo_word z = unsigned_abs (int_rem_euclid z (pos (2 ^ 32)))

-- a whole number reduced to 64 bits
abbrev pub reduced_64 : ℤ → ℕ
reduced_64 z = unsigned_abs (int_rem_euclid z (pos (2 ^ 64)))

-- an immediate extended by its sign to 32 bits
abbrev pub sign_extended : ℕ → ℕ
sign_extended imm = number_modulo_word (signed_16 imm)

-- ---- Addresses

-- the sum of a number and a signed immediate: addiu, and the address of an access
abbrev pub plus_signed : ℕ → ℕ → ℕ
plus_signed n imm = number_modulo_word (pos n +ℤ signed_16 imm)

-- the target of a branch, told of the address of the following instruction
abbrev pub target : ℕ → ℕ → ℕ
target following imm = number_modulo_word (pos following +ℤ signed_16 imm *ℤ pos 4)

-- the target of a jump: the top 4 bits of the following address, the index, and two zero bits
abbrev pub jump_target : ℕ → ℕ → ℕ
jump_target following index = following / 2 ^ 28 * 2 ^ 28 + index * 4

-- the address of the instruction after the one at this address
abbrev pub next_address : ℕ → ℕ
next_address address = (address + 4) % 2 ^ 32
