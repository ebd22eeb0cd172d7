-- The state of FIPS 197, 3.4, and the four transformations of section 5.1. A state is a list of 16
-- bytes, column after column.
use Rattle.std.specs.Prelude.{ℕ, ◌+◌, ◌*◌, ◌%◌, List, [], ◌∷◌, bit_xor, slice_index, slice_index_or}
use Rattle.aes_block.specs.Field.{times}
use Rattle.aes_block.specs.Substitution.{s_box}

-- the byte in row r and column c, each from 0 to 3 (3.4)
abbrev pub at : List ℕ → ℕ → ℕ → ℕ
at s r c = slice_index s (r + 4 * c)

-- the state with these bytes, each told by row and column
abbrev pub state_by_place : (ℕ → ℕ → ℕ) → List ℕ
state_by_place byte =
    byte 0 0 ∷ byte 1 0 ∷ byte 2 0 ∷ byte 3 0
    ∷ byte 0 1 ∷ byte 1 1 ∷ byte 2 1 ∷ byte 3 1
    ∷ byte 0 2 ∷ byte 1 2 ∷ byte 2 2 ∷ byte 3 2
    ∷ byte 0 3 ∷ byte 1 3 ∷ byte 2 3 ∷ byte 3 3 ∷ []

-- SUBBYTES (5.1.1)
unfoldable pub sub_bytes : List ℕ → List ℕ
sub_bytes s = state_by_place (λ r c. s_box (at s r c))

-- SHIFTROWS: row r goes r places to the left, around (5.1.2)
unfoldable pub shift_rows : List ℕ → List ℕ
shift_rows s = state_by_place (λ r c. at s r ((c + r) % 4))

-- a byte of a mixed column, from the bytes of the column before, from its own row on and around
-- (5.1.3)
unfoldable pub mixed_byte : ℕ → ℕ → ℕ → ℕ → ℕ
mixed_byte a b d e = bit_xor (bit_xor (bit_xor (times 2 a) (times 3 b)) d) e

-- MIXCOLUMNS (5.1.3)
unfoldable pub mix_columns : List ℕ → List ℕ
mix_columns s = state_by_place
    (λ r c. mixed_byte (at s r c) (at s ((r + 1) % 4) c) (at s ((r + 2) % 4) c) (at s ((r + 3) % 4) c))

-- ADDROUNDKEY: column c of the state and word 4 * round + c of the key schedule are added (5.1.4)
unfoldable pub add_round_key : List (List ℕ) → ℕ → List ℕ → List ℕ
add_round_key words round s = state_by_place
    (λ r c. bit_xor (at s r c) (slice_index (slice_index_or words (4 * round + c) []) r))
