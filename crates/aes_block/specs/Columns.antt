-- A state, or a key schedule, as words of 32 bits: a column is one word, its first byte the
-- highest.
use Rattle.std.specs.Prelude.{ℕ, List, [], ◌∷◌, ◌++◌, map, slice_index}
use Rattle.std.specs.Int.{w32, to_be_bytes}
use Rattle.aes_block.specs.Field.{times}
use Rattle.aes_block.specs.State.{mixed_byte}
use Rattle.aes_block.specs.Substitution.{s_box}

-- the words as lists of four bytes
abbrev pub words_in : List ℕ → List (List ℕ)
words_in words = map (to_be_bytes w32) words

-- the 16 bytes of four columns
abbrev pub bytes_of_columns : List ℕ → List ℕ
bytes_of_columns columns =
    to_be_bytes w32 (slice_index columns 0) ++ (to_be_bytes w32 (slice_index columns 1)
    ++ (to_be_bytes w32 (slice_index columns 2) ++ to_be_bytes w32 (slice_index columns 3)))

-- the byte of a column in row r
abbrev pub byte_in_row : ℕ → ℕ → ℕ
byte_in_row r column = slice_index (to_be_bytes w32 column) r

-- ---- Rounds, a column at a time

-- the bytes that SUBBYTES and SHIFTROWS put into one column: that of row r comes from the r-th of
-- the four
unfoldable pub shifted_column : ℕ → ℕ → ℕ → ℕ → List ℕ
shifted_column a b c d = s_box (byte_in_row 0 a) ∷ s_box (byte_in_row 1 b) ∷ s_box (byte_in_row 2 c) ∷ s_box (byte_in_row 3 d) ∷ []

-- the same, and MIXCOLUMNS
unfoldable pub mixed_column : ℕ → ℕ → ℕ → ℕ → List ℕ
mixed_column a b c d =
    mixed_byte (s_box (byte_in_row 0 a)) (s_box (byte_in_row 1 b)) (s_box (byte_in_row 2 c)) (s_box (byte_in_row 3 d))
    ∷ mixed_byte (s_box (byte_in_row 1 b)) (s_box (byte_in_row 2 c)) (s_box (byte_in_row 3 d)) (s_box (byte_in_row 0 a))
    ∷ mixed_byte (s_box (byte_in_row 2 c)) (s_box (byte_in_row 3 d)) (s_box (byte_in_row 0 a)) (s_box (byte_in_row 1 b))
    ∷ mixed_byte (s_box (byte_in_row 3 d)) (s_box (byte_in_row 0 a)) (s_box (byte_in_row 1 b)) (s_box (byte_in_row 2 c)) ∷ []

-- ---- The four tables: what MIXCOLUMNS makes of a column that has this byte in one row and zeros
-- in the others

-- the column of this byte in the first row of the state and zeros, mixed
unfoldable pub column_from_row_0 : ℕ → List ℕ
column_from_row_0 byte = times 2 byte ∷ byte ∷ byte ∷ times 3 byte ∷ []

-- the column of this byte in the second row of the state and zeros, mixed
unfoldable pub column_from_row_1 : ℕ → List ℕ
column_from_row_1 byte = times 3 byte ∷ times 2 byte ∷ byte ∷ byte ∷ []

-- the column of this byte in the third row of the state and zeros, mixed
unfoldable pub column_from_row_2 : ℕ → List ℕ
column_from_row_2 byte = byte ∷ times 3 byte ∷ times 2 byte ∷ byte ∷ []

-- the column of this byte in the fourth row of the state and zeros, mixed
unfoldable pub column_from_row_3 : ℕ → List ℕ
column_from_row_3 byte = byte ∷ byte ∷ times 3 byte ∷ times 2 byte ∷ []
