-- A set of cells as a word of 64 bits: bit r is cell r.
use Rattle.std.specs.Prelude.{◌≡◌, ℕ, ◌^◌, bit_and, bit_or}
use Rattle.std.specs.Int.{bit_at, bit_not, w64}

-- the cell is in the set
abbrev pub IsOwned : ℕ → ℕ → Type 0
IsOwned mask reg = bit_at mask reg ≡ 1

-- the set with a cell
unfoldable pub mask_with_cell : ℕ → ℕ → ℕ
mask_with_cell mask reg = bit_or mask (2 ^ reg)

-- the set without a cell
unfoldable pub without_cell : ℕ → ℕ → ℕ
without_cell mask reg = bit_and mask (bit_not w64 (2 ^ reg))
