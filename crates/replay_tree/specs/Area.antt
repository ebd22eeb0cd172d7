-- Where the blocks of a tree lie in its area of RAM: level by level from the leaves up, each
-- level's blocks in order.
use Rattle.std.specs.Prelude.{ℕ, zero, suc, ◌+◌, ◌-◌, ◌*◌, ◌^◌, List, [], ◌∷◌, ◌++◌}
use Rattle.line_ram.specs.Bytes.{bytes_at}
use Rattle.replay_tree.specs.Tree.{block_text, node, parts_joined}

-- ---- Sizes

-- how many bytes one of the eight parts of a block has: a version, or a digest
unfoldable pub part_size : ℕ → ℕ
part_size zero = 8
part_size (suc level) = 32

-- how many bytes a block of a level has
abbrev pub tree_block_size : ℕ → ℕ
tree_block_size level = 8 * part_size level

-- how many blocks a level has
abbrev pub width : ℕ → ℕ → ℕ
width top level = 8 ^ (top - level)

-- where a level begins in the area, in bytes
unfoldable pub level_offset : ℕ → ℕ → ℕ
level_offset top zero = 0
level_offset top (suc level) = level_offset top level + tree_block_size level * width top level

-- where a block begins in the area
abbrev pub block_offset : ℕ → ℕ → ℕ → ℕ
block_offset top level i = level_offset top level + tree_block_size level * i

-- the block that RAM has there
abbrev pub block_in : ℕ → ℕ → List ℕ → ℕ → ℕ → List ℕ
block_in top area ram level i = bytes_at ram (area + block_offset top level i) (tree_block_size level)

-- ---- A whole tree

-- the blocks of a level, one behind another
abbrev pub level_bytes : ℕ → (ℕ → ℕ) → ℕ → List ℕ
level_bytes top numbers level = parts_joined (node numbers level) (width top level)

-- the bytes of the whole area
abbrev pub area_bytes : ℕ → (ℕ → ℕ) → List ℕ
area_bytes top numbers = parts_joined (level_bytes top numbers) (top + 1)

-- the texts of a level's first blocks
unfoldable pub level_texts : (ℕ → ℕ) → ℕ → ℕ → List (List ℕ)
level_texts numbers level zero = []
level_texts numbers level (suc n) =
    level_texts numbers level n ++ block_text level (node numbers level n) ∷ []

-- the texts of all blocks of the levels up to this one, the leaves' first
unfoldable pub texts_up_to : ℕ → (ℕ → ℕ) → ℕ → List (List ℕ)
texts_up_to top numbers zero = level_texts numbers 0 (width top 0)
texts_up_to top numbers (suc level) =
    texts_up_to top numbers level ++ level_texts numbers (suc level) (width top (suc level))

-- the texts of all blocks of the levels below this one
abbrev pub texts_below : ℕ → (ℕ → ℕ) → ℕ → List (List ℕ)
texts_below top numbers zero = []
texts_below top numbers (suc level) = texts_up_to top numbers level
