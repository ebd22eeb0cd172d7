-- The path of a line: the one block at each level that its version is under. It is checked from the
-- root down and renewed from the leaf up.
use Rattle.std.specs.Prelude.{ℕ, zero, suc, ◌+◌, ◌*◌, ◌/◌, ◌%◌, List, [], ◌∷◌, ◌++◌, Option, Some, None, bytes_eq, if◌then◌else◌}
use Rattle.std.specs.Int.{w64, from_be_bytes, to_be_bytes}
use Rattle.line_ram.specs.Bytes.{bytes_at, ram_with_bytes}
use Rattle.replay_tree.specs.Area.{block_in, block_offset, part_size}
use Rattle.replay_tree.specs.Tree.{block_text, digest_of}

-- ---- Which blocks

-- the index of the line's block at a level
unfoldable pub index_at : ℕ → ℕ → ℕ
index_at zero line = line / 8
index_at (suc level) line = index_at level line / 8

-- which of the eight parts of that block the line is under
unfoldable pub part_at : ℕ → ℕ → ℕ
part_at zero line = line % 8
part_at (suc level) line = index_at level line % 8

-- where that part begins in its block
abbrev pub part_offset : ℕ → ℕ → ℕ
part_offset level line = part_size level * part_at level line

-- the part of a block that the line is under
abbrev pub part_in : ℕ → ℕ → List ℕ → List ℕ
part_in level line block = bytes_at block (part_offset level line) (part_size level)

-- the block with another such part
abbrev pub with_part : ℕ → ℕ → List ℕ → List ℕ → List ℕ
with_part level line block part = ram_with_bytes block (part_offset level line) part

-- where the block begins in the area
abbrev pub path_offset : ℕ → ℕ → ℕ → ℕ
path_offset top line level = block_offset top level (index_at level line)

-- the block that RAM has on the path of a line, at a level
abbrev pub path_in : ℕ → ℕ → List ℕ → ℕ → ℕ → List ℕ
path_in top area ram line level = block_in top area ram level (index_at level line)

-- ---- The check, of the block at each level, from a level down; the digest of its block is to be
-- `wanted`

-- the level of the first block whose digest is another than the one above says
unfoldable pub torn_at : (ℕ → List ℕ) → ℕ → ℕ → List ℕ → Option ℕ
torn_at path line zero wanted = if bytes_eq (digest_of 0 (path 0)) wanted then None else Some 0
torn_at path line (suc level) wanted =
    if bytes_eq (digest_of (suc level) (path (suc level))) wanted
    then torn_at path line level (part_in (suc level) line (path (suc level)))
    else Some (suc level)

-- the texts that it hashes: those down to that block, or all
unfoldable pub checked_texts : (ℕ → List ℕ) → ℕ → ℕ → List ℕ → List (List ℕ)
checked_texts path line zero wanted = block_text 0 (path 0) ∷ []
checked_texts path line (suc level) wanted =
    block_text (suc level) (path (suc level))
    ∷ (if bytes_eq (digest_of (suc level) (path (suc level))) wanted
    then checked_texts path line level (part_in (suc level) line (path (suc level)))
    else [])

-- the line's version, in the leaf
abbrev pub version_in_leaf : (ℕ → List ℕ) → ℕ → ℕ
version_in_leaf path line = from_be_bytes w64 (part_in 0 line (path 0))

-- ---- The renewal

-- the new block of a level, where the line gets this version: all but one part is of the block that
-- was checked
unfoldable pub block_after_raise : (ℕ → List ℕ) → ℕ → ℕ → ℕ → List ℕ
block_after_raise path line number zero = with_part 0 line (path 0) (to_be_bytes w64 number)
block_after_raise path line number (suc level) =
    with_part (suc level) line (path (suc level)) (digest_of level (block_after_raise path line number level))

-- the texts of the new blocks up to a level, the leaf's first
unfoldable pub renewed_texts : (ℕ → List ℕ) → ℕ → ℕ → ℕ → List (List ℕ)
renewed_texts path line number zero = block_text 0 (block_after_raise path line number 0) ∷ []
renewed_texts path line number (suc level) =
    renewed_texts path line number level ++ block_text (suc level)
    (block_after_raise path line number (suc level)) ∷ []

-- RAM with the new blocks up to a level
unfoldable pub ram_renewed : ℕ → ℕ → (ℕ → List ℕ) → ℕ → ℕ → ℕ → List ℕ → List ℕ
ram_renewed top area path line number zero ram =
    ram_with_bytes ram (area + path_offset top line 0) (block_after_raise path line number 0)
ram_renewed top area path line number (suc level) ram =
    ram_with_bytes (ram_renewed top area path line number level ram)
    (area + path_offset top line (suc level)) (block_after_raise path line number (suc level))
