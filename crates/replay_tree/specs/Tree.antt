-- A tree of hashes over the versions of a guest's lines: each block above the leaves has the
-- digests of eight blocks of the level below it, so one digest, the root, fixes them all.
use Rattle.std.specs.Prelude.{◌≡◌, ℕ, zero, suc, ◌+◌, ◌*◌, ◌^◌, ◌<◌, List, [], ◌∷◌, ◌++◌}
use Rattle.std.specs.Int.{w64, to_be_bytes}
use Rattle.std.specs.List.{Contains}
use Rattle.sha2.specs.Sha256.{sha256}
use Rattle.xom_base.specs.declared.entry.Entry.{Entry}
use Rattle.xom_versions.specs.Store.{Store, hash_entry}

-- ---- Blocks

-- so many parts, one behind another
unfoldable pub parts_joined : (ℕ → List ℕ) → ℕ → List ℕ
parts_joined part zero = []
parts_joined part (suc n) = parts_joined part n ++ part n

-- what is hashed of a block: its level as one byte, then the block
abbrev pub block_text : ℕ → List ℕ → List ℕ
block_text level block = level ∷ block

-- the digest of a block (FIPS 180-4, section 6.2)
abbrev pub digest_of : ℕ → List ℕ → List ℕ
digest_of level block = sha256 (block_text level block)

-- the block of this index at this level: eight versions of eight bytes at level 0, eight digests of
-- the level below above it
unfoldable pub node : (ℕ → ℕ) → ℕ → ℕ → List ℕ
node numbers zero i = parts_joined (λ k. to_be_bytes w64 (numbers (8 * i + k))) 8
node numbers (suc level) i = parts_joined (λ k. digest_of level (node numbers level (8 * i + k))) 8

-- how many lines a tree has whose one block without a parent is at level `top`
abbrev pub tree_lines : ℕ → ℕ
tree_lines top = 8 ^ (top + 1)

-- the digest that stands for all the numbers
abbrev pub root_of : ℕ → (ℕ → ℕ) → List ℕ
root_of top numbers = digest_of top (node numbers top 0)

-- ---- What a store stands for

-- the text of a block stands in the journal as hashed, and so does that of each block below it
unfoldable pub AreHashed : List Entry → (ℕ → ℕ) → ℕ → ℕ → Type 0
AreHashed entries numbers zero i = Contains entries (hash_entry (block_text 0 (node numbers 0 i)))
AreHashed entries numbers (suc level) i =
    Contains entries (hash_entry (block_text (suc level) (node numbers (suc level) i)))
    × ((k : ℕ) → k < 8 → AreHashed entries numbers level (8 * i + k))

-- the root is that of the numbers, each block of their tree was hashed, and each number fits its
-- field
pub record TreeStands (top : ℕ) (store : Store) (entries : List Entry) (numbers : ℕ → ℕ) : Type
    0 where
  pub root : store.root ≡ root_of top numbers
  pub hashed : AreHashed entries numbers top 0
  pub fields : (line : ℕ) → line < tree_lines top → numbers line < 2 ^ 64
