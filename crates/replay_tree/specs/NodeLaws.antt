-- Blocks of a tree: their sizes and parts, and how they change with one number.
use Rattle.std.proofs.Common.{◌≡◌, ◌≢◌, inl, inr, ℕ, ◌+◌, ◌*◌, ◌<◌, ◌≤◌, zero, suc, if◌then◌else◌, List, length, refl, sym, ◌∙◌, ap, arith}
use Rattle.std.specs.Int.{w64, to_be_bytes}
use Rattle.std.proofs.lemmas.Bool.Decides.{eqb_tells}
use Rattle.sha2.proofs.Facts256.{length-sha256}
use Rattle.line_ram.specs.Bytes.{bytes_at}
use Rattle.xom_versions.specs.Versions.{with_version}
use Rattle.replay_tree.specs.Tree.{block_text, digest_of, node}
use Rattle.replay_tree.specs.Area.{part_size, tree_block_size}
use Rattle.replay_tree.specs.Paths.{block_after_raise, index_at, part_at, part_in, with_part}
use Rattle.replay_tree.specs.PartLaws.{apart, alike, bytes-joined, joined-same, length-joined, stored-joined, with_at}

-- ---- Sizes

length-version : (n : ℕ) → length (to_be_bytes w64 n) ≡ 8
length-version n = refl

-- a block of the tree has the size of its level
pub length-node : (numbers : ℕ → ℕ) (level i : ℕ) → length (node numbers level i) ≡ tree_block_size level
unfolding node part_size
length-node numbers zero i =
    length-joined (λ k. to_be_bytes w64 (numbers (8 * i + k))) 8 8
    (λ k low. length-version (numbers (8 * i + k)))
length-node numbers (suc level) i =
    length-joined (λ k. digest_of level (node numbers level (8 * i + k))) 32 8
    (λ k low. length-sha256 (block_text level (node numbers level (8 * i + k))))

-- ---- Parts

-- part k of a leaf is the version of its line k, in eight bytes
pub part-leaf : (numbers : ℕ → ℕ) (i k : ℕ) → k < 8
    → bytes_at (node numbers 0 i) (8 * k) 8 ≡ to_be_bytes w64 (numbers (8 * i + k))
unfolding node
part-leaf numbers i k low =
    bytes-joined (λ k. to_be_bytes w64 (numbers (8 * i + k))) 8 8 k
    (λ k low. length-version (numbers (8 * i + k))) low

-- part k of a block above the leaves is the digest of its block k below
pub part-above : (numbers : ℕ → ℕ) (level i k : ℕ) → k < 8
    → bytes_at (node numbers (suc level) i) (32 * k) 32 ≡ digest_of level
    (node numbers level (8 * i + k))
unfolding node
part-above numbers level i k low =
    bytes-joined (λ k. digest_of level (node numbers level (8 * i + k))) 32 8 k
    (λ k low. length-sha256 (block_text level (node numbers level (8 * i + k)))) low

-- ---- The path of a line

-- the part that a line is under is one of eight
pub low-part : (level line : ℕ) → part_at level line < 8
unfolding part_at
low-part zero line = grind arith
low-part (suc level) line = grind arith

-- a line's leaf and its part of it tell the line
pub leaf-line : (line : ℕ) → 8 * index_at 0 line + part_at 0 line ≡ line
unfolding index_at part_at
leaf-line line = grind arith

-- a line's block and its part of it tell the block of the level below
pub child-index : (level line : ℕ)
    → 8 * index_at (suc level) line + part_at (suc level) line ≡ index_at level line
unfolding index_at part_at
child-index level line = let j = index_at level line in grind arith

-- lines 8 i to 8 i + 7 have leaf i
pub line-index : (i k : ℕ) → k < 8 → index_at 0 (8 * i + k) ≡ i
unfolding index_at
line-index i k low = grind arith

-- blocks 8 i to 8 i + 7 have block i above them
pub parent-index : (level line i k : ℕ) → k < 8 → index_at level line ≡ 8 * i + k
    → index_at (suc level) line ≡ i
unfolding index_at
parent-index level line i k low is = let j = index_at level line in grind arith

-- the version in its leaf, and the digest of a block in the one above
pub version-part : (numbers : ℕ → ℕ) (line : ℕ)
    → part_in 0 line (node numbers 0 (index_at 0 line)) ≡ to_be_bytes w64 (numbers line)
unfolding part_size
version-part numbers line =
    part-leaf numbers (index_at 0 line) (part_at 0 line) (low-part 0 line)
    ∙ ap (λ at. to_be_bytes w64 (numbers at)) (leaf-line line)

-- a block's part over a line is the digest of that line's block one level below
pub digest-part : (numbers : ℕ → ℕ) (level line : ℕ)
    → part_in (suc level) line (node numbers (suc level) (index_at (suc level) line)) ≡ digest_of
    level (node numbers level (index_at level line))
unfolding part_size
digest-part numbers level line =
    part-above numbers level (index_at (suc level) line) (part_at (suc level) line)
    (low-part (suc level) line)
    ∙ ap (λ i. digest_of level (node numbers level i)) (child-index level line)

-- ---- What a block depends on

-- a block depends only on the numbers of the lines under it
pub node-same : (numbers others : ℕ → ℕ) (level i : ℕ)
    → ((line : ℕ) → index_at level line ≡ i → numbers line ≡ others line)
    → node numbers level i ≡ node others level i
unfolding node
node-same numbers others zero i same =
    joined-same (λ k. to_be_bytes w64 (numbers (8 * i + k)))
    (λ k. to_be_bytes w64 (others (8 * i + k))) 8
    (λ k low. ap (to_be_bytes w64) (same (8 * i + k) (line-index i k low)))
node-same numbers others (suc level) i same =
    joined-same (λ k. digest_of level (node numbers level (8 * i + k)))
    (λ k. digest_of level (node others level (8 * i + k))) 8
    (λ k low. ap (digest_of level) (node-same numbers others level (8 * i + k)
    (λ line is. same line (parent-index level line i k low is))))

-- the numbers of other lines stay
pub other-number : (numbers : ℕ → ℕ) (line number at : ℕ) → at ≢ line
    → with_version numbers line number at ≡ numbers at
other-number numbers line number at differs =
    ap (λ b. if b then number else numbers at) (apart at line differs)

-- the number that was set is the line's
pub own-number : (numbers : ℕ → ℕ) (line number at : ℕ) → at ≡ line
    → with_version numbers line number at ≡ number
own-number numbers line number at is = ap (λ b. if b then number else numbers at) (alike at line is)

-- a block that isn't on the line's path stays
pub other-node : (numbers : ℕ → ℕ) (line number level i : ℕ) → index_at level line ≢ i
    → node (with_version numbers line number) level i ≡ node numbers level i
other-node numbers line number level i off =
    node-same (with_version numbers line number) numbers level i (λ at is. other-number numbers line
    number at (λ same. off (ap (index_at level) (sym same) ∙ is)))

-- ---- The new block

new-leaf : (numbers : ℕ → ℕ) (line number i : ℕ) → index_at 0 line ≡ i
    → with_part 0 line (node numbers 0 i) (to_be_bytes w64 number) ≡ node
    (with_version numbers line number) 0 i
unfolding node part_size
new-leaf numbers line number i is =
    let part : ℕ → List ℕ = λ k. to_be_bytes w64 (numbers (8 * i + k)) in
    let others : ℕ → ℕ = with_version numbers line number in
    stored-joined part 8 8 (part_at 0 line) (to_be_bytes w64 number)
    (λ k low. length-version (numbers (8 * i + k))) (low-part 0 line) (length-version number)
    ∙ joined-same (with_at part (part_at 0 line) (to_be_bytes w64 number))
    (λ k. to_be_bytes w64 (others (8 * i + k))) 8
    (λ k low. elim (eqb_tells k (part_at 0 line)) [
      | inl same ↦ ap (λ b. if b then to_be_bytes w64 number else part k)
          (alike k (part_at 0 line) same.1)
          ∙ ap (to_be_bytes w64)
          (sym (own-number numbers line number (8 * i + k) (let whole = leaf-line line in let at =
          same.1 in omega arith)))
      | inr differs ↦ ap (λ b. if b then to_be_bytes w64 number else part k)
          (apart k (part_at 0 line) differs.1)
          ∙ ap (to_be_bytes w64)
          (sym (other-number numbers line number (8 * i + k)
          (λ at. differs.1 (let whole = leaf-line line in omega arith))))
    ])

new-above : (numbers : ℕ → ℕ) (line number level i : ℕ) → index_at (suc level) line ≡ i
    → with_part (suc level) line (node numbers (suc level) i)
    (digest_of level (node (with_version numbers line number) level (index_at level line)))
    ≡ node (with_version numbers line number) (suc level) i
unfolding node part_size
new-above numbers line number level i is =
    let others : ℕ → ℕ = with_version numbers line number in
    let at = part_at (suc level) line in
    let part : ℕ → List ℕ = λ k. digest_of level (node numbers level (8 * i + k)) in
    let fresh = digest_of level (node others level (index_at level line)) in
    stored-joined part 32 8 at fresh
    (λ k low. length-sha256 (block_text level (node numbers level (8 * i + k))))
    (low-part (suc level) line)
    (length-sha256 (block_text level (node others level (index_at level line))))
    ∙ joined-same (with_at part at fresh) (λ k. digest_of level (node others level (8 * i + k))) 8
    (λ k low. elim (eqb_tells k at) [
      | inl same ↦ ap (λ b. if b then fresh else part k) (alike k at same.1)
          ∙ ap (λ j. digest_of level (node others level j)) (let whole = child-index level line in
          let here = same.1 in omega arith)
      | inr differs ↦ ap (λ b. if b then fresh else part k) (apart k at differs.1)
          ∙ ap (digest_of level)
          (sym (other-node numbers line number level (8 * i + k)
          (λ on. differs.1 (let whole = child-index level line in omega arith))))
    ])

-- where the blocks of a path are the tree's, the new ones are those of the changed numbers
pub renewed-node : (path : ℕ → List ℕ) (numbers : ℕ → ℕ) (line number level : ℕ)
    → ((below : ℕ) → below ≤ level → path below ≡ node numbers below (index_at below line))
    → block_after_raise path line number level ≡ node (with_version numbers line number) level
    (index_at level line)
unfolding block_after_raise
renewed-node path numbers line number zero on =
    ap (λ block. with_part 0 line block (to_be_bytes w64 number)) (on 0 (omega arith))
    ∙ new-leaf numbers line number (index_at 0 line) refl
renewed-node path numbers line number (suc level) on =
    ap (λ block. with_part (suc level) line block
    (digest_of level (block_after_raise path line number level))) (on (suc level) (omega arith))
    ∙ ap (λ block. with_part (suc level) line (node numbers (suc level) (index_at (suc level) line))
    (digest_of level block))
    (renewed-node path numbers line number level (λ below few. on below (omega arith)))
    ∙ new-above numbers line number level (index_at (suc level) line) refl
