-- A path in the area of a guest, and what a renewal of its lower blocks leaves of it.
use Rattle.std.proofs.Common.{◌≡◌, inl, ℕ, ◌+◌, ◌-◌, ◌*◌, ◌<◌, ◌≤◌, zero, suc, List, [], ◌∷◌, ◌++◌, take, drop, length, slice_set, refl, sym, ◌∙◌, ap, subst, arith}
use Rattle.std.proofs.lemmas.List.{append-nil, drop_all, length-drop, length-take-le, take_all}
use borrow.Rule.Slice.PartMut.{mid_of, put_mid}
use Rattle.line_ram.specs.Bytes.{HoldsRange, bytes_at}
use Rattle.line_ram.proofs.Ranges.{bytes-stored_apart}
use Rattle.xom_versions.specs.Store.{area_size, line_limit}
use Rattle.replay_tree.specs.Tree.{digest_of, tree_lines}
use Rattle.replay_tree.specs.Area.{block_in, block_offset, level_offset, part_size, tree_block_size, width}
use Rattle.replay_tree.specs.Calls.{top_level}
use Rattle.replay_tree.specs.Paths.{block_after_raise, index_at, path_in, path_offset, ram_renewed, with_part}
use Rattle.replay_tree.specs.PartLaws.{part-fits}
use Rattle.replay_tree.proofs.Levels.{renewed_above}
use Rattle.replay_tree.specs.PlaceLaws.{area_length, index-within, length-block, length-ram_renewed, length-renewed, offset-grows, path-within}

pub area_fits : area_length top_level ≡ area_size
unfolding level_offset part_size
area_fits = refl

pub index_within : (line level : ℕ) → line < line_limit → level ≤ top_level
    → index_at level line < width top_level level
index_within line level low few = index-within top_level line level low few

-- a block lies in the area
pub block_within : (level index : ℕ) → level ≤ top_level → index < width top_level level
    → block_offset top_level level index + tree_block_size level ≤ area_size
unfolding level_offset
block_within level index low few =
    let fits = part-fits (tree_block_size level) index (width top_level level) few in
    let next : level_offset top_level (suc level) ≡ level_offset top_level level + tree_block_size
    level * width top_level level = refl in
    let last = offset-grows top_level (suc level) (top_level + 1) (omega arith) in
    let whole = area_fits in omega arith

pub length_within : (area level index : ℕ) (ram : List ℕ) → HoldsRange ram area area_size
    → level ≤ top_level → index < width top_level level
    → length (block_in top_level area ram level index) ≡ tree_block_size level
length_within area level index ram held low few =
    let within = block_within level index low few in
    length-take-le (tree_block_size level) (drop (area + block_offset top_level level index) ram)
    (omega (arith, length-drop (area + block_offset top_level level index) ram))

pub block_fits : (area line level : ℕ) (ram : List ℕ) → HoldsRange ram area area_size
    → line < line_limit → level ≤ top_level
    → length (path_in top_level area ram line level) ≡ tree_block_size level
block_fits area line level ram held low few =
    length-block top_level area line level ram (subst (λ size. HoldsRange ram area size)
    (sym area_fits) held) low few

-- what stands behind the level in a text
pub behind_level : (text block : List ℕ) (level : ℕ) → text ≡ level ∷ block
    → mid_of 1 (length text - 1) text ≡ block
behind_level text block level is =
    ap (λ l. mid_of 1 (length l - 1) l) is ∙ take_all (length (level ∷ block) - 1) block (omega arith)

-- a text whose level was set, and whose block was read behind it
pub text_read : (text block ram : List ℕ) (level at size : ℕ) → length text ≡ size + 1
    → block ≡ bytes_at ram at (length (mid_of 1 (length (slice_set text 0 level) - 1) (slice_set text 0 level)))
    → put_mid 1 (length (slice_set text 0 level) - 1) (slice_set text 0 level) block
    ≡ level ∷ bytes_at ram at size
text_read [] block ram level at size long read = absurd (omega arith)
text_read (first ∷ rest) block ram level at size long read =
    let all : length (level ∷ rest) - 1 ≡ size = omega arith in
    let count : length (take (length (level ∷ rest) - 1) rest) ≡ size =
    length-take-le (length (level ∷ rest) - 1) rest (omega arith) ∙ all in
    ap (λ l. level ∷ (block ++ l)) (drop_all (length (level ∷ rest) - 1) rest (omega arith))
    ∙ ap (λ l. level ∷ l) (append-nil block ∙ read)
    ∙ ap (λ n. level ∷ bytes_at ram at n) count

-- lower blocks end before the level begins
below-level : (top line lower level : ℕ) → line < tree_lines top → lower < level → level ≤ top
    → path_offset top line lower + tree_block_size lower ≤ level_offset top level
unfolding level_offset
below-level top line lower level low less few =
    let fits = part-fits (tree_block_size lower) (index_at lower line) (width top lower)
    (index-within top line lower low (omega arith)) in
    let next : level_offset top (suc lower) ≡ level_offset top lower + tree_block_size lower * width top
    lower = refl in
    let last = offset-grows top (suc lower) level (omega arith) in
    omega arith

kept-above : (top area : ℕ) (path : ℕ → List ℕ) (line number lower level : ℕ) (ram : List ℕ)
    → HoldsRange ram area (area_length top) → line < tree_lines top
    → lower < level → level ≤ top
    → ((below : ℕ) → below ≤ lower → length (path below) ≡ tree_block_size below)
    → path_in top area (ram_renewed top area path line number lower ram) line level ≡ path_in top
    area ram line level
unfolding ram_renewed
kept-above top area path line number zero level ram held low less few whole =
    let fits = path-within top line 0 low (omega arith) in
    let under = below-level top line 0 level low less few in
    let long = length-renewed path line number 0 whole in
    bytes-stored_apart ram (block_after_raise path line number 0) (area + path_offset top line 0)
    (area + path_offset top line level) (tree_block_size level) (omega arith) (inl (omega arith))
kept-above top area path line number (suc lower) level ram held low less few whole =
    let fits = path-within top line (suc lower) low (omega arith) in
    let under = below-level top line (suc lower) level low less few in
    let long = length-renewed path line number (suc lower) whole in
    let before = length-ram_renewed top area path line number lower ram held low (omega arith)
    (λ below small. whole below (omega arith)) in
    bytes-stored_apart (ram_renewed top area path line number lower ram)
    (block_after_raise path line number (suc lower)) (area + path_offset top line (suc lower))
    (area + path_offset top line level) (tree_block_size level) (omega arith) (inl (omega arith))
    ∙ kept-above top area path line number lower level ram held low (omega arith) few
    (λ below small. whole below (omega arith))

pub path_kept : (area line number level : ℕ) (ram : List ℕ) → HoldsRange ram area area_size
    → line < line_limit → 0 < level → level ≤ top_level
    → path_in top_level area (ram_renewed top_level area (path_in top_level area ram line) line
    number (level - 1) ram) line level ≡ path_in top_level area ram line level
path_kept area line number level ram held low above few =
    let inside : HoldsRange ram area (area_length top_level) =
    subst (λ size. HoldsRange ram area size) (sym area_fits) held in
    kept-above top_level area (path_in top_level area ram line) line number (level - 1) level ram
    inside low (omega arith) few
    (λ below small. length-block top_level area line below ram inside low (omega arith))

pub size_kept : (area line number level : ℕ) (ram : List ℕ) → HoldsRange ram area area_size
    → line < line_limit → level ≤ top_level
    → length (ram_renewed top_level area (path_in top_level area ram line) line number level ram)
    ≡ length ram
size_kept area line number level ram held low few =
    let inside : HoldsRange ram area (area_length top_level) =
    subst (λ size. HoldsRange ram area size) (sym area_fits) held in
    length-ram_renewed top_level area (path_in top_level area ram line) line number level ram inside
    low few
    (λ below small. length-block top_level area line below ram inside low (omega arith))

-- the block above what was renewed, with the digest of the new one
pub renewed_next : (area line number level : ℕ) (ram now below : List ℕ)
    → HoldsRange ram area area_size → line < line_limit → 0 < level → level ≤ top_level
    → now ≡ ram_renewed top_level area (path_in top_level area ram line) line number (level - 1) ram
    → below ≡ digest_of (level - 1) (block_after_raise (path_in top_level area ram line) line number
    (level - 1))
    → with_part level line (path_in top_level area now line level) below ≡ block_after_raise
    (path_in top_level area ram line) line number level
renewed_next area line number level ram now below held low above few is digest =
    ap (λ bytes. with_part level line (path_in top_level area bytes line level) below) is
    ∙ ap (λ block. with_part level line block below) (path_kept area line number level ram held low
    above few)
    ∙ ap (λ part. with_part level line (path_in top_level area ram line level) part) digest
    ∙ sym (renewed_above (path_in top_level area ram line) line number level above)
