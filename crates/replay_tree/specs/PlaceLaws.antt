-- Where the blocks of a path lie: inside the area.
use Rattle.std.proofs.Common.{◌≡◌, inl, inr, ℕ, ◌+◌, ◌-◌, ◌*◌, ◌^◌, ◌<◌, ◌≤◌, zero, suc, List, length, drop, refl, sym, ◌∙◌, ap, subst, arith}
use Rattle.std.specs.Int.{w64, to_be_bytes}
use Rattle.std.proofs.lemmas.Nat.{pow-add}
use Rattle.std.proofs.lemmas.Bool.Decides.{eqb_tells}
use Rattle.std.proofs.lemmas.List.{length-append, length-drop, length-take-le}
use Rattle.sha2.proofs.Facts256.{length-sha256}
use Rattle.line_ram.specs.Bytes.{HoldsRange}
use Rattle.line_ram.proofs.Ranges.{length-stored}
use Rattle.replay_tree.specs.Tree.{block_text, digest_of, node, parts_joined, tree_lines}
use Rattle.replay_tree.specs.Area.{area_bytes, level_bytes, level_offset, part_size, tree_block_size, width}
use Rattle.replay_tree.specs.Paths.{block_after_raise, index_at, part_at, path_in, path_offset, ram_renewed}
use Rattle.replay_tree.specs.PartLaws.{length-joined, part-fits}
use Rattle.replay_tree.specs.NodeLaws.{length-node, low-part}
use Rattle.replay_tree.specs.CheckLaws.{index-low}

-- how many bytes the area has
abbrev pub area_length : ℕ → ℕ
area_length top = level_offset top (top + 1)

-- a level has as many bytes as its blocks together
pub length-level : (top : ℕ) (numbers : ℕ → ℕ) (level : ℕ)
    → length (level_bytes top numbers level) ≡ tree_block_size level * width top level
length-level top numbers level =
    length-joined (node numbers level) (tree_block_size level) (width top level)
    (λ i low. length-node numbers level i)

-- the levels below one have as many bytes as stand before it in the area
pub length-levels : (top : ℕ) (numbers : ℕ → ℕ) (n : ℕ)
    → length (parts_joined (level_bytes top numbers) n) ≡ level_offset top n
unfolding parts_joined level_offset
length-levels top numbers zero = refl
length-levels top numbers (suc n) =
    length-append (parts_joined (level_bytes top numbers) n) (level_bytes top numbers n)
    ∙ (let before = length-levels top numbers n in let last = length-level top numbers n in
    omega arith)

-- the bytes of a whole tree fill its area
pub length-area : (top : ℕ) (numbers : ℕ → ℕ) → length (area_bytes top numbers) ≡ area_length top
length-area top numbers = length-levels top numbers (top + 1)

-- ---- The path

-- a higher level begins no earlier
pub offset-grows : (top level upper : ℕ) → level ≤ upper
    → level_offset top level ≤ level_offset top upper
unfolding level_offset
offset-grows top level zero low =
    subst (λ l. level_offset top l ≤ level_offset top 0) {x = 0} {y = level} (omega arith)
    (omega arith)
offset-grows top level (suc upper) low = elim (eqb_tells level (suc upper)) [
  | inl is ↦ subst (λ l. level_offset top l ≤ level_offset top (suc upper)) (sym is.1) (omega arith)
  | inr differs ↦ let below = offset-grows top level upper (let other = differs.1 in grind arith) in
      omega arith
]

-- the block that a line is under is one of its level's
pub index-within : (top line level : ℕ) → line < tree_lines top → level ≤ top
    → index_at level line < width top level
index-within top line level low few =
    index-low level line (width top level)
    (let whole : 8 ^ (level + 1) * 8 ^ (top - level) ≡ 8 ^ (top + 1) =
    sym (pow-add 8 (level + 1) (top - level)) ∙ ap (λ e. 8 ^ e) {x = level + 1 + (top - level)}
    {y = top + 1} (omega arith) in omega arith)

next-offset : (top level : ℕ)
    → level_offset top (suc level) ≡ level_offset top level + tree_block_size level * width top level
unfolding level_offset
next-offset top level = refl

-- each block of a line's path lies inside the area
pub path-within : (top line level : ℕ) → line < tree_lines top → level ≤ top
    → path_offset top line level + tree_block_size level ≤ area_length top
path-within top line level low few =
    let fits = part-fits (tree_block_size level) (index_at level line) (width top level)
    (index-within top line level low few) in
    let next : level_offset top (suc level) ≡ level_offset top level + tree_block_size level * width top
    level = next-offset top level in
    let last = offset-grows top (suc level) (top + 1) (omega arith) in
    omega arith

-- a block of it in RAM has its size
pub length-block : (top area line level : ℕ) (ram : List ℕ) → HoldsRange ram area (area_length top)
    → line < tree_lines top → level ≤ top
    → length (path_in top area ram line level) ≡ tree_block_size level
length-block top area line level ram held low few =
    let within = path-within top line level low few in
    length-take-le (tree_block_size level) (drop (area + path_offset top line level) ram)
    (omega (arith, length-drop (area + path_offset top line level) ram))

-- and so has the new one
pub length-renewed : (path : ℕ → List ℕ) (line number level : ℕ)
    → ((below : ℕ) → below ≤ level → length (path below) ≡ tree_block_size below)
    → length (block_after_raise path line number level) ≡ tree_block_size level
unfolding block_after_raise part_size
length-renewed path line number zero whole =
    let part = low-part 0 line in let long = whole 0 (omega arith) in
    length-stored (path 0) (to_be_bytes w64 number) (8 * part_at 0 line)
    (let size : length (to_be_bytes w64 number) ≡ 8 = refl in omega arith) ∙ long
length-renewed path line number (suc level) whole =
    let part = low-part (suc level) line in let long = whole (suc level) (omega arith) in
    let size = length-sha256 (block_text level (block_after_raise path line number level)) in
    length-stored (path (suc level)) (digest_of level (block_after_raise path line number level))
    (32 * part_at (suc level) line) (omega arith) ∙ long

-- RAM keeps its size
pub length-ram_renewed : (top area : ℕ) (path : ℕ → List ℕ) (line number level : ℕ) (ram : List ℕ)
    → HoldsRange ram area (area_length top) → line < tree_lines top → level ≤ top
    → ((below : ℕ) → below ≤ level → length (path below) ≡ tree_block_size below)
    → length (ram_renewed top area path line number level ram) ≡ length ram
unfolding ram_renewed
length-ram_renewed top area path line number zero ram held low few whole =
    let within = path-within top line 0 low few in let long = length-renewed path line number 0
    whole in
    length-stored ram (block_after_raise path line number 0) (area + path_offset top line 0) (omega arith)
length-ram_renewed top area path line number (suc level) ram held low few whole =
    let within = path-within top line (suc level) low few in let long = length-renewed path line
    number (suc level) whole in
    let before = length-ram_renewed top area path line number level ram held low (omega arith)
    (λ below small. whole below (omega arith)) in
    length-stored (ram_renewed top area path line number level ram)
    (block_after_raise path line number (suc level)) (area + path_offset top line (suc level)) (omega arith)
    ∙ before
