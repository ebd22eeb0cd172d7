-- What is said by recursion on the level, of a level above the leaves.
use Rattle.std.proofs.Common.{◌≡◌, ℕ, ◌+◌, ◌-◌, ◌/◌, ◌%◌, ◌<◌, zero, suc, if◌then◌else◌, Some, List, [], ◌∷◌, ◌++◌, ◌≤◌, true, map, refl, sym, ◌∙◌, ap, arith}
use Rattle.std.proofs.lemmas.List.{append_assoc, map-append}
use Rattle.xom_base.specs.declared.entry.Entry.{Entry}
use Rattle.xom_versions.specs.Store.{hash_entry}
use Rattle.std.specs.Str.{bytes_eq}
use Rattle.line_ram.specs.Bytes.{ram_with_bytes}
use Rattle.replay_tree.specs.Tree.{block_text, digest_of}
use Rattle.replay_tree.specs.Area.{part_size, tree_block_size}
use Rattle.replay_tree.specs.Paths.{block_after_raise, checked_texts, index_at, part_at, part_in, part_offset, path_offset, ram_renewed, renewed_texts, torn_at, with_part}
use Rattle.replay_tree.specs.PartLaws.{part-fits}
use Rattle.replay_tree.specs.NodeLaws.{low-part}

pub part_size_above : (level : ℕ) → 0 < level → part_size level ≡ 32
unfolding part_size
part_size_above zero low = absurd (omega arith)
part_size_above (suc level) low = refl

one-less : (level : ℕ) → suc level - 1 ≡ level
one-less level = omega arith

pub index_above : (level line : ℕ) → 0 < level → index_at level line ≡ index_at (level - 1) line / 8
unfolding index_at
index_above zero line low = absurd (omega arith)
index_above (suc level) line low = rw (one-less level) refl

pub part_above : (level line : ℕ) → 0 < level → part_at level line ≡ index_at (level - 1) line % 8
unfolding part_at
part_above zero line low = absurd (omega arith)
part_above (suc level) line low = rw (one-less level) refl

pub torn_above : (path : ℕ → List ℕ) (line level : ℕ) (wanted : List ℕ) → 0 < level
    → torn_at path line level wanted ≡ (if bytes_eq (digest_of level (path level)) wanted
    then torn_at path line (level - 1) (part_in level line (path level)) else Some level)
unfolding torn_at
torn_above path line zero wanted low = absurd (omega arith)
torn_above path line (suc level) wanted low = rw (one-less level) refl

pub checked_above : (path : ℕ → List ℕ) (line level : ℕ) (wanted : List ℕ) → 0 < level
    → checked_texts path line level wanted
    ≡ block_text level (path level) ∷ (if bytes_eq (digest_of level (path level)) wanted
    then checked_texts path line (level - 1) (part_in level line (path level)) else [])
unfolding checked_texts
checked_above path line zero wanted low = absurd (omega arith)
checked_above path line (suc level) wanted low = rw (one-less level) refl

pub renewed_above : (path : ℕ → List ℕ) (line number level : ℕ) → 0 < level
    → block_after_raise path line number level ≡ with_part level line (path level)
    (digest_of (level - 1) (block_after_raise path line number (level - 1)))
unfolding block_after_raise
renewed_above path line number zero low = absurd (omega arith)
renewed_above path line number (suc level) low = rw (one-less level) refl

pub texts_above : (path : ℕ → List ℕ) (line number level : ℕ) → 0 < level
    → renewed_texts path line number level ≡ renewed_texts path line number (level - 1)
    ++ block_text level (block_after_raise path line number level) ∷ []
unfolding renewed_texts
texts_above path line number zero low = absurd (omega arith)
texts_above path line number (suc level) low = rw (one-less level) refl

pub ram_above : (top area : ℕ) (path : ℕ → List ℕ) (line number level : ℕ) (ram : List ℕ)
    → 0 < level
    → ram_renewed top area path line number level ram
    ≡ ram_with_bytes (ram_renewed top area path line number (level - 1) ram)
    (area + path_offset top line level) (block_after_raise path line number level)
unfolding ram_renewed
ram_above top area path line number zero ram low = absurd (omega arith)
ram_above top area path line number (suc level) ram low = rw (one-less level) refl

-- a part lies in its block
pub part_within : (level line : ℕ) → part_offset level line + part_size level ≤ tree_block_size level
part_within level line =
    let fits = part-fits (part_size level) (part_at level line) 8 (low-part level line) in
    omega arith

-- the entries of a check that goes on below
pub checked_on : (entries : List Entry) (path : ℕ → List ℕ) (line level : ℕ) (wanted : List ℕ)
    → 0 < level → bytes_eq (digest_of level (path level)) wanted ≡ true
    → (entries ++ hash_entry (block_text level (path level)) ∷ []) ++ map hash_entry
    (checked_texts path line (level - 1) (part_in level line (path level)))
    ≡ entries ++ map hash_entry (checked_texts path line level wanted)
checked_on entries path line level wanted low same =
    let below = checked_texts path line (level - 1) (part_in level line (path level)) in
    append_assoc entries (hash_entry (block_text level (path level)) ∷ []) (map hash_entry below)
    ∙ ap (λ texts. entries ++ map hash_entry texts)
    (sym (checked_above path line level wanted low ∙ ap (λ b. block_text level (path level)
    ∷ (if b then below else [])) same))

-- the entries of a renewal with the block of one level more
pub renewed_on : (entries : List Entry) (path : ℕ → List ℕ) (line number level : ℕ) (block : List ℕ)
    → 0 < level → block ≡ block_after_raise path line number level
    → (entries ++ map hash_entry (renewed_texts path line number (level - 1)))
    ++ hash_entry (block_text level block) ∷ []
    ≡ entries ++ map hash_entry (renewed_texts path line number level)
renewed_on entries path line number level block low is =
    let below = renewed_texts path line number (level - 1) in let last =
    block_text level (block_after_raise path line number level) in
    ap (λ b. (entries ++ map hash_entry below) ++ hash_entry (block_text level b) ∷ []) is
    ∙ append_assoc entries (map hash_entry below) (hash_entry last ∷ [])
    ∙ ap (λ l. entries ++ l) (sym (map-append hash_entry below (last ∷ [])))
    ∙ ap (λ texts. entries ++ map hash_entry texts) (sym (texts_above path line number level low))
