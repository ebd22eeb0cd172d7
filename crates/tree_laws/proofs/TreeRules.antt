-- Versions in a tree of hashes hash only texts that may stand in a journal: a level, and a block of
-- at most 256 bytes.
use Rattle.std.proofs.Common.{◌≡◌, ℕ, zero, suc, ◌+◌, ◌*◌, ◌^◌, ◌<◌, ◌≤◌, Bool, true, false, cond, List, [], ◌∷◌, ◌++◌, All, Option, Some, None, Result, Err, length, take, drop, lit≤, refl, arith}
use Rattle.std.specs.Int.{w64, to_be_bytes}
use Rattle.std.specs.Str.{bytes_eq}
use Rattle.std.proofs.lemmas.Bool.{cond_both}
use Rattle.std.proofs.lemmas.List.{length-append, length-drop}
use Rattle.std.proofs.lemmas.List.Elements.{All-append, All-cons, All-nil}
use Rattle.hex.specs.Hex.{IsBytes}
use Rattle.sha2.proofs.Facts256.{length-sha256}
use Rattle.journal_round_trip.specs.KeepsRules.{KeepsPayload}
use Rattle.xom_versions.specs.declared.store.Torn.{Torn}
use Rattle.xom_versions.specs.Versions.{start_version}
use Rattle.replay_tree.specs.Tree.{block_text, digest_of, node, parts_joined}
use Rattle.replay_tree.specs.Area.{area_bytes, level_bytes, level_texts, part_size, texts_up_to, tree_block_size, width}
use Rattle.replay_tree.specs.Paths.{block_after_raise, checked_texts, part_in, part_offset, path_in, path_offset, ram_renewed, renewed_texts, torn_at, with_part}
use Rattle.replay_tree.specs.Calls.{new_ram, new_texts, raised_in, ram_after_raise_in, texts_of_check, texts_of_raise_in, top_level, torn_in, torn_or, tree, version_answer, version_at_line}
use Rattle.replay_tree.specs.PartLaws.{length-joined}
use Rattle.replay_tree.specs.NodeLaws.{low-part}
use Rattle.journal_laws.specs.RulesOfRecord.{StoresKeepRules}
use Rattle.journal_laws.proofs.PlainBytes.{bytes-append, bytes-cons, bytes-long_number, bytes-none, bytes-sha256, bytes-written}
use Rattle.journal_laws.proofs.RuledAccess.{part-bytes, take-short}

abbrev AreTexts : List (List ℕ) → Type 0
AreTexts texts = All (KeepsPayload 260) texts

-- ---- Blocks

-- a block has bytes, at most as many as its level says
abbrev IsBlock : ℕ → List ℕ → Type 0
IsBlock level block = IsBytes block × (length block ≤ tree_block_size level)

small-block : (level : ℕ) → tree_block_size level ≤ 256
unfolding part_size
small-block zero = lit≤ tt
small-block (suc level) = lit≤ tt

text-payload : (level : ℕ) (block : List ℕ) → level ≤ 4 → IsBlock level block
    → KeepsPayload 260 (block_text level block)
text-payload level block low is =
    let few : length block ≤ tree_block_size level = is.1 in
    let small = small-block level in
    (bytes-cons level block (omega arith) is.0, omega arith, omega arith)

one-text : (level : ℕ) (block : List ℕ) → level ≤ 4 → IsBlock level block
    → AreTexts (block_text level block ∷ [])
one-text level block low is =
    All-cons (KeepsPayload 260) (block_text level block) [] (text-payload level block low is)
    (All-nil (KeepsPayload 260))

bytes-joined : (part : ℕ → List ℕ) (n : ℕ) → ((i : ℕ) → IsBytes (part i)) → IsBytes (parts_joined part n)
unfolding parts_joined
bytes-joined part zero each = bytes-none
bytes-joined part (suc n) each =
    bytes-append (parts_joined part n) (part n) (bytes-joined part n each) (each n)

node-block : (numbers : ℕ → ℕ) (level i : ℕ) → IsBlock level (node numbers level i)
unfolding node part_size
node-block numbers zero i =
    let part : ℕ → List ℕ = λ k. to_be_bytes w64 (numbers (8 * i + k)) in (
      bytes-joined part 8 (λ k. bytes-long_number (numbers (8 * i + k))),
      let long =
          length-joined part 8 8 (λ k low. refl) in omega arith,
    )
node-block numbers (suc level) i =
    let part : ℕ → List ℕ = λ k. digest_of level (node numbers level (8 * i + k)) in (
      bytes-joined part 8 (λ k. bytes-sha256 (block_text level (node numbers level (8 * i + k)))),
      let long = length-joined part 32 8
          (λ k low. length-sha256 (block_text level (node numbers level (8 * i + k)))) in omega arith,
    )

-- ---- A build

level-texts : (numbers : ℕ → ℕ) (level n : ℕ) → level ≤ 4 → AreTexts (level_texts numbers level n)
unfolding level_texts
level-texts numbers level zero low = All-nil (KeepsPayload 260)
level-texts numbers level (suc n) low =
    All-append (KeepsPayload 260) (level_texts numbers level n)
    (block_text level (node numbers level n) ∷ []) (level-texts numbers level n low)
    (one-text level (node numbers level n) low (node-block numbers level n))

texts-to : (top : ℕ) (numbers : ℕ → ℕ) (level : ℕ) → level ≤ 4
    → AreTexts (texts_up_to top numbers level)
unfolding texts_up_to
texts-to top numbers zero low = level-texts numbers 0 (width top 0) low
texts-to top numbers (suc level) low =
    All-append (KeepsPayload 260) (texts_up_to top numbers level)
    (level_texts numbers (suc level) (width top (suc level)))
    (texts-to top numbers level (omega arith))
    (level-texts numbers (suc level) (width top (suc level)) low)

area-plain : (top : ℕ) (numbers : ℕ → ℕ) → IsBytes (area_bytes top numbers)
area-plain top numbers =
    bytes-joined (level_bytes top numbers) (top + 1)
    (λ level. bytes-joined (node numbers level) (width top level)
    (λ i. (node-block numbers level i).0))

-- ---- A check and a renewal, over the blocks of a path

take-few : (n : ℕ) (xs : List ℕ) → length (take n xs) ≤ length xs
take-few zero xs = omega arith
take-few (suc n) [] = omega arith
take-few (suc n) (x ∷ xs) = let low = take-few n xs in omega arith

module _ (path : ℕ → List ℕ) (blocks : (level : ℕ) → IsBlock level (path level)) (line : ℕ) where
  checked-texts : (level : ℕ) (wanted : List ℕ) → level ≤ 4
      → AreTexts (checked_texts path line level wanted)
  unfolding checked_texts
  checked-texts zero wanted low = one-text 0 (path 0) low (blocks 0)
  checked-texts (suc level) wanted low =
      All-cons (KeepsPayload 260) (block_text (suc level) (path (suc level)))
      _ (text-payload (suc level) (path (suc level)) low (blocks (suc level)))
      (cond_both (bytes_eq (digest_of (suc level) (path (suc level))) wanted)
      (checked_texts path line level (part_in (suc level) line (path (suc level)))) [] AreTexts
      (λ _. checked-texts level (part_in (suc level) line (path (suc level))) (omega arith))
      (λ _. All-nil (KeepsPayload 260)))

  part-fits : (level : ℕ) → part_offset level line + part_size level ≤ tree_block_size level
  unfolding part_size
  part-fits zero = let low = low-part 0 line in omega arith
  part-fits (suc level) = let low = low-part (suc level) line in omega arith

  -- the block with another part of its size
  part-block : (level : ℕ) (part : List ℕ) → IsBytes part → length part ≡ part_size level
      → IsBlock level (with_part level line (path level) part)
  part-block level part bytes long =
      let at = part_offset level line in
      let few : length (path level) ≤ tree_block_size level = (blocks level).1 in
      let front = take-short at (path level) in
      let whole = take-few at (path level) in
      let rest = length-drop (at + length part) (path level) in
      let inner = length-append part (drop (at + length part) (path level)) in
      let outer = length-append (take at (path level))
      (part ++ drop (at + length part) (path level)) in
      let within : at + part_size level ≤ tree_block_size level = part-fits level in
      (bytes-written (path level) at part (blocks level).0 bytes, omega arith)

  renewed-block : (number level : ℕ) → IsBlock level (block_after_raise path line number level)
  unfolding block_after_raise part_size
  renewed-block number zero = part-block 0 (to_be_bytes w64 number) (bytes-long_number number) refl
  renewed-block number (suc level) =
      part-block (suc level) (digest_of level (block_after_raise path line number level))
      (bytes-sha256 (block_text level (block_after_raise path line number level)))
      (length-sha256 (block_text level (block_after_raise path line number level)))

  renewed-texts : (number level : ℕ) → level ≤ 4 → AreTexts (renewed_texts path line number level)
  unfolding renewed_texts
  renewed-texts number zero low =
      one-text 0 (block_after_raise path line number 0) low (renewed-block number 0)
  renewed-texts number (suc level) low =
      All-append (KeepsPayload 260) (renewed_texts path line number level)
      (block_text (suc level) (block_after_raise path line number (suc level)) ∷ [])
      (renewed-texts number level (omega arith))
      (one-text (suc level) (block_after_raise path line number (suc level)) low
      (renewed-block number (suc level)))

  ram-plain : (top area number level : ℕ) (ram : List ℕ) → IsBytes ram
      → IsBytes (ram_renewed top area path line number level ram)
  unfolding ram_renewed
  ram-plain top area number zero ram bytes =
      bytes-written ram (area + path_offset top line 0) (block_after_raise path line number 0) bytes
      (renewed-block number 0).0
  ram-plain top area number (suc level) ram bytes =
      bytes-written (ram_renewed top area path line number level ram)
      (area + path_offset top line (suc level)) (block_after_raise path line number (suc level))
      (ram-plain top area number level ram bytes) (renewed-block number (suc level)).0

-- the torn block is at the level from which the check begins, or below it
module _ (path : ℕ → List ℕ) (line : ℕ) where
  torn-low : (level : ℕ) (wanted : List ℕ) (found : ℕ) → torn_at path line level wanted ≡ Some found
      → found ≤ level
  unfolding torn_at
  torn-low zero wanted found is = by_test (bytes_eq (digest_of 0 (path 0)) wanted) is
    where
      by_test : (b : Bool) → cond b None (Some 0) ≡ Some found → found ≤ 0
      by_test true its = absurd (cc)
      by_test false its = let same : 0 ≡ found = cc in omega arith
  torn-low (suc level) wanted found is =
      let inner = part_in (suc level) line (path (suc level)) in
      by_test (torn_at path line level inner) (λ its. torn-low level inner found its)
      (bytes_eq (digest_of (suc level) (path (suc level))) wanted) is
    where
      by_test : (below : Option ℕ) → (below ≡ Some found → found ≤ level) → (b : Bool)
          → cond b below (Some (suc level)) ≡ Some found → found ≤ suc level
      by_test below lower true its = let low = lower its in omega arith
      by_test below lower false its = let same : suc level ≡ found = cc in omega arith

-- ---- The calls

path-blocks : (area line : ℕ) (ram : List ℕ) → IsBytes ram → (level : ℕ)
    → IsBlock level (path_in top_level area ram line level)
path-blocks area line ram bytes level =
    (part-bytes ram _ (tree_block_size level) bytes, take-short (tree_block_size level) (drop _ ram))

version-texts : (area : Option ℕ) (root : List ℕ) (line : ℕ) (ram : List ℕ) → IsBytes ram
    → AreTexts (texts_of_check top_level area root line ram)
version-texts None root line ram bytes = All-nil (KeepsPayload 260)
version-texts (Some area) root line ram bytes =
    checked-texts (path_in top_level area ram line) (path-blocks area line ram bytes) line top_level
    root (lit≤ tt)

new-texts : (torn : Option ℕ) (area line : ℕ) (ram : List ℕ) → IsBytes ram
    → AreTexts (new_texts top_level torn area line ram)
new-texts (Some level) area line ram bytes = All-nil (KeepsPayload 260)
new-texts None area line ram bytes =
    renewed-texts (path_in top_level area ram line) (path-blocks area line ram bytes) line
    (raised_in top_level area line ram) top_level (lit≤ tt)

raise-texts : (area : Option ℕ) (root : List ℕ) (line : ℕ) (ram : List ℕ) → IsBytes ram
    → AreTexts (texts_of_raise_in top_level area root line ram)
raise-texts None root line ram bytes = All-nil (KeepsPayload 260)
raise-texts (Some area) root line ram bytes =
    All-append (KeepsPayload 260) _ (new_texts top_level (torn_in top_level root area line ram) area
    line ram) (version-texts (Some area) root line ram bytes)
    (new-texts (torn_in top_level root area line ram) area line ram bytes)

new-ram : (torn : Option ℕ) (area line : ℕ) (ram : List ℕ) → IsBytes ram
    → IsBytes (new_ram top_level torn area line ram)
new-ram (Some level) area line ram bytes = bytes
new-ram None area line ram bytes =
    ram-plain (path_in top_level area ram line) (path-blocks area line ram bytes) line top_level
    area (raised_in top_level area line ram) top_level ram bytes

raise-ram : (area : Option ℕ) (root : List ℕ) (line : ℕ) (ram : List ℕ) → IsBytes ram
    → IsBytes (ram_after_raise_in top_level area root line ram)
raise-ram None root line ram bytes = bytes
raise-ram (Some area) root line ram bytes =
    new-ram (torn_in top_level root area line ram) area line ram bytes

abbrev wrong : Torn → Result ℕ Torn
wrong torn = Err torn

-- a torn answer names a level of the tree
torn-level : (found : Option ℕ) (number : ℕ) (torn : Torn)
    → ((level : ℕ) → found ≡ Some level → level ≤ 4) → torn_or found number ≡ Err torn
    → torn.level < 2 ^ 8
torn-level None number torn low is = absurd (cc)
torn-level (Some level) number torn low is = let same : level ≡ torn.level =
    one_level (record { level = level }) torn is in let few = low level refl in omega arith
  where
    one_level : (a b : Torn) → wrong a ≡ wrong b → a.level ≡ b.level
    one_level a b its = cc

answer-level : (number : ℕ → ℕ → List ℕ → ℕ) (area : Option ℕ) (root : List ℕ) (line : ℕ)
    (ram : List ℕ) (torn : Torn)
    → version_answer top_level number area root line ram ≡ Err torn → torn.level < 2 ^ 8
answer-level number None root line ram torn is =
    torn-level (Some top_level) 0 torn (λ level its. let same : 4 ≡ level = cc in omega arith) is
answer-level number (Some area) root line ram torn is =
    torn-level (torn_in top_level root area line ram) (number area line ram) torn
    (λ level its. torn-low (path_in top_level area ram line) line top_level root level its) is

pub tree_rules : StoresKeepRules tree
tree_rules = record {
  texts_of_build = λ area lines ram bytes. texts-to top_level (start_version lines) top_level
      (lit≤ tt);
  texts_of_version = λ store line ram bytes. version-texts store.area store.root line ram bytes;
  texts_of_raise = λ store line ram bytes. raise-texts store.area store.root line ram bytes;
  ram_after_build = λ area lines ram bytes. bytes-written ram area
      (area_bytes top_level (start_version lines)) bytes (area-plain top_level (start_version lines));
  ram_after_raise = λ store line ram bytes. raise-ram store.area store.root line ram bytes;
  level_of_version = λ store line ram torn is. answer-level (version_at_line top_level) store.area
      store.root line ram torn is;
  level_of_raise = λ store line ram torn is. answer-level (raised_in top_level) store.area
      store.root line ram torn is;
  no_area = λ ram. tt;
}
