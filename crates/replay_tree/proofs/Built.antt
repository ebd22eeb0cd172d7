-- What a build leaves after each of its steps.
use Rattle.std.proofs.Common.{◌≡◌, inr, ℕ, ◌+◌, ◌-◌, ◌*◌, ◌<◌, ◌≤◌, zero, suc, List, [], ◌∷◌, ◌++◌, length, map, take, drop, refl, sym, ◌∙◌, ap, arith}
use Rattle.std.specs.Int.{w64, to_be_bytes}
use Rattle.std.proofs.lemmas.List.{append_assoc, append-nil, drop-drop, drop_all, drop_at, length-append, length-take-le, map-append, take-append-drop, take_at}
use Rattle.std.proofs.lemmas.Slice.{drop-append-drop}
use borrow.Rule.Slice.PartMut.{put_mid}
use Rattle.sha2.proofs.Facts256.{length-sha256}
use Rattle.xom_base.specs.declared.entry.Entry.{Entry}
use Rattle.line_ram.specs.Bytes.{HoldsRange, bytes_at, ram_with_bytes}
use Rattle.line_ram.proofs.Ranges.{bytes-stored_apart}
use Rattle.xom_versions.specs.Store.{area_size, hash_entry}
use Rattle.xom_versions.specs.Versions.{start_version}
use Rattle.replay_tree.specs.Tree.{block_text, digest_of, node, parts_joined, root_of}
use Rattle.replay_tree.specs.Area.{block_in, block_offset, level_bytes, level_offset, level_texts, part_size, texts_below, texts_up_to, tree_block_size, width}
use Rattle.replay_tree.specs.Build.{digests_in, room_below, texts_in}
use Rattle.replay_tree.specs.Calls.{top_level}
use Rattle.replay_tree.specs.PartLaws.{bytes-joined, bytes-left, joined-same, length-joined, part-fits}
use Rattle.replay_tree.specs.NodeLaws.{length-node}
use Rattle.replay_tree.specs.BuildLaws.{width-below}
use Rattle.replay_tree.specs.PlaceLaws.{length-levels, offset-grows}
use Rattle.replay_tree.proofs.PathsKept.{area_fits}

-- ---- Lists of parts

-- bytes stored behind others
pub stored-more : (ram xs ys : List ℕ) (address : ℕ) → address ≤ length ram
    → ram_with_bytes (ram_with_bytes ram address xs) (address + length xs) ys ≡ ram_with_bytes ram address (xs ++ ys)
stored-more ram xs ys address within =
    let front = take address ram in let n = address + length xs in let rest = drop n ram in
    let behind = drop (n + length ys) ram in
    let long : length (front ++ xs) ≡ n = length-append front xs
    ∙ omega (arith, length-take-le address ram within) in
    ap (λ l. ram_with_bytes l n ys) (sym (append_assoc front xs rest))
    ∙ ap (λ l. l ++ (ys ++ drop (n + length ys) ((front ++ xs) ++ rest)))
    (take_at (front ++ xs) rest n long)
    ∙ ap (λ l. (front ++ xs) ++ (ys ++ l)) (drop-append-drop n ram (front ++ xs) (n + length ys)
    (omega arith) long)
    ∙ append_assoc front xs (ys ++ behind)
    ∙ ap (λ l. front ++ l) (sym (append_assoc xs ys behind))
    ∙ ap (λ k. front ++ ((xs ++ ys) ++ drop k ram)) {x = n + length ys}
    {y = address + length (xs ++ ys)} (omega (arith, length-append xs ys))

joined-append : (part : ℕ → List ℕ) (m n : ℕ)
    → parts_joined part (m + n) ≡ parts_joined part m ++ parts_joined (λ k. part (m + k)) n
unfolding parts_joined
joined-append part m zero =
    ap (parts_joined part) {x = m + 0} {y = m} (omega arith) ∙ sym (append-nil (parts_joined part m))
joined-append part m (suc n) =
    ap (parts_joined part) {x = m + suc n} {y = suc (m + n)} (omega arith)
    ∙ ap (λ l. l ++ part (m + n)) (joined-append part m n)
    ∙ append_assoc (parts_joined part m) (parts_joined (λ k. part (m + k)) n) (part (m + n))

-- groups of eight, one behind another
pub joined-eight : (part : ℕ → List ℕ) (n : ℕ)
    → parts_joined (λ i. parts_joined (λ k. part (8 * i + k)) 8) n ≡ parts_joined part (8 * n)
unfolding parts_joined
joined-eight part zero = refl
joined-eight part (suc n) = step (joined-eight part n)
  where
    group : ℕ → List ℕ
    group i = parts_joined (λ k. part (8 * i + k)) 8

    step : parts_joined group n ≡ parts_joined part (8 * n)
        → parts_joined group n ++ group n ≡ parts_joined part (8 * suc n)
    step before =
        ap (λ l. l ++ group n) before ∙ sym (joined-append part (8 * n) 8) ∙ ap (parts_joined part)
        {x = 8 * n + 8} {y = 8 * suc n} (omega arith)

-- a range of the second of two lists
pub bytes-within : (front xs : List ℕ) (n at count : ℕ) → length front ≡ n
    → bytes_at (front ++ xs) (n + at) count ≡ bytes_at xs at count
bytes-within front xs n at count long =
    ap (take count) (sym (drop-drop at n (front ++ xs)) ∙ ap (drop at) (drop_at front xs n long))

-- a range of what was stored
pub bytes-of_stored : (ram bytes : List ℕ) (address at count : ℕ) → address ≤ length ram
    → at + count ≤ length bytes
    → bytes_at (ram_with_bytes ram address bytes) (address + at) count ≡ bytes_at bytes at count
bytes-of_stored ram bytes address at count within fits =
    bytes-within (take address ram) (bytes ++ drop (address + length bytes) ram) address at count
    (length-take-le address ram within)
    ∙ bytes-left bytes (drop (address + length bytes) ram) at count fits

-- ---- Parts that are stored one behind another

pub none-stored : (ram : List ℕ) (part : ℕ → List ℕ) (address : ℕ)
    → ram ≡ ram_with_bytes ram address (parts_joined part 0)
unfolding parts_joined
none-stored ram part address =
    sym (take-append-drop address ram)
    ∙ ap (λ n. take address ram ++ drop n ram) {x = address} {y = address + 0} (omega arith)

pub part-stored : (ram now : List ℕ) (part : ℕ → List ℕ) (size n address : ℕ) (bytes : List ℕ)
    → address ≤ length ram → ((i : ℕ) → length (part i) ≡ size)
    → now ≡ ram_with_bytes ram address (parts_joined part n) → bytes ≡ part n
    → ram_with_bytes now (address + size * n) bytes ≡ ram_with_bytes ram address (parts_joined part (n + 1))
unfolding parts_joined
part-stored ram now part size n address bytes within whole is last =
    let before = parts_joined part n in
    ap (λ l. ram_with_bytes l (address + size * n) bytes) is
    ∙ ap (λ k. ram_with_bytes (ram_with_bytes ram address before) (address + k) bytes)
    (sym (length-joined part size n (λ i low. whole i)))
    ∙ stored-more ram before bytes address within
    ∙ ap (λ l. ram_with_bytes ram address (before ++ l)) last
    ∙ ap (λ k. ram_with_bytes ram address (parts_joined part k)) {x = suc n} {y = n + 1} (omega arith)

-- the first leaves
pub leaves_none : (ram : List ℕ) (area lines : ℕ)
    → ram ≡ ram_with_bytes ram area (parts_joined (node (start_version lines) 0) 0)
leaves_none ram area lines = none-stored ram (node (start_version lines) 0) area

pub leaves_more : (ram now leaf : List ℕ) (area lines index : ℕ) → area ≤ length ram
    → now ≡ ram_with_bytes ram area (parts_joined (node (start_version lines) 0) index)
    → leaf ≡ node (start_version lines) 0 index
    → ram_with_bytes now (area + 64 * index) leaf ≡ ram_with_bytes ram area
    (parts_joined (node (start_version lines) 0) (index + 1))
unfolding part_size
leaves_more ram now leaf area lines index within is last =
    part-stored ram now (node (start_version lines) 0) 64 index area leaf within
    (λ i. length-node (start_version lines) 0 i) is last

leaf-parts : (numbers : ℕ → ℕ) (i : ℕ)
    → node numbers 0 i ≡ parts_joined (λ k. to_be_bytes w64 (numbers (8 * i + k))) 8
unfolding node
leaf-parts numbers i = refl

-- the first versions of a leaf
abbrev pub leaf_part : ℕ → ℕ → ℕ → List ℕ
leaf_part lines index k = to_be_bytes w64 (start_version lines (8 * index + k))

pub versions_none : (leaf : List ℕ) (lines index : ℕ)
    → leaf ≡ ram_with_bytes leaf 0 (parts_joined (leaf_part lines index) 0)
versions_none leaf lines index = none-stored leaf (leaf_part lines index) 0

pub versions_more : (leaf now version : List ℕ) (lines index k : ℕ)
    → now ≡ ram_with_bytes leaf 0 (parts_joined (leaf_part lines index) k)
    → version ≡ leaf_part lines index k
    → put_mid (8 * k) (8 * k + 8 - 8 * k) now version
    ≡ ram_with_bytes leaf 0 (parts_joined (leaf_part lines index) (k + 1))
versions_more leaf now version lines index k is last =
    let long : length version ≡ 8 = ap (λ (l : List ℕ). length l) last in
    ap (λ l. take (8 * k) now ++ (version ++ l)) (drop-drop (8 * k + 8 - 8 * k) (8 * k) now)
    ∙ ap (λ n. take (8 * k) now ++ (version ++ drop n now)) {x = 8 * k + (8 * k + 8 - 8 * k)}
    {y = 8 * k + length version} (omega arith)
    ∙ ap (λ at. ram_with_bytes now at version) {x = 8 * k} {y = 0 + 8 * k} (omega arith)
    ∙ part-stored leaf now (leaf_part lines index) 8 k 0 version (omega arith) (λ i. refl) is last

pub versions_all : (leaf now : List ℕ) (lines index k : ℕ) → length leaf ≡ 64 → k ≡ 8
    → now ≡ ram_with_bytes leaf 0 (parts_joined (leaf_part lines index) k)
    → now ≡ node (start_version lines) 0 index
unfolding parts_joined
versions_all leaf now lines index k long all is =
    let bytes = parts_joined (leaf_part lines index) 8 in
    is ∙ ap (λ n. ram_with_bytes leaf 0 (parts_joined (leaf_part lines index) n)) all
    ∙ ap (λ l. bytes ++ l) (drop_all (0 + length bytes) leaf (omega arith)) ∙ append-nil bytes
    ∙ sym (leaf-parts (start_version lines) index)

-- ---- One level

-- the digests of a level lie in the area
pub digest_within : (level index : ℕ) → level < top_level → index < width top_level level
    → level_offset top_level (level + 1) + 32 * index + 32 ≤ area_size
unfolding level_offset part_size
digest_within level index low few =
    let eight = width-below top_level level (omega arith) in
    let next : level_offset top_level (suc (suc level)) ≡ level_offset top_level
    (suc level) + 256 * width top_level (suc level) = refl in
    let same : level_offset top_level (level + 1) ≡ level_offset top_level (suc level) =
    ap (level_offset top_level) {x = level + 1} {y = suc level} (omega arith) in
    let last = offset-grows top_level (suc (suc level)) (top_level + 1) (omega arith) in
    let whole = area_fits in omega arith

pub room_left : (level index : ℕ) → index < width top_level level
    → (81 + tree_block_size level) * index + (81 + tree_block_size level) ≤ (81 + tree_block_size level) * width
    top_level level
room_left level index few = part-fits (81 + tree_block_size level) index (width top_level level) few

abbrev digest_part : ℕ → List ℕ → ℕ → ℕ → List ℕ
digest_part area ram level i = digest_of level (block_in top_level area ram level i)

-- the first blocks of a level are hashed, and their digests written
pub record Hashed (area level index : ℕ) (ram now : List ℕ) (before entries : List Entry)
    (spare left : ℕ) : Type 0 where
  pub written : now ≡ ram_with_bytes ram (area + level_offset top_level (level + 1))
      (digests_in area ram level index)
  pub size : length now ≡ length ram
  pub hashes : entries ≡ before ++ map hash_entry (texts_in area ram level index)
  pub room : spare ≤ left + (81 + tree_block_size level) * index

pub hashed_none : (area level : ℕ) (ram : List ℕ) (entries : List Entry) (spare : ℕ)
    → Hashed area level 0 ram ram entries entries spare spare
unfolding texts_in
hashed_none area level ram entries spare = record {
  written = none-stored ram (digest_part area ram level)
      (area + level_offset top_level (level + 1));
  size = refl;
  hashes = sym (append-nil entries);
  room = omega arith;
}

length-digests : (area level n : ℕ) (ram : List ℕ) → length (digests_in area ram level n) ≡ 32 * n
length-digests area level n ram =
    length-joined (digest_part area ram level) 32 n
    (λ i low. length-sha256 (block_text level (block_in top_level area ram level i)))

-- the blocks of the level stay meanwhile
block-kept : (area level index : ℕ) (ram now : List ℕ) → HoldsRange ram area area_size
    → level < top_level → index < width top_level level
    → now ≡ ram_with_bytes ram (area + level_offset top_level (level + 1)) (digests_in area ram level index)
    → block_in top_level area now level index ≡ block_in top_level area ram level index
unfolding level_offset
block-kept area level index ram now held low few is =
    let within = digest_within level index low few in
    let long = length-digests area level index ram in
    let fits = part-fits (tree_block_size level) index (width top_level level) few in
    let next : level_offset top_level (suc level) ≡ level_offset top_level level + tree_block_size
    level * width top_level level = refl in
    let same : level_offset top_level (level + 1) ≡ level_offset top_level (suc level) =
    ap (level_offset top_level) {x = level + 1} {y = suc level} (omega arith) in
    ap (λ bytes. block_in top_level area bytes level index) is
    ∙ bytes-stored_apart ram (digests_in area ram level index)
    (area + level_offset top_level (level + 1)) (area + block_offset top_level level index)
    (tree_block_size level) (omega arith) (inr (omega arith))

text-added : (before entries : List Entry) (area level index : ℕ) (ram : List ℕ)
    → entries ≡ before ++ map hash_entry (texts_in area ram level index)
    → entries ++ hash_entry (block_text level (block_in top_level area ram level index)) ∷ [] ≡ before
    ++ map hash_entry (texts_in area ram level (index + 1))
unfolding texts_in
text-added before entries area level index ram is =
    let texts = texts_in area ram level index in let last =
    block_text level (block_in top_level area ram level index) in
    ap (λ l. l ++ hash_entry last ∷ []) is
    ∙ append_assoc before (map hash_entry texts) (hash_entry last ∷ [])
    ∙ ap (λ l. before ++ l) (sym (map-append hash_entry texts (last ∷ [])))
    ∙ ap (λ n. before ++ map hash_entry (texts_in area ram level n)) {x = suc index} {y = index + 1}
    (omega arith)

pub hashed_more : (area level index : ℕ) (ram now next digest : List ℕ)
    (before entries after : List Entry) (spare left last : ℕ)
    → HoldsRange ram area area_size → level < top_level → index < width top_level level
    → Hashed area level index ram now before entries spare left
    → next ≡ ram_with_bytes now (area + level_offset top_level (level + 1) + 32 * index) digest
    → length next ≡ length now
    → digest ≡ digest_of level (block_in top_level area now level index)
    → after ≡ entries ++ hash_entry (block_text level (block_in top_level area now level index)) ∷ []
    → left ≤ last + (81 + tree_block_size level)
    → Hashed area level (index + 1) ram next before after spare last
hashed_more area level index ram now next digest before entries after spare left last held low few
    so_far written size is added room =
    let kept = block-kept area level index ram now held low few so_far.written in
    let within = digest_within level index low few in
    record {
      written = written ∙ part-stored ram now (digest_part area ram level) 32 index
          (area + level_offset top_level (level + 1)) digest (omega arith)
          (λ i. length-sha256 (block_text level (block_in top_level area ram level i))) so_far.written
          (is ∙ ap (digest_of level) kept);
      size = size ∙ so_far.size;
      hashes = added ∙ ap (λ block. entries ++ hash_entry (block_text level block) ∷ []) kept
          ∙ text-added before entries area level index ram so_far.hashes;
      room = let used = so_far.room in let price = 81 + tree_block_size level in omega arith;
    }

-- ---- All levels

node-parts : (numbers : ℕ → ℕ) (level i : ℕ)
    → node numbers (suc level) i ≡ parts_joined (λ k. digest_of level (node numbers level (8 * i + k))) 8
unfolding node
node-parts numbers level i = refl

digests-joined : (numbers : ℕ → ℕ) (level n : ℕ)
    → parts_joined (λ i. digest_of level (node numbers level i)) (8 * n) ≡ parts_joined
    (node numbers (suc level)) n
digests-joined numbers level n =
    sym (joined-eight (λ i. digest_of level (node numbers level i)) n)
    ∙ sym (joined-same (node numbers (suc level))
    (λ i. parts_joined (λ k. digest_of level (node numbers level (8 * i + k))) 8) n
    (λ i low. node-parts numbers level i))

first-level : (part : ℕ → List ℕ) → parts_joined part 1 ≡ part 0
unfolding parts_joined
first-level part = refl

next-level : (part : ℕ → List ℕ) (n : ℕ) → parts_joined part (suc n) ≡ parts_joined part n ++ part n
unfolding parts_joined
next-level part n = refl

pub leaves_written : (lines : ℕ)
    → level_bytes top_level (start_version lines) 0 ≡ parts_joined
    (level_bytes top_level (start_version lines)) 1
leaves_written lines = sym (first-level (level_bytes top_level (start_version lines)))

offset-next : (level : ℕ)
    → level_offset top_level (suc level) ≡ level_offset top_level level + tree_block_size level * width
    top_level level
unfolding level_offset
offset-next level = refl

-- each block of the levels that are written is the tree's
block-found : (area : ℕ) (numbers : ℕ → ℕ) (level i : ℕ) (ram now : List ℕ)
    → HoldsRange ram area area_size → level ≤ top_level → i < width top_level level
    → now ≡ ram_with_bytes ram area (parts_joined (level_bytes top_level numbers) (suc level))
    → block_in top_level area now level i ≡ node numbers level i
block-found area numbers level i ram now held low few is =
    let bytes = parts_joined (level_bytes top_level numbers) (suc level) in
    let size = tree_block_size level in
    let fits = part-fits size i (width top_level level) few in
    let long : length bytes ≡ level_offset top_level (suc level) = length-levels top_level numbers
    (suc level) in
    let under = offset-next level in
    ap (λ l. block_in top_level area l level i) is
    ∙ bytes-of_stored ram bytes area (block_offset top_level level i) size (omega arith)
    (omega arith)
    ∙ ap (λ l. bytes_at l (block_offset top_level level i) size)
    (next-level (level_bytes top_level numbers) level)
    ∙ bytes-within (parts_joined (level_bytes top_level numbers) level)
    (level_bytes top_level numbers level) (level_offset top_level level) (size * i) size
    (length-levels top_level numbers level)
    ∙ bytes-joined (node numbers level) size (width top_level level) i
    (λ k small. length-node numbers level k) few

level-up : (area : ℕ) (numbers : ℕ → ℕ) (level : ℕ) (ram now : List ℕ)
    → HoldsRange ram area area_size → level < top_level
    → now ≡ ram_with_bytes ram area (parts_joined (level_bytes top_level numbers) (suc level))
    → ram_with_bytes now (area + level_offset top_level (suc level))
    (digests_in area now level (width top_level level)) ≡ ram_with_bytes ram area
    (parts_joined (level_bytes top_level numbers) (suc (suc level)))
level-up area numbers level ram now held low is =
    let wide = width top_level level in
    let bytes = parts_joined (level_bytes top_level numbers) (suc level) in
    let digests : digests_in area now level wide ≡ level_bytes top_level numbers (suc level) =
    joined-same (digest_part area now level) (λ i. digest_of level (node numbers level i)) wide
    (λ i few. ap (digest_of level) (block-found area numbers level i ram now held (omega arith)
    few is))
    ∙ ap (parts_joined (λ i. digest_of level (node numbers level i)))
    (width-below top_level level (omega arith))
    ∙ digests-joined numbers level (width top_level (suc level)) in
    ap (λ l. ram_with_bytes now (area + level_offset top_level (suc level)) l) digests
    ∙ ap (λ l. ram_with_bytes l (area + level_offset top_level (suc level))
    (level_bytes top_level numbers (suc level))) is
    ∙ ap (λ n. ram_with_bytes (ram_with_bytes ram area bytes) (area + n)
    (level_bytes top_level numbers (suc level)))
    (sym (length-levels top_level numbers (suc level)))
    ∙ stored-more ram bytes (level_bytes top_level numbers (suc level)) area (omega arith)
    ∙ ap (ram_with_bytes ram area) (sym (next-level (level_bytes top_level numbers) (suc level)))

texts-found : (area : ℕ) (numbers : ℕ → ℕ) (level n : ℕ) (ram : List ℕ)
    → ((i : ℕ) → i < n → block_in top_level area ram level i ≡ node numbers level i)
    → texts_in area ram level n ≡ level_texts numbers level n
unfolding texts_in level_texts
texts-found area numbers level zero ram found = refl
texts-found area numbers level (suc n) ram found =
    ap (λ l. l ++ block_text level (block_in top_level area ram level n) ∷ [])
    (texts-found area numbers level n ram (λ i low. found i (omega arith)))
    ∙ ap (λ block. level_texts numbers level n ++ block_text level block ∷ []) (found n (omega arith))

texts-next : (numbers : ℕ → ℕ) (level : ℕ)
    → texts_below top_level numbers (suc level) ≡ texts_below top_level numbers level
    ++ level_texts numbers level (width top_level level)
unfolding texts_up_to
texts-next numbers zero = refl
texts-next numbers (suc level) = refl

texts-up : (before entries : List Entry) (area : ℕ) (numbers : ℕ → ℕ) (level : ℕ) (ram now : List ℕ)
    → HoldsRange ram area area_size → level < top_level
    → now ≡ ram_with_bytes ram area (parts_joined (level_bytes top_level numbers) (suc level))
    → entries ≡ before ++ map hash_entry (texts_below top_level numbers level)
    → entries ++ map hash_entry (texts_in area now level (width top_level level)) ≡ before
    ++ map hash_entry (texts_below top_level numbers (suc level))
texts-up before entries area numbers level ram now held low is so_far =
    let texts = texts_below top_level numbers level in let more = level_texts numbers level
    (width top_level level) in
    ap (λ l. entries ++ map hash_entry l) (texts-found area numbers level (width top_level level)
    now (λ i few. block-found area numbers level i ram now held (omega arith) few is))
    ∙ ap (λ l. l ++ map hash_entry more) so_far
    ∙ append_assoc before (map hash_entry texts) (map hash_entry more)
    ∙ ap (λ l. before ++ l) (sym (map-append hash_entry texts more))
    ∙ ap (λ l. before ++ map hash_entry l) (sym (texts-next numbers level))

-- with the level below filled, a level is filled
pub filled_more : (area lines level : ℕ) (ram now : List ℕ) → HoldsRange ram area area_size
    → 0 < level → level ≤ top_level
    → now ≡ ram_with_bytes ram area (parts_joined (level_bytes top_level (start_version lines)) (level - 1 + 1))
    → ram_with_bytes now (area + level_offset top_level (level - 1 + 1))
    (digests_in area now (level - 1) (width top_level (level - 1)))
    ≡ ram_with_bytes ram area (parts_joined (level_bytes top_level (start_version lines)) (level + 1))
filled_more area lines zero ram now held low few is = absurd (omega arith)
filled_more area lines (suc level) ram now held low few is =
    let numbers : ℕ → ℕ = start_version lines in
    let filled : now ≡ ram_with_bytes ram area (parts_joined (level_bytes top_level numbers) (suc level)) =
    is ∙ ap (λ n. ram_with_bytes ram area (parts_joined (level_bytes top_level numbers) n))
    {x = suc level - 1 + 1} {y = suc level} (omega arith) in
    ap (λ n. ram_with_bytes now (area + level_offset top_level n) (digests_in area now (suc level - 1)
    (width top_level (suc level - 1)))) {x = suc level - 1 + 1} {y = suc level} (omega arith)
    ∙ ap (λ n. ram_with_bytes now (area + level_offset top_level (suc level))
    (digests_in area now n (width top_level n))) {x = suc level - 1} {y = level} (omega arith)
    ∙ level-up area numbers level ram now held (omega arith) filled
    ∙ ap (λ n. ram_with_bytes ram area (parts_joined (level_bytes top_level numbers) n)) {x = suc (suc level)}
    {y = suc level + 1} (omega arith)

pub texts_more : (before entries : List Entry) (area lines level : ℕ) (ram now : List ℕ)
    → HoldsRange ram area area_size → 0 < level → level ≤ top_level
    → now ≡ ram_with_bytes ram area (parts_joined (level_bytes top_level (start_version lines)) (level - 1 + 1))
    → entries ≡ before ++ map hash_entry (texts_below top_level (start_version lines) (level - 1))
    → entries ++ map hash_entry (texts_in area now (level - 1) (width top_level (level - 1)))
    ≡ before ++ map hash_entry (texts_below top_level (start_version lines) level)
texts_more before entries area lines zero ram now held low few is so_far = absurd (omega arith)
texts_more before entries area lines (suc level) ram now held low few is so_far =
    let numbers : ℕ → ℕ = start_version lines in
    let less : suc level - 1 ≡ level = omega arith in
    let filled : now ≡ ram_with_bytes ram area (parts_joined (level_bytes top_level numbers) (suc level)) =
    is ∙ ap (λ n. ram_with_bytes ram area (parts_joined (level_bytes top_level numbers) n))
    {x = suc level - 1 + 1} {y = suc level} (omega arith) in
    ap (λ n. entries ++ map hash_entry (texts_in area now n (width top_level n))) less
    ∙ texts-up before entries area numbers level ram now held (omega arith) filled
    (so_far ∙ ap (λ n. before ++ map hash_entry (texts_below top_level numbers n)) less)

pub room_above : (level : ℕ) → 0 < level
    → room_below level ≡ room_below (level - 1) + (81 + tree_block_size (level - 1)) * width top_level
    (level - 1)
unfolding room_below
room_above zero low = absurd (omega arith)
room_above (suc level) low =
    ap (λ n. room_below n + (81 + tree_block_size n) * width top_level n) {x = level} {y = suc level - 1}
    (omega arith)

-- ---- The top

pub room_of_all : room_below top_level ≡ 790728
unfolding room_below part_size
room_of_all = refl

pub top_block : tree_block_size top_level ≡ 256
unfolding part_size
top_block = refl

pub built_root : (area lines : ℕ) (ram now : List ℕ) → HoldsRange ram area area_size
    → now ≡ ram_with_bytes ram area (parts_joined (level_bytes top_level (start_version lines)) (top_level + 1))
    → digest_of top_level (block_in top_level area now top_level 0) ≡ root_of top_level
    (start_version lines)
built_root area lines ram now held is =
    ap (digest_of top_level)
    (block-found area (start_version lines) top_level 0 ram now held (omega arith) (omega arith)
    is)

one-text : (numbers : ℕ → ℕ)
    → block_text top_level (node numbers top_level 0) ∷ [] ≡ level_texts numbers top_level
    (width top_level top_level)
unfolding level_texts
one-text numbers = refl

pub built_texts : (before entries : List Entry) (area lines : ℕ) (ram now : List ℕ)
    → HoldsRange ram area area_size
    → now ≡ ram_with_bytes ram area (parts_joined (level_bytes top_level (start_version lines)) (top_level + 1))
    → entries ≡ before ++ map hash_entry (texts_below top_level (start_version lines) top_level)
    → entries ++ hash_entry (block_text top_level (block_in top_level area now top_level 0)) ∷ []
    ≡ before ++ map hash_entry (texts_up_to top_level (start_version lines) top_level)
built_texts before entries area lines ram now held is so_far =
    let numbers : ℕ → ℕ = start_version lines in
    let texts = texts_below top_level numbers top_level in
    ap (λ block. entries ++ hash_entry (block_text top_level block) ∷ [])
    (block-found area numbers top_level 0 ram now held (omega arith) (omega arith) is)
    ∙ ap (λ l. l ++ hash_entry (block_text top_level (node numbers top_level 0)) ∷ []) so_far
    ∙ append_assoc before (map hash_entry texts)
    (hash_entry (block_text top_level (node numbers top_level 0)) ∷ [])
    ∙ ap (λ l. before ++ l)
    (sym (map-append hash_entry texts (block_text top_level (node numbers top_level 0) ∷ [])))
    ∙ ap (λ l. before ++ map hash_entry (texts ++ l)) (one-text numbers)
    ∙ ap (λ l. before ++ map hash_entry l) (sym (texts-next numbers top_level))
