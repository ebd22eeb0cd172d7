-- What a check shows that isn't torn: the blocks of the path are those of the tree, unless two
-- hashed texts have one digest.
use Rattle.std.proofs.Common.{◌≡◌, ◌⊎◌, inl, inr, ℕ, ◌+◌, ◌*◌, ◌^◌, ◌<◌, ◌≤◌, zero, suc, Bool, true, false, if◌then◌else◌, None, List, [], ◌∷◌, ◌++◌, map, refl, sym, ◌∙◌, ap, subst, arith}
use Rattle.std.specs.Int.{w64, from_be_bytes}
use Rattle.std.specs.List.{Contains}
use Rattle.std.specs.Str.{bytes_eq}
use Rattle.std.proofs.Math.Nat.{mul_assoc, pow-suc}
use Rattle.std.proofs.lemmas.Bool.Decides.{eqb_tells}
use Rattle.std.proofs.lemmas.List.{append_assoc}
use Rattle.std.proofs.lemmas.List.Elements.{Contains-append_left, Contains-append_right}
use Rattle.std.proofs.lemmas.Nat.{from_be_bytes-to_be_bytes_8}
use Rattle.std.proofs.lemmas.Slice.Eq.{bytes_eq-Decides}
use Rattle.xom_base.specs.declared.entry.Entry.{Entry}
use Rattle.xom_base.specs.declared.entry.Entry.TheVariants as entry
use Rattle.xom_versions.specs.Store.{NoCollision, hash_entry}
use Rattle.replay_tree.specs.Tree.{AreHashed, block_text, digest_of, node, tree_lines}
use Rattle.replay_tree.specs.Paths.{checked_texts, index_at, part_at, part_in, torn_at, version_in_leaf}
use Rattle.replay_tree.specs.NodeLaws.{child-index, digest-part, low-part, version-part}

-- ---- Texts that stand in a journal as hashed

-- each of the texts stands in the journal as hashed
unfoldable pub AreIn : List Entry → List (List ℕ) → Type 0
AreIn journal [] = Unit {0}
AreIn journal (text ∷ texts) = Contains journal (hash_entry text) × AreIn journal texts

only : (item : Entry) → Contains (item ∷ []) item
only item = (0, omega arith, refl)

-- the hashes of these texts stand behind the entries
pub added-are_in : (entries : List Entry) (texts : List (List ℕ))
    → AreIn (entries ++ map hash_entry texts) texts
unfolding AreIn
added-are_in entries [] = tt
added-are_in entries (text ∷ texts) =
    let hash = hash_entry text in (
      Contains-append_right entries (hash ∷ map hash_entry texts) hash
          (Contains-append_left (hash ∷ []) (map hash_entry texts) hash (only hash)),
      subst (λ journal. AreIn journal texts)
          (append_assoc entries (hash ∷ []) (map hash_entry texts))
          (added-are_in (entries ++ hash ∷ []) texts),
    )

-- of texts that all stand in the journal, so do those of the front part
pub in-front : (journal : List Entry) (texts more : List (List ℕ)) → AreIn journal (texts ++ more)
    → AreIn journal texts
unfolding AreIn
in-front journal [] more within = tt
in-front journal (text ∷ texts) more within = (within.0, in-front journal texts more within.1)

-- of texts that all stand in the journal, so do those of the back part
pub in-back : (journal : List Entry) (texts more : List (List ℕ)) → AreIn journal (texts ++ more)
    → AreIn journal more
unfolding AreIn
in-back journal [] more within = within
in-back journal (text ∷ texts) more within = in-back journal texts more within.1

-- ---- A check that isn't torn

is_or_not : (b : Bool) → (b ≡ true) ⊎ (b ≡ false)
is_or_not true = inl refl
is_or_not false = inr refl

intact : (path : ℕ → List ℕ) (line level : ℕ) (wanted : List ℕ)
    → torn_at path line level wanted ≡ None → digest_of level (path level) ≡ wanted
unfolding torn_at
intact path line zero wanted fine = elim (is_or_not (bytes_eq (digest_of 0 (path 0)) wanted)) [
  | inl same ↦ (bytes_eq-Decides (digest_of 0 (path 0)) wanted).0 same
  | inr differs ↦ absurd (grind arith)
]
intact path line (suc level) wanted fine =
    elim (is_or_not (bytes_eq (digest_of (suc level) (path (suc level))) wanted)) [
      | inl same ↦ (bytes_eq-Decides (digest_of (suc level) (path (suc level))) wanted).0 same
      | inr differs ↦ absurd (grind arith)
    ]

same-below : (path : ℕ → List ℕ) (line level : ℕ) (wanted : List ℕ)
    → torn_at path line (suc level) wanted ≡ None
    → bytes_eq (digest_of (suc level) (path (suc level))) wanted ≡ true
unfolding torn_at
same-below path line level wanted fine =
    elim (is_or_not (bytes_eq (digest_of (suc level) (path (suc level))) wanted)) [
      | inl same ↦ same
      | inr differs ↦ absurd (grind arith)
    ]

intact-below : (path : ℕ → List ℕ) (line level : ℕ) (wanted : List ℕ)
    → torn_at path line (suc level) wanted ≡ None
    → torn_at path line level (part_in (suc level) line (path (suc level))) ≡ None
unfolding torn_at
intact-below path line level wanted fine =
    let same = same-below path line level wanted fine in grind arith

seen-first : (path : ℕ → List ℕ) (line : ℕ) (journal : List Entry) (level : ℕ) (wanted : List ℕ)
    → AreIn journal (checked_texts path line level wanted)
    → Contains journal (hash_entry (block_text level (path level)))
unfolding checked_texts AreIn
seen-first path line journal zero wanted seen = seen.0
seen-first path line journal (suc level) wanted seen = seen.0

abbrev rest_if : (ℕ → List ℕ) → ℕ → ℕ → Bool → List (List ℕ)
rest_if path line level same =
    if same then checked_texts path line level (part_in (suc level) line (path (suc level))) else []

seen-below : (path : ℕ → List ℕ) (line : ℕ) (journal : List Entry) (level : ℕ) (wanted : List ℕ)
    → bytes_eq (digest_of (suc level) (path (suc level))) wanted ≡ true
    → AreIn journal (checked_texts path line (suc level) wanted)
    → AreIn journal (checked_texts path line level (part_in (suc level) line (path (suc level))))
unfolding checked_texts AreIn
seen-below path line journal level wanted same seen =
    subst (λ b. AreIn journal (rest_if path line level b)) same seen.1

-- equal digests of hashed texts are of equal blocks
same-block : (journal : List Entry) (level : ℕ) (block other : List ℕ) → NoCollision journal
    → Contains journal (hash_entry (block_text level block))
    → Contains journal (hash_entry (block_text level other))
    → digest_of level block ≡ digest_of level other → block ≡ other
same-block journal level block other none one two same =
    let texts : block_text level block ≡ block_text level other
    =
    none (block_text level block) (block_text level other) (digest_of level block) one
    (subst (λ digest. Contains journal (entry.Hash (block_text level other) digest)) (sym same)
    two) in cc

hashed-first : (entries : List Entry) (numbers : ℕ → ℕ) (level i : ℕ)
    → AreHashed entries numbers level i
    → Contains entries (hash_entry (block_text level (node numbers level i)))
unfolding AreHashed
hashed-first entries numbers zero i hashed = hashed
hashed-first entries numbers (suc level) i hashed = hashed.0

-- where a check from a level down isn't torn, and the digest that it begins with is that of the
-- tree's block, each block of the path below is the tree's, unless two hashed texts have one digest
pub checked-path : (path : ℕ → List ℕ) (numbers : ℕ → ℕ) (line : ℕ) (journal : List Entry)
    (level : ℕ) (wanted : List ℕ)
    → NoCollision journal
    → AreIn journal (checked_texts path line level wanted)
    → AreHashed journal numbers level (index_at level line)
    → wanted ≡ digest_of level (node numbers level (index_at level line))
    → torn_at path line level wanted ≡ None
    → (below : ℕ) → below ≤ level → path below ≡ node numbers below (index_at below line)
unfolding AreHashed
checked-path path numbers line journal zero wanted none seen hashed is fine below few =
    let top : path 0 ≡ node numbers 0 (index_at 0 line)
    = same-block journal 0 (path 0) (node numbers 0 (index_at 0 line)) none
    (seen-first path line journal 0 wanted seen) hashed (intact path line 0 wanted fine ∙ is) in
    subst (λ at. path at ≡ node numbers at (index_at at line)) (let low = few in omega arith) top
checked-path path numbers line journal (suc level) wanted none seen hashed is fine below few =
    let i = index_at (suc level) line in
    let top : path (suc level) ≡ node numbers (suc level) i
    = same-block journal (suc level) (path (suc level)) (node numbers (suc level) i) none
    (seen-first path line journal (suc level) wanted seen) hashed.0
    (intact path line (suc level) wanted fine ∙ is) in
    elim (eqb_tells below (suc level)) [
      | inl last ↦ subst (λ at. path at ≡ node numbers at (index_at at line)) (sym last.1) top
      | inr before ↦ checked-path path numbers line journal level
          (part_in (suc level) line (path (suc level))) none
          (seen-below path line journal level wanted (same-below path line level wanted fine) seen)
          (subst (AreHashed journal numbers level) (child-index level line)
          (hashed.1 (part_at (suc level) line) (low-part (suc level) line)))
          (ap (part_in (suc level) line) top ∙ digest-part numbers level line)
          (intact-below path line level wanted fine) below (let other = before.1 in grind arith)
    ]

-- the line's version, in its leaf
pub number-found : (path : ℕ → List ℕ) (numbers : ℕ → ℕ) (line : ℕ)
    → path 0 ≡ node numbers 0 (index_at 0 line) → numbers line < 2 ^ 64
    → version_in_leaf path line ≡ numbers line
number-found path numbers line is fits =
    ap (λ block. from_be_bytes w64 (part_in 0 line block)) is ∙ ap (from_be_bytes w64)
    (version-part numbers line) ∙ from_be_bytes-to_be_bytes_8 (numbers line) fits

-- ---- The block at the top is the first of its level

-- a line below n times 8^(level + 1) is under one of the first n blocks of the level
pub index-low : (level line n : ℕ) → line < 8 ^ (level + 1) * n → index_at level line < n
unfolding index_at
index-low zero line n low = grind arith
index-low (suc level) line n low =
    let power : 8 ^ (suc level + 1) ≡ 8 ^ (level + 1) * 8 = ap (λ e. 8 ^ e) {x = suc level + 1}
    {y = suc (level + 1)} (omega arith) ∙ pow-suc 8 (level + 1) in
    let below : index_at level line < 8 * n = index-low level line (8 * n)
    (let flat : 8 ^ (suc level + 1) * n ≡ 8 ^ (level + 1) * (8 * n) = ap (λ q. q * n) power
    ∙ mul_assoc (8 ^ (level + 1)) 8 n in omega arith) in
    let j = index_at level line in grind arith

-- every line of the tree is under the one block of the top level
pub top-index : (top line : ℕ) → line < tree_lines top → index_at top line ≡ 0
top-index top line low =
    let first : index_at top line < 1 = index-low top line 1 (omega arith) in omega arith
