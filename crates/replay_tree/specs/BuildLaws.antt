-- What a build hashes: each block of the tree of the start versions.
use Rattle.std.proofs.Common.{◌≡◌, inl, inr, ℕ, ◌+◌, ◌-◌, ◌*◌, ◌^◌, ◌<◌, ◌≤◌, zero, suc, List, [], ◌∷◌, sym, ◌∙◌, ap, subst, arith}
use Rattle.std.specs.List.{Contains}
use Rattle.std.proofs.Math.Nat.{pow-suc}
use Rattle.std.proofs.lemmas.Bool.Decides.{eqb_tells}
use Rattle.xom_base.specs.declared.entry.Entry.{Entry}
use Rattle.xom_versions.specs.Store.{hash_entry}
use Rattle.replay_tree.specs.Tree.{AreHashed, block_text, node}
use Rattle.replay_tree.specs.Area.{level_texts, texts_up_to, width}
use Rattle.replay_tree.specs.CheckLaws.{AreIn, in-back, in-front}

-- the text of each block of a level
block-hashed : (journal : List Entry) (numbers : ℕ → ℕ) (level count i : ℕ)
    → AreIn journal (level_texts numbers level count) → i < count
    → Contains journal (hash_entry (block_text level (node numbers level i)))
unfolding level_texts AreIn
block-hashed journal numbers level zero i within low = absurd (omega arith)
block-hashed journal numbers level (suc n) i within low =
    let last = block_text level (node numbers level n) in
    elim (eqb_tells i n) [
      | inl is ↦ subst (λ k. Contains journal (hash_entry (block_text level (node numbers level k))))
          (sym is.1)
          (in-back journal (level_texts numbers level n) (last ∷ []) within).0
      | inr differs ↦ block-hashed journal numbers level n i
          (in-front journal (level_texts numbers level n) (last ∷ []) within) (let other =
          differs.1 in grind arith)
    ]

-- the texts of a level are among those of all levels up to one above
level-within : (journal : List Entry) (numbers : ℕ → ℕ) (top upper level : ℕ) → level ≤ upper
    → AreIn journal (texts_up_to top numbers upper)
    → AreIn journal (level_texts numbers level (width top level))
unfolding texts_up_to
level-within journal numbers top zero level low within =
    subst (λ l. AreIn journal (level_texts numbers l (width top l))) (omega arith) within
level-within journal numbers top (suc upper) level low within =
    let below = texts_up_to top numbers upper in
    let last = level_texts numbers (suc upper) (width top (suc upper)) in
    elim (eqb_tells level (suc upper)) [
      | inl is ↦ subst (λ l. AreIn journal (level_texts numbers l (width top l))) (sym is.1)
          (in-back journal below last within)
      | inr differs ↦ level-within journal numbers top upper level (let other = differs.1 in
          grind arith) (in-front journal below last within)
    ]

-- a level has eight times as many blocks as the one above
pub width-below : (top level : ℕ) → suc level ≤ top → width top level ≡ 8 * width top (suc level)
width-below top level low =
    ap (λ e. 8 ^ e) {x = top - level} {y = suc (top - suc level)} (omega arith)
    ∙ pow-suc 8 (top - suc level) ∙ omega arith

-- so each block of a tree was hashed
pub built-hashed : (journal : List Entry) (numbers : ℕ → ℕ) (top level i : ℕ) → level ≤ top
    → i < width top level → AreIn journal (texts_up_to top numbers top)
    → AreHashed journal numbers level i
unfolding AreHashed
built-hashed journal numbers top zero i low within all =
    block-hashed journal numbers 0 (width top 0) i (level-within journal numbers top top 0 low all)
    within
built-hashed journal numbers top (suc level) i low within all = (
  block-hashed journal numbers (suc level) (width top (suc level)) i
      (level-within journal numbers top top (suc level) low all) within,
  λ k few. built-hashed journal numbers top level (8 * i + k) (omega arith) (let wide =
      width-below top level low in omega arith) all,
)
