-- What a raise leaves: the tree of the changed numbers, each of whose blocks was hashed.
use Rattle.std.proofs.Common.{◌≡◌, inl, inr, ℕ, ◌+◌, ◌*◌, ◌≤◌, zero, suc, List, [], ◌∷◌, ◌++◌, sym, ◌∙◌, ap, subst, arith}
use Rattle.std.specs.List.{Contains}
use Rattle.std.proofs.lemmas.Bool.Decides.{eqb_tells}
use Rattle.std.proofs.lemmas.List.Elements.{Contains-append_left}
use Rattle.xom_base.specs.declared.entry.Entry.{Entry}
use Rattle.xom_versions.specs.Store.{hash_entry}
use Rattle.xom_versions.specs.Versions.{with_version}
use Rattle.replay_tree.specs.Tree.{AreHashed, block_text, node}
use Rattle.replay_tree.specs.Paths.{block_after_raise, index_at, part_at, renewed_texts}
use Rattle.replay_tree.specs.NodeLaws.{child-index, node-same, other-number, parent-index, renewed-node}
use Rattle.replay_tree.specs.CheckLaws.{AreIn, in-back, in-front}

-- what was hashed was hashed in each longer journal
pub hashed-longer : (entries more : List Entry) (numbers : ℕ → ℕ) (level i : ℕ)
    → AreHashed entries numbers level i → AreHashed (entries ++ more) numbers level i
unfolding AreHashed
hashed-longer entries more numbers zero i hashed =
    Contains-append_left entries more (hash_entry (block_text 0 (node numbers 0 i))) hashed
hashed-longer entries more numbers (suc level) i hashed = (
  Contains-append_left entries more (hash_entry (block_text (suc level) (node numbers (suc level) i)))
      hashed.0,
  λ k low. hashed-longer entries more numbers level (8 * i + k) (hashed.1 k low),
)

-- of numbers that are alike on the lines below a block
pub hashed-same : (entries : List Entry) (numbers others : ℕ → ℕ) (level i : ℕ)
    → ((line : ℕ) → index_at level line ≡ i → numbers line ≡ others line)
    → AreHashed entries numbers level i → AreHashed entries others level i
unfolding AreHashed
hashed-same entries numbers others zero i same hashed =
    subst (λ block. Contains entries (hash_entry (block_text 0 block)))
    (node-same numbers others 0 i same) hashed
hashed-same entries numbers others (suc level) i same hashed = (
  subst (λ block. Contains entries (hash_entry (block_text (suc level) block)))
      (node-same numbers others (suc level) i same) hashed.0,
  λ k low. hashed-same entries numbers others level (8 * i + k)
      (λ line is. same line (parent-index level line i k low is)) (hashed.1 k low),
)

-- the blocks of the path were hashed anew, and all others before
pub hashed-renewed : (journal : List Entry) (path : ℕ → List ℕ) (numbers : ℕ → ℕ)
    (line number level : ℕ)
    → ((below : ℕ) → below ≤ level → path below ≡ node numbers below (index_at below line))
    → AreIn journal (renewed_texts path line number level)
    → AreHashed journal numbers level (index_at level line)
    → AreHashed journal (with_version numbers line number) level (index_at level line)
unfolding AreHashed renewed_texts AreIn
hashed-renewed journal path numbers line number zero on within hashed =
    subst (λ block. Contains journal (hash_entry (block_text 0 block)))
    (renewed-node path numbers line number 0 on) within.0
hashed-renewed journal path numbers line number (suc level) on within hashed =
    let others : ℕ → ℕ = with_version numbers line number in
    let i = index_at (suc level) line in
    let at = part_at (suc level) line in
    let lower = in-front journal (renewed_texts path line number level)
    (block_text (suc level) (block_after_raise path line number (suc level)) ∷ []) within in
    let last = in-back journal (renewed_texts path line number level)
    (block_text (suc level) (block_after_raise path line number (suc level)) ∷ []) within in (
      subst (λ block. Contains journal (hash_entry (block_text (suc level) block)))
          (renewed-node path numbers line number (suc level) on) last.0,
      λ k low. elim (eqb_tells k at) [
        | inl same ↦
            let here : index_at level line ≡ 8 * i + k = let whole = child-index level line in
            let part = same.1 in omega arith in
            subst (AreHashed journal others level) here
            (hashed-renewed journal path numbers line number level
            (λ below few. on below (omega arith)) lower (subst (AreHashed journal numbers level)
            (sym here) (hashed.1 k low)))
        | inr differs ↦
            hashed-same journal numbers others level (8 * i + k)
            (λ other is. sym (other-number numbers line number other
            (λ same. differs.1 (let whole = child-index level line in let on_path : index_at level
            line ≡ 8 * i + k = ap (index_at level) (sym same) ∙ is in omega arith))))
            (hashed.1 k low)
      ],
    )
