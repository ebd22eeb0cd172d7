-- Cells after a slot was scrubbed, and slots that don't run.
use Rattle.std.proofs.Common.{◌≡◌, ◌≢◌, inl, inr, ℕ, ◌<◌, ◌≤◌, List, length, refl, sym, ◌∙◌, ap, subst}
use Rattle.std.proofs.lemmas.List.{get_or-map, length-map}
use Rattle.std.proofs.lemmas.Bool.Decides.{eqb_tells}
use Rattle.std.specs.Int.{bit_at}
use Rattle.tag_regs.specs.declared.cell.Cell.{Cell}
use Rattle.tag_regs.specs.TaggedCells.{cell_at, cells_after_scrub, empty_cell, scrubbed_cell}
use Rattle.xom_model.specs.State.{CoreState, session_of}
use Rattle.xom_model.specs.Holds.{IsRunning, RunningHolds}

pub cell-scrubbed : (slot : ℕ) (cells : List Cell) (reg : ℕ) → reg < length cells
    → cell_at (cells_after_scrub slot cells) reg ≡ scrubbed_cell slot (cell_at cells reg)
cell-scrubbed slot cells reg within = get_or-map (scrubbed_cell slot) cells reg empty_cell empty_cell within

-- a scrubbed cell doesn't have the slot's tag
pub scrubbed_cell-tag : (slot : ℕ) (cell : Cell) → slot ≢ 0 → (scrubbed_cell slot cell).tag ≢ slot
scrubbed_cell-tag slot cell some = elim (eqb_tells cell.tag slot) [
  | inl is ↦ rw is.0 (λ tag. some (sym tag))
  | inr other ↦ rw other.0 other.1
]

pub scrubbed-tag : (slot : ℕ) (cells : List Cell) (reg : ℕ) → slot ≢ 0 → reg < length cells
    → (cell_at (cells_after_scrub slot cells) reg).tag ≢ slot
scrubbed-tag slot cells reg some within tag =
    scrubbed_cell-tag slot (cell_at cells reg) some
    (ap (λ c. c.tag) (sym (cell-scrubbed slot cells reg within)) ∙ tag)

-- a cell that has a tag still is as it was
scrubbed_cell-tagged : (slot : ℕ) (cell : Cell) → (scrubbed_cell slot cell).tag ≢ 0
    → scrubbed_cell slot cell ≡ cell
scrubbed_cell-tagged slot cell = elim (eqb_tells cell.tag slot) [
  | inl is ↦ rw is.0 (λ some. absurd (some refl))
  | inr other ↦ rw other.0 (λ some. refl)
]

pub scrubbed-tagged : (slot : ℕ) (cells : List Cell) (reg : ℕ) → reg < length cells
    → (cell_at (cells_after_scrub slot cells) reg).tag ≢ 0
    → cell_at (cells_after_scrub slot cells) reg ≡ cell_at cells reg
scrubbed-tagged slot cells reg within some =
    let here = cell-scrubbed slot cells reg within in
    here ∙ scrubbed_cell-tagged slot (cell_at cells reg)
    (λ none. some (ap (λ c. c.tag) here ∙ none))

pub length-scrubbed : (slot : ℕ) (cells : List Cell) → length (cells_after_scrub slot cells) ≡ length cells
length-scrubbed slot cells = length-map cells (scrubbed_cell slot)

-- where no slot but this one can run, and its cells are tagged if it does
pub RunningHolds-one : (core : CoreState) (slot : ℕ)
    → ((other : ℕ) → other ≢ slot → ¬ IsRunning core other)
    → ((reg : ℕ) → IsRunning core slot → 1 ≤ reg → reg < 34 → bit_at (session_of core slot).mask
    reg ≡ 1 → (cell_at core.cells reg).tag ≡ slot)
    → RunningHolds core
RunningHolds-one core slot others tagged =
    let only : (k : ℕ) → IsRunning core k → k ≡ slot = λ k runs. elim (eqb_tells k slot) [
      | inl is ↦
          is.1
      | inr differs ↦ absurd (others k differs.1 runs)
    ] in
    record {
      one = λ one other runs runs'. only one runs ∙ sym (only other runs');
      tagged = λ k reg runs from to bit.
          let is = only k runs in
          tagged reg (subst (λ j. IsRunning core j) is runs) from to
          (subst (λ j. bit_at (session_of core j).mask reg ≡ 1) is bit) ∙ sym is;
    }
