-- The search for a missing cell, one cell after another.
use Rattle.std.proofs.Common.{◌≡◌, ℕ, zero, suc, ◌+◌, ◌-◌, ◌<◌, ◌≤◌, true, false, List, Some, None, if◌then◌else◌, refl, sym, ◌∙◌, arith}
use Rattle.std.proofs.lemmas.Bool.{cond-true, cond-false}
use Rattle.tag_regs.specs.declared.cell.Cell.{Cell}
use Rattle.xom_model.specs.Operation.{is_missing, missing_cell, missing_from}

-- one cell is looked at, and then those above it
missing_from-step : (slot mask : ℕ) (cells : List Cell) (reg : ℕ) → reg < 34
    → missing_from slot mask cells (34 - reg) reg
    ≡ (if is_missing slot mask cells reg then Some reg else missing_from slot mask cells
    (34 - (reg + 1)) (reg + 1))
missing_from-step slot mask cells reg below =
    let here : 34 - reg ≡ suc (33 - reg) = omega arith in
    let later : 34 - (reg + 1) ≡ 33 - reg = omega arith in
    rw (here, later) refl

-- the search begins at the first cell
pub missing-start : (slot mask : ℕ) (cells : List Cell) (count reg : ℕ) → reg ≡ 1 → count ≡ 33
    → missing_from slot mask cells count reg ≡ missing_cell slot mask cells
unfolding missing_cell
missing-start slot mask cells count reg first all = rw (first, all) refl

-- this cell is the one
pub missing-found : (slot mask : ℕ) (cells : List Cell) (reg : ℕ) → reg < 34
    → missing_from slot mask cells (34 - reg) reg ≡ missing_cell slot mask cells
    → is_missing slot mask cells reg ≡ true → Some reg ≡ missing_cell slot mask cells
missing-found slot mask cells reg below so_far here =
    sym (cond-true (is_missing slot mask cells reg) (Some reg) _ here)
    ∙ sym (missing_from-step slot mask cells reg below) ∙ so_far

-- this cell isn't it, so the search goes on above it
pub missing-passed : (slot mask : ℕ) (cells : List Cell) (reg : ℕ) → reg < 34
    → missing_from slot mask cells (34 - reg) reg ≡ missing_cell slot mask cells
    → is_missing slot mask cells reg ≡ false
    → missing_from slot mask cells (34 - (reg + 1)) (reg + 1) ≡ missing_cell slot mask cells
missing-passed slot mask cells reg below so_far here =
    sym (cond-false (is_missing slot mask cells reg) (Some reg) _ here)
    ∙ sym (missing_from-step slot mask cells reg below) ∙ so_far

-- all cells were looked at
pub missing-none : (slot mask : ℕ) (cells : List Cell) (reg : ℕ) → 34 ≤ reg
    → missing_from slot mask cells (34 - reg) reg ≡ missing_cell slot mask cells
    → None ≡ missing_cell slot mask cells
missing-none slot mask cells reg past so_far =
    let none : 34 - reg ≡ zero = omega arith in
    rw none at so_far
