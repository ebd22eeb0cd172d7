-- The search from this cell on finds the same.
use Rattle.std.proofs.Common.{◌≡◌, ◌-◌}
use Rattle.xom_model.specs.Operation.{missing_cell, missing_from}
use Rattle.xom_ops.proofs.missing.missing.Given as goal

abbrev pub invariant-loop-reg : goal.invariant-loop-reg
invariant-loop-reg l =
    missing_from l.slot l.mask l.cells (34 - l.reg) l.reg ≡ missing_cell l.slot l.mask l.cells
