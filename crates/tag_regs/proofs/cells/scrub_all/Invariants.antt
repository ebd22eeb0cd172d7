-- The cells up to this one are scrubbed, and the rest is as it was.
use Rattle.std.proofs.Common.{◌≡◌, ◌++◌, take, drop}
use Rattle.tag_regs.specs.TaggedCells.{cells_after_scrub}
use Rattle.tag_regs.proofs.cells.scrub_all.Given as goal

abbrev pub invariant-loop-cell : goal.invariant-loop-cell
invariant-loop-cell l =
    l.cells ≡ cells_after_scrub l.slot (take l.cell-index l.fn.cells) ++ drop l.cell-index l.fn.cells
