-- One more cell is scrubbed.
use Rattle.std.proofs.Common.{◌<◌, length, get_or, ◌∙◌, ap, arith}
use Rattle.std.proofs.lemmas.List.{get_or_default}
use Rattle.std.proofs.lemmas.List.Edits.{map_over_more}
use Rattle.tag_regs.specs.TaggedCells.{empty_cell, scrubbed_cell}
use Rattle.tag_regs.proofs.cells.scrub_all.Goals as goal

pub loop-cell-preserved : goal.loop-cell-preserved
loop-cell-preserved c =
    let old = c.args.cells.now in
    let cells = c.loop-cell.cells in
    let i = c.loop-cell.cell-index in
    let cell = get_or cells i empty_cell in
    let within : i < length cells = omega arith in
    let written = c.without.ensures ∙ ap (scrubbed_cell c.args.slot)
    (get_or_default cells i _ empty_cell within) in
    rw written (map_over_more (scrubbed_cell c.args.slot) old cells i cell (omega arith)
    c.loop-cell.invariant (get_or_default cells i empty_cell cell within))
