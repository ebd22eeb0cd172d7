-- One more way is dropped.
use Rattle.std.proofs.Common.{arith}
use Rattle.std.proofs.lemmas.List.Edits.{map_over_more}
use Rattle.line_cache.specs.Ways.{free_if}
use Rattle.line_cache.proofs.cache.drop_lines.Goals as goal

pub loop-way-preserved : goal.loop-way-preserved
loop-way-preserved c =
    rw (c.without.ensures, ← c.way-item.is)
    (map_over_more (free_if c.args.slot) c.args.ways.now c.loop-way.ways c.loop-way.way-index
    c.way-item.result (omega arith) c.loop-way.invariant c.way-item.is)
