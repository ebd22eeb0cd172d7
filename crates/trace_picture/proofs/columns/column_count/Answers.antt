use Rattle.std.proofs.Common.{ap, length, arith}
use Rattle.trace_picture.proofs.columns.column_count.Goals as goal

pub loop-start-preserved : goal.loop-start-preserved
loop-start-preserved c =
    let more = ap length c.column_length-start.ensures.columns in
    record {
      within = omega (arith, c.column_length-start.ensures.within);
      few = omega (arith, c.column_length-start.ensures.some, c.loop-start.invariant.few);
      columns = omega (arith, more, c.loop-start.invariant.columns);
    }
