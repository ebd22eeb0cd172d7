use Rattle.std.proofs.Common.{◌+◌}
use Rattle.trace_picture.proofs.Steps.{names_on, text_on}
use Rattle.trace_picture.proofs.table.push_lane_names.Goals as goal

pub loop-i-preserved : goal.loop-i-preserved
loop-i-preserved c =
    text_on _ _ _ _ _ _ c.in_ok-push_lane_name.ensures
    (names_on (c.loop-i.i + 1) c.loop-i.i c.args.rows.now c.loop-i-test.true) c.loop-i.invariant
