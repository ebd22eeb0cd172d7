use Rattle.std.proofs.Common.{◌+◌, ◌<◌, length, arith}
use Rattle.trace_picture.proofs.Steps.{option_on}
use Rattle.trace_picture.proofs.columns.entries_at.Goals as goal

pub loop-i-preserved : goal.loop-i-preserved
loop-i-preserved c =
    let within : c.loop-i.i < length c.args.journal.now.entries =
    omega (arith, c.loop-i-test.true, c.requires) in
    record {
      within = omega (arith, c.loop-i-test.true);
      entries = option_on c.args.journal.now.entries c.loop-i.i (c.args.start + c.args.count)
          c.loop-i.list _ _ within c.loop-i-test.true c.in_ok-push_at.ensures
          c.loop-i.invariant.entries;
    }
