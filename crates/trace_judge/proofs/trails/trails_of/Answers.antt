-- One more entry was taken.
use Rattle.std.proofs.Common.{sym, ap, ◌∙◌}
use Rattle.trace_judge.specs.Trails.{told_after}
use Rattle.trace_judge.proofs.TrailLaws.{told_of-take}
use Rattle.trace_judge.proofs.trails.trails_of.Goals as goal

pub loop-entry-preserved : goal.loop-entry-preserved
loop-entry-preserved c n =
    c.in_ok-add.ensures n
    ∙ ap (λ was. told_after was n c.entry-item.result) (c.loop-entry.invariant n)
    ∙ sym (told_of-take c.args.entries.now c.loop-entry.entry-index c.entry-item.result
    c.loop-entry-test.true c.entry-item.is n)
