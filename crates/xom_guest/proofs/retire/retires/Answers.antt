-- What the effect's step stores lies in the line of its address, and the guest still runs when it
-- has retired.
use Rattle.std.proofs.Common.{arith}
use Rattle.xom_guest.proofs.Fitting.{step_stores}
use Rattle.xom_guest.proofs.Reaching.{retired_runs}
use Rattle.xom_guest.proofs.retire.retires.Goals as goal

pub retire-requires-clause-line : goal.retire-requires-clause-line
retire-requires-clause-line g c =
    step_stores _ c.args.slot c.args.place _ _ c.args.effect.now _ _ _
    c.step_made-step.ensures.value c.requires.ranged c.requires.place

pub after_step-requires-clause-runs : goal.after_step-requires-clause-runs
after_step-requires-clause-runs g c =
    (retired_runs c.args.core.now.core _ c.args.slot c.args.place c.args.effect.now
    c.step_made-step.result c.retire.ensures.core c.requires.runs).runs

pub after_step-requires-clause-epoch : goal.after_step-requires-clause-epoch
after_step-requires-clause-epoch g c =
    let same = (retired_runs c.args.core.now.core _ c.args.slot c.args.place c.args.effect.now
    c.step_made-step.result c.retire.ensures.core c.requires.runs).epoch in let low =
    c.requires.epoch in omega arith
