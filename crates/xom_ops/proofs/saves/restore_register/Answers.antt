-- The tests that both have in common are made first.
use Rattle.std.proofs.Common.{Some, None, ◌∙◌, ap}
use Rattle.xom_ops.proofs.Tested.{restore_parts}
use Rattle.xom_ops.proofs.saves.restore_register.Goals as goal

pub returns-in-Some-clause-core : goal.returns-in-Some-clause-core
returns-in-Some-clause-core g c =
    ap (λ p. p.0)
    (restore_parts c.args.core.now.core c.args.slot c.args.reg c.args.address
    (Some c.in-Some.status) c.in-Some.ensures.status)

pub returns-in-None-clause-core : goal.returns-in-None-clause-core
returns-in-None-clause-core g c =
    c.restore_owned.ensures.core
    ∙ ap (λ p. p.0) (restore_parts c.args.core.now.core c.args.slot c.args.reg c.args.address None
    c.in-None.ensures.status)

pub returns-in-Some-clause-status : goal.returns-in-Some-clause-status
returns-in-Some-clause-status g c =
    ap (λ p. p.1)
    (restore_parts c.args.core.now.core c.args.slot c.args.reg c.args.address
    (Some c.in-Some.status) c.in-Some.ensures.status)

pub returns-in-None-clause-status : goal.returns-in-None-clause-status
returns-in-None-clause-status g c =
    c.restore_owned.ensures.status
    ∙ ap (λ p. p.1) (restore_parts c.args.core.now.core c.args.slot c.args.reg c.args.address None
    c.in-None.ensures.status)
