use Rattle.std.proofs.Common.{inl, Result, Ok, Err, ◌≡◌}
use Rattle.std.specs.Prelude.{IfOk}
use Rattle.cli_base.specs.Commands.{IsDone}
use Rattle.cli_base.specs.declared.answer.Answer.{Answer}
use Rattle.cli_base.specs.declared.refusal.Stop.{Stop}
use Rattle.xom_cli.proofs.top.answer.Goals as goal

-- status 0 alone
done-alone : (r : Result Answer Stop) → IfOk r (λ answer. answer.status ≡ 0)
    → IfOk r (λ answer. IsDone answer.status)
done-alone (Ok answer) is = inl is
done-alone (Err why) is = tt

pub returns-in-Plain-clause-meets : goal.returns-in-Plain-clause-meets
returns-in-Plain-clause-meets g c = rw c.in-Plain.is c.plain.ensures.gives

pub returns-in-Trace-clause-meets : goal.returns-in-Trace-clause-meets
returns-in-Trace-clause-meets g c = rw c.in-Trace.is c.trace.ensures.gives

pub returns-in-Debug-clause-done : goal.returns-in-Debug-clause-done
returns-in-Debug-clause-done g c = done-alone c.debug.result c.debug.ensures.done
