use Rattle.std.proofs.Common.{ap, sym, subst}
use Rattle.cli_base.specs.Commands.{IsDone}
use Rattle.cli_trace.proofs.Headline.{run_follows}
use Rattle.cli_trace.proofs.Statuses.{console_run-done}
use Rattle.cli_trace.proofs.run.run.Goals as goal

pub returns-clause-done : goal.returns-clause-done
returns-clause-done g c =
    subst IsDone (sym (ap (λ answer. answer.status) c.in_ok-console_alone.ensures.value))
    (console_run-done _)

pub returns-clause-follow : goal.returns-clause-follow
returns-clause-follow g c =
    run_follows _ _ c.in_ok-parts.parts c.in_ok-parts.ensures.gives.1
    c.in_ok-console_alone.ensures.follow
