use Rattle.cli_base.specs.Commands.{IsDone}
use Rattle.cli_runs.proofs.Steps.{named-keeps}
use Rattle.cli_judge.proofs.judge.journal_judged.Goals as goal

pub returns-clause-done : goal.returns-clause-done
returns-clause-done g c =
    named-keeps (λ answer. IsDone answer.status) _ c.text_judged.result c.of_file.result
    c.text_judged.ensures.done c.of_file.ensures
