use Rattle.std.proofs.Common.{ap}
use Rattle.cli_judge.specs.Judge.{report_answer}
use Rattle.cli_judge.proofs.hearing.Hearing.answer.Goals as goal

pub returns-clause-value : goal.returns-clause-value
returns-clause-value c machine owners es heard =
    let report = c.in_ok-report.ensures machine owners es heard.judged in
    rw (c.in_ok-print_report.ensures, c.status.ensures.value, c.is_suspect.ensures, heard.stopped)
    (ap (λ r. report_answer r es) report)
