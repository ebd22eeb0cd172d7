-- Each part of the report is that of the list.
use Rattle.journal_findings.specs.Findings.{sealed_by}
use Rattle.trace_judge.proofs.JudgeLaws.{same_report}
use Rattle.trace_judge.proofs.stream.Judge.report.Goals as goal

pub returns : goal.returns
returns c machine owners es fed =
    same_report (c.in_ok-guests.ensures owners es fed.guests)
    (c.forged.ensures (sealed_by machine owners) es fed.searches)
    (c.collision.ensures (sealed_by machine owners) es fed.searches)
