-- The report is on the journal of the run, and its guests follow.
use Rattle.std.proofs.Common.{◌≡◌, subst}
use Rattle.xom_model.specs.Honest.{IsBounded}
use Rattle.xom_model.specs.State.{Record}
use Rattle.trace_judge.specs.Judgement.{judgement}
use Rattle.cli_trace.specs.Trace.{last_record}
use Rattle.cli_trace.proofs.Headline.{guests_follow}
use Rattle.cli_trace.proofs.made.judged.Goals as goal

pub returns-clause-machine : goal.returns-clause-machine
unfolding last_record
returns-clause-machine c = c.in_ok-machine.ensures

pub returns-clause-report : goal.returns-clause-report
returns-clause-report c =
    subst (λ (r : Record). c.in_ok-report.report ≡ judgement c.args.parts.file.machine
    c.args.parts.owners r.core.entries) (returns-clause-machine c)
    (rw c.journal-2.ensures.journal at c.in_ok-report.ensures)

pub returns-clause-follow : goal.returns-clause-follow
returns-clause-follow c =
    guests_follow c.args.parts c.requires
    (subst (λ (r : Record). IsBounded r.core.entries) (returns-clause-machine c)
    (rw c.journal.ensures.journal at c.in_ok-bounded.ensures))
