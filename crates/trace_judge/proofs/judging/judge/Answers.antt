-- In the end the judge was fed the whole journal.
use Rattle.std.proofs.Common.{subst, arith}
use Rattle.std.proofs.lemmas.List.{take_all}
use Rattle.trace_judge.specs.Judging.{HasJudged}
use Rattle.trace_judge.proofs.JudgeLaws.{judgement-of_report}
use Rattle.trace_judge.proofs.judging.judge.Goals as goal

pub returns : goal.returns
returns c =
    let machine = c.args.machine.now in
    let owners = c.args.owners.now in
    let entries = c.args.journal.now.entries in
    let all = take_all c.loop-i.i entries
    (omega (arith, c.loop-i-test.false, c.len-i-end.ensures)) in
    judgement-of_report machine owners c.loop-i.judge entries c.report.result c.report.ensures
    (subst (HasJudged machine owners c.loop-i.judge) all c.loop-i.invariant)
