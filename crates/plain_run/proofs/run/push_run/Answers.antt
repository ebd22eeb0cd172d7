-- A step that is made adds its line, and what ends the run adds none.
use Rattle.std.proofs.Common.{sym, ap, ◌-◌, ◌∙◌}
use Rattle.plain_run.specs.Runs.{run_alone_from, run_goes_on}
use Rattle.plain_run.proofs.RunLaws.{ended_next, none_more, one_more, stopped, went_on}
use Rattle.plain_run.proofs.run.push_run.Goals as goal

pub returns-in-Fault : goal.returns-in-Fault
returns-in-Fault c =
    ended_next c.loop-left.text.items c.loop-left.left c.loop-left.plain c.loop-left.values.now
    c.loop-left-test.true c.next-answer.ensures
    (λ run. ap (λ answer. run_goes_on answer run) c.in-Fault.is) c.loop-left.invariant

pub returns-in-Unfit : goal.returns-in-Unfit
returns-in-Unfit c =
    ended_next c.loop-left.text.items c.loop-left.left c.loop-left.plain c.loop-left.values.now
    c.loop-left-test.true c.next-answer.ensures
    (λ run. ap (λ answer. run_goes_on answer run) c.in-Unfit.is) c.loop-left.invariant

pub returns-in-Over : goal.returns-in-Over
returns-in-Over c =
    ended_next c.loop-left.text.items c.loop-left.left c.loop-left.plain c.loop-left.values.now
    c.loop-left-test.true c.next-answer.ensures
    (λ run. ap (λ answer. run_goes_on answer run) c.in-Over.is) c.loop-left.invariant

pub loop-left-preserved : goal.loop-left-preserved
loop-left-preserved c =
    let more = one_more c.loop-left.left c.loop-left.plain c.loop-left.values.now
    c.loop-left-test.true c.next-answer.ensures in
    went_on c.loop-left.text.items c.push_line.new.text.items c.in-Did.step
    (run_alone_from (c.loop-left.left - 1) c.next-answer.new.plain c.next-answer.result.1.now)
    c.in_ok-push_line-in-Did.ensures (rw c.in-Did.is at more) c.loop-left.invariant

pub returns-then-is_over : goal.returns-then-is_over
returns-then-is_over c =
    stopped c.loop-left.text.items
    (none_more c.loop-left.left c.loop-left.plain c.loop-left.values.now c.loop-left-test.false
    (sym c.is_over.ensures ∙ c.if-is_over.true))
    c.loop-left.invariant

pub returns-else-is_over : goal.returns-else-is_over
returns-else-is_over c =
    stopped c.loop-left.text.items
    (none_more c.loop-left.left c.loop-left.plain c.loop-left.values.now c.loop-left-test.false
    (sym c.is_over.ensures ∙ c.if-is_over.false))
    c.loop-left.invariant
