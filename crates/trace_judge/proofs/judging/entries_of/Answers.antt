-- Each entry stands behind those before it.
use Rattle.std.proofs.Common.{sym, ◌∙◌}
use Rattle.xom_journal.proofs.PlaceLaws.{front_none, front_some}
use Rattle.trace_judge.proofs.judging.entries_of.Goals as goal
use Rattle.trace_judge.proofs.judging.entries_of.Goals.{in-Some+in_ok-push, in_default}

pub loop-i-preserved : goal.loop-i-preserved
loop-i-preserved c =
    elim c.match-get.branch [
      | in-Some+in_ok-push w ↦
          let more = front_some c.args.journal.now.entries c.loop-i.i w.in-Some.entry
          (sym c.get.ensures ∙ w.in-Some.is) in
          rw w.entries-is (rw w.in_ok-push.ensures.items (rw c.loop-i.invariant (sym more)))
      | in_default w ↦
          let same = front_none c.args.journal.now.entries c.loop-i.i (sym c.get.ensures
          ∙ w.in_default.is) in
          rw w.entries-is (rw c.loop-i.invariant (sym same))
    ]
