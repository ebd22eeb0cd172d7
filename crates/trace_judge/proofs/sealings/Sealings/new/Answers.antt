-- One more owner is ready.
use Rattle.std.proofs.Common.{◌≡◌, Some, sym, ap, ◌∙◌}
use Rattle.std.specs.Prelude.{slice_get}
use Rattle.journal_findings.specs.Findings.{sealed_by}
use Rattle.trace_judge.proofs.ForgeryLaws.{sealings_more}
use Rattle.trace_judge.proofs.Takes.{take_none}
use Rattle.trace_judge.proofs.sealings.Sealings.new.Goals as goal
use Rattle.trace_judge.proofs.sealings.Sealings.new.Goals.{in-Some+in_ok-push, in_default}

pub loop-i-preserved : goal.loop-i-preserved
loop-i-preserved c =
    let machine = c.args.machine.now in
    let owners = c.args.owners.now in
    let i = c.loop-i.i in
    elim c.match-get.branch [
      | in-Some+in_ok-push w ↦
          let got : slice_get owners i ≡ Some w.in-Some.owner.now =
          sym (rw w.in-Some.is at c.get.ensures) in
          rw (w.items-is, w.in_ok-push.ensures.items, w.new.ensures)
          (sealings_more machine owners i w.in-Some.owner.now c.loop-i.items.items got
          c.loop-i.invariant)
      | in_default w ↦
          rw w.items-is (c.loop-i.invariant ∙ ap (sealed_by machine)
          (sym (take_none owners i (sym (rw w.in_default.is at c.get.ensures)))))
    ]
