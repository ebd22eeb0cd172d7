-- So many events were made.
use Rattle.xom_machine.specs.Runs.{SoFar}
use Rattle.xom_machine.proofs.runs.make_events.Given as goal

abbrev pub invariant-loop-event : goal.invariant-loop-event
invariant-loop-event g l =
    SoFar g.K.Kernel.told l.schedule g.V.VersionStore.versions l.fn.machine l.fn.kernel l._event
    l.guests l.machine l.kernel
