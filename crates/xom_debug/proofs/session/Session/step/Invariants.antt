-- So many events were made, at most up to the run's end.
use Rattle.xom_debug.specs.Sessions.{Gone}
use Rattle.xom_debug.proofs.session.Session.step.Given as goal

abbrev pub invariant-loop-event : goal.invariant-loop-event
invariant-loop-event g l =
    Gone g.K.Kernel.told l.schedule g.V.VersionStore.versions l.fn.budget l.fn.self l.fn.machine
    l.fn.kernel l._event l.self l.machine l.kernel
