-- So many events were made, and no guest left at one of them.
use Rattle.xom_debug.specs.Sessions.{Stayed}
use Rattle.xom_debug.proofs.session.Session.until_trap.Given as goal

abbrev pub invariant-loop-event : goal.invariant-loop-event
invariant-loop-event g l =
    Stayed g.K.Kernel.told l.schedule g.V.VersionStore.versions l.fn.budget l.fn.self l.fn.machine
    l.fn.kernel l._event l.self l.machine l.kernel
