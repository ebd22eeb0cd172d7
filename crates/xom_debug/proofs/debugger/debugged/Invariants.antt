-- So many commands were carried out.
use Rattle.xom_debug.specs.Sessions.{CarriedOut}
use Rattle.xom_debug.proofs.debugger.debugged.Given as goal

abbrev pub invariant-loop-command : goal.invariant-loop-command
invariant-loop-command g l =
    CarriedOut g.K.Kernel.told l.schedule g.V.VersionStore.versions l.fn.budget l.fn.commands
    l.initial.session l.fn.machine l.fn.kernel l.command-index l.session l.machine l.kernel
    l.text.items
