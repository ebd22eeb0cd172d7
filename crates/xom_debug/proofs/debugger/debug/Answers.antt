-- Where the kernel tells its turns, what was made is the run that they make.
use Rattle.std.proofs.lemmas.Result.{IfOk-weaker}
use Rattle.xom_debug.proofs.Carrying.{debug_told}
use Rattle.xom_debug.proofs.debugger.debug.Goals as goal

pub returns-clause-told : goal.returns-clause-told
returns-clause-told g c =
    IfOk-weaker c.debugged.result _ _
    (λ text debugs. debug_told g.K.Kernel.told c.args.schedule.now g.V.VersionStore.versions
    c.args.budget c.args.commands.now c.args.machine.now c.args.kernel.now _ _ text
    c.requires.first debugs)
    c.debugged.ensures
