-- An operation gives one install number at most.
use Rattle.std.proofs.Common.{refl}
use Rattle.xom_machine.proofs.Events.{operated-InTime}
use Rattle.xom_machine.proofs.machine.Machine.operate.Goals as goal

pub invariant_of-self : goal.invariant_of-self
invariant_of-self g c =
    operated-InTime g.V.VersionStore.versions _ _ c.args.op c.operate-status.ensures.core refl
    c.self.invariant (rw (← c.self.view_is) at c.requires.few)
