-- Bytes in RAM are no matter of counts and stops.
use Rattle.std.proofs.Common.{refl}
use Rattle.xom_machine.proofs.Events.{open-InTime}
use Rattle.xom_machine.proofs.machine.Machine.write.Goals as goal

pub invariant_of-self : goal.invariant_of-self
invariant_of-self g c =
    open-InTime _ _ _ c.put_bytes-fits.new.ram refl refl
    (rw (← c.self-inside.view_is) at c.self.invariant)
    (rw (← c.self.view_is, ← c.self-inside.view_is) at c.requires.few)
