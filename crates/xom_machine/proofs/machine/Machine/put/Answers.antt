-- Bytes in RAM are no matter of counts and stops.
use Rattle.xom_machine.proofs.Events.{loaded-InTime}
use Rattle.xom_machine.proofs.machine.Machine.put.Goals as goal

pub invariant_of-self : goal.invariant_of-self
invariant_of-self g c =
    loaded-InTime _ c.put_bytes.new.ram (rw (← c.self-inside.view_is) at c.self.invariant)
