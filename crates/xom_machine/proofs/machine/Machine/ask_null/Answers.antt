-- Cells and bytes of RAM are no matter of counts and stops.
use Rattle.xom_model.specs.Null.{Open}
use Rattle.xom_machine.proofs.Events.{opened-InTime}
use Rattle.xom_machine.proofs.machine.Machine.ask_null.Goals as goal

pub invariant_of-self : goal.invariant_of-self
invariant_of-self g c =
    let after : Open = record {
      cells = c.null_event.new.cells;
      ram = c.null_event.new.ram;
      pc =
          c.null_event.new.pair.0;
      npc = c.null_event.new.pair.1;
    } in
    opened-InTime _ after (rw (← c.self-inside.view_is) at c.self.invariant)
