use Rattle.xom_model.proofs.QuietEvents.{events_trap_quietly}
use Rattle.xom_model.proofs.QuietTraps.{traps_change_nothing}
use Rattle.xom_model.proofs.laws.traps_change_nothing.Goals as goal

pub returns : goal.returns
returns c = record { guest = traps_change_nothing; event = events_trap_quietly }
