use Rattle.xom_versions.specs.Chip.{ChipStands, chip}
use Rattle.xom_model.proofs.StartKept.{start_holds}
use Rattle.xom_model.proofs.Turns.{events_keep}
use Rattle.xom_model.proofs.laws.guests_run_alone.Goals as goal

pub returns : goal.returns
returns c = record { at_start = start_holds chip ChipStands; kept = events_keep chip ChipStands }
