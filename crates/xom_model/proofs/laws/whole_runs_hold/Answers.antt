use Rattle.xom_versions.specs.Chip.{ChipStands, chip}
use Rattle.xom_model.proofs.RunKept.{runs_hold}
use Rattle.xom_model.proofs.laws.whole_runs_hold.Goals as goal

pub returns : goal.returns
returns c = runs_hold chip ChipStands
