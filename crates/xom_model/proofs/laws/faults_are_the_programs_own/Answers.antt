use Rattle.xom_versions.specs.Chip.{ChipStands, chip}
use Rattle.xom_model.proofs.GuestKept.{faults_are_own}
use Rattle.xom_model.proofs.laws.faults_are_the_programs_own.Goals as goal

pub returns : goal.returns
returns c = faults_are_own chip ChipStands
