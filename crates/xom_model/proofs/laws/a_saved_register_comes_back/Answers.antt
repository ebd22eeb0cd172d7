use Rattle.xom_versions.specs.Chip.{ChipStands}
use Rattle.xom_model.proofs.ComesBack.{saved_comes_back}
use Rattle.xom_model.proofs.laws.a_saved_register_comes_back.Goals as goal

pub returns : goal.returns
returns c = saved_comes_back ChipStands
