use Rattle.xom_versions.specs.ChipLaw.{chip_law}
use Rattle.xom_model.proofs.laws.chip_keeps_the_law.Goals as goal

pub returns : goal.returns
returns c = chip_law
