use Rattle.xom_model.proofs.Naming.{installs_are_told}
use Rattle.xom_model.proofs.laws.installs_are_told.Goals as goal

pub returns : goal.returns
returns c = installs_are_told
