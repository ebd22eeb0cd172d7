use Rattle.xom_model.proofs.Judged.{honesty_is_judged}
use Rattle.xom_model.proofs.laws.honesty_is_judged.Goals as goal

pub returns : goal.returns
returns c = honesty_is_judged
