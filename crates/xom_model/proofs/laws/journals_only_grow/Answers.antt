use Rattle.xom_model.proofs.AppendsKept.{events_append}
use Rattle.xom_model.proofs.laws.journals_only_grow.Goals as goal

pub returns : goal.returns
returns c = events_append
