use Rattle.xom_model.proofs.RunEvents.{runs_are_events}
use Rattle.xom_model.proofs.laws.runs_are_events.Goals as goal

pub returns : goal.returns
returns c = runs_are_events
