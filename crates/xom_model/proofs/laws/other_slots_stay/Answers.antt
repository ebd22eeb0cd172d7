use Rattle.xom_model.proofs.OthersKept.{events_leave_others}
use Rattle.xom_model.proofs.laws.other_slots_stay.Goals as goal

pub returns : goal.returns
returns c = events_leave_others
