use Rattle.xom_model.proofs.StopsKept.{events_keep_stops, start_stops}
use Rattle.xom_model.proofs.laws.stops_are_last.Goals as goal

pub returns : goal.returns
returns c = record { at_start = start_stops; kept = events_keep_stops }
