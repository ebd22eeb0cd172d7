use Rattle.xom_model.proofs.CountsKept.{counted_at_start, events_keep_counts}
use Rattle.xom_model.proofs.laws.counts_are_low.Goals as goal

pub returns : goal.returns
returns c = record { at_start = counted_at_start; kept = events_keep_counts }
