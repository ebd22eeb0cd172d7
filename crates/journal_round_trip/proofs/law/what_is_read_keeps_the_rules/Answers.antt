-- The law, as the lines of a text give it.
use Rattle.journal_round_trip.proofs.KeptLaws.{keeps-journal}
use Rattle.journal_round_trip.proofs.law.what_is_read_keeps_the_rules.Goals as goal

pub returns : goal.returns
returns c = keeps-journal
