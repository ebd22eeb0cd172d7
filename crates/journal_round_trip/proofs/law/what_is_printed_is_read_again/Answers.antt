-- The law, as the lines of a printed text give it.
use Rattle.journal_round_trip.proofs.TextLaws.{printed_is_read}
use Rattle.journal_round_trip.proofs.law.what_is_printed_is_read_again.Goals as goal

pub returns : goal.returns
returns c = printed_is_read
