-- The law, as the function that reads lines gives it.
use Rattle.journal_round_trip.proofs.KeptLaws.{one_journal}
use Rattle.journal_round_trip.proofs.law.a_text_is_one_journal.Goals as goal

pub returns : goal.returns
returns c = one_journal
