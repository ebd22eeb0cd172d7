-- The law, as the lines of printed words give it.
use Rattle.asm_round_trip.proofs.WordLaws.{words_read_again}
use Rattle.asm_round_trip.proofs.law.listed_words_are_read_again.Goals as goal

pub returns : goal.returns
returns c = words_read_again
