-- The law, as the words of a listing give it.
use Rattle.asm_round_trip.proofs.ListingLaws.{listings_assembled_again}
use Rattle.asm_round_trip.proofs.WordLaws.{words_read_again}
use Rattle.asm_round_trip.proofs.law.listings_are_assembled_again.Goals as goal

pub returns : goal.returns
returns c = listings_assembled_again words_read_again
