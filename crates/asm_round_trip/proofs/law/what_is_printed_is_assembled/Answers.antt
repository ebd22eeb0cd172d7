-- The law, as operands give it.
use Rattle.asm_round_trip.proofs.PrintedLaws.{printed_is_assembled}
use Rattle.asm_round_trip.proofs.law.what_is_printed_is_assembled.Goals as goal

pub returns : goal.returns
returns c = printed_is_assembled
