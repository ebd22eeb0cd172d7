use Rattle.mips_laws.proofs.Adding.{sums_whole, addu_adds, subu_subtracts}
use Rattle.mips_laws.proofs.numbers.sums_are_whole.Goals as goal

pub returns : goal.returns
returns c = record { signed = sums_whole; addu = addu_adds; subu = subu_subtracts }
