use Rattle.mips_laws.proofs.Comparing.{signed_comparisons, unsigned_comparisons}
use Rattle.mips_laws.proofs.numbers.comparisons_are_less_than.Goals as goal

pub returns : goal.returns
returns c = record { signed = signed_comparisons; unsigned = unsigned_comparisons }
