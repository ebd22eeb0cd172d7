use Rattle.mips_laws.proofs.Multiplying.{mult_multiplies, multu_multiplies}
use Rattle.mips_laws.proofs.numbers.products_are_whole.Goals as goal

pub returns : goal.returns
returns c = record { signed = mult_multiplies; unsigned = multu_multiplies }
