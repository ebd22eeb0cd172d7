use Rattle.mips_laws.proofs.Dividing.{div_divides, div_overflow_row, divu_divides, zero_divides}
use Rattle.mips_laws.proofs.OneQuotient.{division_is_one}
use Rattle.mips_laws.proofs.numbers.divisions_divide.Goals as goal

pub returns : goal.returns
returns c = record {
  signed = div_divides;
  overflow_row = div_overflow_row;
  unsigned = divu_divides;
  by_zero = zero_divides;
  one = division_is_one;
}
