-- The laws, as the numbers of operands give them.
use Rattle.mips_text.proofs.OperandValues.{values_differ, words_are_listed}
use Rattle.mips_text.proofs.law.texts_are_exact.Goals as goal

pub returns : goal.returns
returns c = record { values = values_differ; words = words_are_listed }
