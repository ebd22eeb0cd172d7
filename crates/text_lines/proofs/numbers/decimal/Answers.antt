-- The function is the grammar.
use Rattle.text_lines.proofs.NumberLaws.{none_by_exact, numeral_of-exact}
use Rattle.text_lines.specs.Numbers.{IsDecimal}
use Rattle.text_lines.proofs.numbers.decimal.Goals as goal

pub returns-clause-exact : goal.returns-clause-exact
returns-clause-exact c = rw c.numeral.ensures (numeral_of-exact 10 c.args.word.now)

pub returns-clause-none : goal.returns-clause-none
returns-clause-none c =
    none_by_exact (IsDecimal c.args.word.now) c.numeral.result (returns-clause-exact c)
