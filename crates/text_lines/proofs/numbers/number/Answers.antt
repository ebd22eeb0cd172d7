-- The function is the grammar.
use Rattle.text_lines.proofs.NumberLaws.{none_by_exact, number_of-exact}
use Rattle.text_lines.specs.Numbers.{IsNumber}
use Rattle.text_lines.proofs.numbers.number.Goals as goal

pub returns-clause-exact : goal.returns-clause-exact
returns-clause-exact c = rw c.number_in.ensures (number_of-exact c.args.word.now)

pub returns-clause-none : goal.returns-clause-none
returns-clause-none c =
    none_by_exact (IsNumber c.args.word.now) c.number_in.result (returns-clause-exact c)
