-- The function is the grammar.
use Rattle.std.proofs.Common.{◌<◌}
use Rattle.text_lines.proofs.NumberLaws.{count_below_of-exact, none_by_exact, some_by_exact}
use Rattle.text_lines.specs.Numbers.{WritesCount}
use Rattle.text_lines.proofs.numbers.count_below.Goals as goal

pub returns-clause-exact : goal.returns-clause-exact
returns-clause-exact c = rw c.count_in.ensures (count_below_of-exact c.args.bound c.args.word.now)

pub returns-clause-none : goal.returns-clause-none
returns-clause-none c =
    none_by_exact (WritesCount c.args.bound c.args.word.now) c.count_in.result (returns-clause-exact c)

pub returns-clause-small : goal.returns-clause-small
returns-clause-small c =
    some_by_exact (WritesCount c.args.bound c.args.word.now) (λ n. n < c.args.bound)
    c.count_in.result (returns-clause-exact c) (λ n written. written.0.1)
