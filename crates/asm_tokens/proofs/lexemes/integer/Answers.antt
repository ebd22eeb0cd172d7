-- The function is the grammar.
use Rattle.text_lines.proofs.NumberLaws.{none_by_exact}
use Rattle.asm_tokens.proofs.IntegerLaws.{integer_of-exact}
use Rattle.asm_tokens.specs.Integers.{IsInteger}
use Rattle.asm_tokens.proofs.lexemes.integer.Goals as goal

pub returns-clause-exact : goal.returns-clause-exact
returns-clause-exact c = rw c.integer_in.ensures (integer_of-exact c.args.text.now)

pub returns-clause-none : goal.returns-clause-none
returns-clause-none c =
    none_by_exact (IsInteger c.args.text.now) c.integer_in.result (returns-clause-exact c)
