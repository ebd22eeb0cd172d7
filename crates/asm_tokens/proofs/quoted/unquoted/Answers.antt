-- The function is the grammar.
use Rattle.text_lines.proofs.NumberLaws.{none_by_exact}
use Rattle.asm_tokens.proofs.QuotedLaws.{quoted_of-exact}
use Rattle.asm_tokens.specs.Lexemes.{Quotes}
use Rattle.asm_tokens.proofs.quoted.unquoted.Goals as goal

pub returns-clause-exact : goal.returns-clause-exact
returns-clause-exact c = rw c.in_ok-found.ensures (quoted_of-exact c.args.text.now)

pub returns-clause-none : goal.returns-clause-none
returns-clause-none c =
    none_by_exact (Quotes c.args.text.now) c.in_ok-found.found (returns-clause-exact c)
