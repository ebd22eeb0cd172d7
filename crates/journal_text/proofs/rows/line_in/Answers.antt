-- A line of more than ten words is off the grammar.
use Rattle.std.proofs.Common.{◌≡◌, None, refl, sym, ◌∙◌, rules}
use Rattle.journal_text.proofs.RowLaws.{long_line}
use Rattle.journal_text.proofs.rows.line_in.Goals as goal

pub returns-in_err-words : goal.returns-in_err-words
returns-in_err-words c =
    let none : c.from_residual.result ≡ None = search rules in
    none ∙ sym (long_line c.args.last c.args.line.now (c.in_err-words.ensures.none.0 refl))
