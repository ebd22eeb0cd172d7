-- A text that parses is a numeral, and no other is.
use Rattle.std.proofs.Common.{sym, ◌∙◌}
use Rattle.text_lines.proofs.NumberLaws.{IsUtf8-digits, begins_plus, first_is_digit, numeral_none, numeral_unsigned}
use Rattle.text_lines.proofs.numbers.numeral.Goals as goal

pub returns-then-starts_with : goal.returns-then-starts_with
returns-then-starts_with c =
    sym (numeral_none c.args.base c.args.word.now (λ numeral.
    first_is_digit c.args.base c.args.word.now c.requires.most numeral
    (begins_plus c.args.word.now (sym c.starts_with.ensures.value ∙ c.if-starts_with.true))))

pub returns : goal.returns
returns c =
    c.ok.ensures.value
    ∙ numeral_unsigned c.args.base c.args.word.now c.from_str_radix.result
    (sym c.starts_with.ensures.value ∙ c.if-starts_with.false)
    (rw c.in-Ok.ensures.cases.0 at c.from_str_radix.ensures.value)

pub returns-in_default : goal.returns-in_default
returns-in_default c =
    sym (numeral_none c.args.base c.args.word.now (λ numeral.
    c.in_default.ensures.cases.0 (IsUtf8-digits c.args.base c.args.word.now c.requires.most
    numeral.1)))
