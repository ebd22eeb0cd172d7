-- The cut is at the place of the byte.
use Rattle.std.proofs.Common.{sym, ◌∙◌, ◌+◌}
use Rattle.std.proofs.lemmas.List.{take_rest}
use Rattle.text_lines.proofs.CutLaws.{cut_of-none, cut_of-place}
use Rattle.text_lines.proofs.line_words.cut.Goals as goal

pub returns-in_err-place : goal.returns-in_err-place
returns-in_err-place c =
    rw c.from_residual.ensures
    (sym (cut_of-none c.args.at c.args.bytes.now (sym c.place_of.ensures ∙ c.in_err-place.was)))

pub returns : goal.returns
returns c =
    rw (take_rest c.args.bytes.now (c.in_ok-place.place + 1))
    (sym (cut_of-place c.args.at c.args.bytes.now c.in_ok-place.place (sym c.place_of.ensures
    ∙ c.in_ok-place.was)))
