-- The first line ends at the first line end.
use Rattle.std.proofs.Common.{sym}
use Rattle.text_lines.proofs.CutLaws.{cut_of-shorter, lines_of-cut, lines_of-whole}
use Rattle.text_lines.proofs.lines.first_line.Goals as goal

pub returns-in-Some-clause-lines : goal.returns-in-Some-clause-lines
returns-in-Some-clause-lines c =
    lines_of-cut c.args.text.now c.in-Some.parts.0.now c.in-Some.parts.1.now (sym c.in-Some.ensures)

pub returns-in-Some-clause-shorter : goal.returns-in-Some-clause-shorter
returns-in-Some-clause-shorter c =
    cut_of-shorter 10 c.args.text.now c.in-Some.parts.0.now c.in-Some.parts.1.now
    (sym c.in-Some.ensures)

pub returns-in-None-clause-lines : goal.returns-in-None-clause-lines
returns-in-None-clause-lines c = lines_of-whole c.args.text.now c.requires (sym c.in-None.ensures)
