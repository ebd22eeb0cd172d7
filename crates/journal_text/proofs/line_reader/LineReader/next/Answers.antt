-- What a line says, in the words of the lines so far.
use Rattle.journal_text.proofs.ReadLaws.{next_answers, next_blank}
use Rattle.journal_text.proofs.line_reader.LineReader.next.Goals as goal

pub returns-clause-answers : goal.returns-clause-answers
returns-clause-answers c =
    next_answers c.args.self.now c.read.new.self c.args.line.now c.read.result c.read.ensures.stays
    c.read.ensures.value

pub returns-clause-blank : goal.returns-clause-blank
returns-clause-blank c =
    next_blank c.args.self.now c.read.new.self c.args.line.now c.read.result c.read.ensures.stays
    c.read.ensures.value
