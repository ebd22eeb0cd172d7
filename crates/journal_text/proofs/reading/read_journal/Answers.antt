-- The function of the lines has just the entries of the grammar.
use Rattle.text_lines.proofs.TextLaws.{AnswersText-lines}
use Rattle.journal_text.specs.JournalLines.{JournalLine, journal_step}
use Rattle.journal_text.specs.Readings.{entries_alone, entries_read}
use Rattle.journal_text.proofs.RowLaws.{tells}
use Rattle.journal_text.proofs.reading.read_journal.Goals as goal

pub returns : goal.returns
returns c =
    AnswersText-lines journal_step JournalLine tells entries_alone 0 c.args.text.now
    (entries_read c.journal_in.result) (rw c.as_slice.ensures at c.journal_in.ensures)
