-- The entries that are read of a journal's text are those of its grammar.
use Rattle.std.proofs.Common.{◌≡◌, ℕ, List, Ok, Err, refl}
use Rattle.text_lines.specs.Lines.{AnswersText, lines_of}
use Rattle.xom_base.specs.declared.entry.Entry.{Entry}
use Rattle.text_lines.specs.declared.lines.TextFault.TheVariants as text_fault
use Rattle.text_lines.proofs.TextLaws.{AnswersText-lines}
use Rattle.journal_text.specs.JournalLines.{JournalLine, journal_step}
use Rattle.journal_text.specs.Readings.{IsBadJournalLine, IsJournal, entries_alone}
use Rattle.journal_text.proofs.RowLaws.{tells}
use Rattle.cli_judge.specs.Judge.{entries_at}
use Rattle.cli_judge.specs.Laws.{TextsAreRead}

-- a reader that gives these entries
given : (text : List ℕ) (entries : List Entry) → entries_at text ≡ Ok entries
    → AnswersText (IsJournal text) (IsBadJournalLine (lines_of text)) (Ok entries)
given text entries is =
    AnswersText-lines journal_step JournalLine tells entries_alone 0 text (Ok entries) is

-- and one that answers this line
refused : (text : List ℕ) (n : ℕ) → entries_at text ≡ Err n
    → AnswersText (IsJournal text) (IsBadJournalLine (lines_of text)) (Err (text_fault.Line n))
refused text n is =
    AnswersText-lines journal_step JournalLine tells entries_alone 0 text (Err (text_fault.Line n))
    is

pub entries-are : (text : List ℕ) (entries : List Entry) → entries_at text ≡ Ok entries
    → IsJournal text entries
entries-are text entries is = (given text entries is).found

pub texts_are_read : TextsAreRead
texts_are_read text =
    (λ entries is. entries-are text entries is, λ n is. (refused text n is).bad n refl)
