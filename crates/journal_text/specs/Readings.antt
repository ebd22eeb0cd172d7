-- What a reader of a journal's text knows of the lines that it has read, and how it answers of the
-- next one.
use Rattle.std.specs.Prelude.{◌≡◌, ℕ, ◌+◌, Bool, true, false, List, length, ◌++◌, Option, Some, None, Result, Ok, Err}
use Rattle.std.specs.Option.{option_to_list}
use Rattle.text_lines.specs.Lines.{IsFirstBad, IsText, Reads, lines_of}
use Rattle.xom_base.specs.declared.entry.Entry.{Entry}
use Rattle.text_lines.specs.declared.lines.TextFault.{TextFault}
use Rattle.xom_journal.specs.Log.{Log}
use Rattle.journal_text.specs.declared.line_reader.BadLine.{BadLine}
use Rattle.journal_text.specs.JournalLines.{JournalLine}

-- ---- texts

-- the entries of the lines, whatever the last install
abbrev pub entries_alone : List Entry → ℕ → List Entry
entries_alone entries last = entries

-- the text is a journal of these entries: one a line, in their order, blank lines passed over
abbrev pub IsJournal : List ℕ → List Entry → Type 0
IsJournal text = IsText JournalLine entries_alone 0 text

-- of these lines, the one of this number, counted from 1, is the first that is bad
abbrev pub IsBadJournalLine : List (List ℕ) → ℕ → Type 0
IsBadJournalLine lines n = IsFirstBad JournalLine 0 1 lines n

-- the entries of a journal that was read, or the fault
abbrev pub entries_read : Result Log TextFault → Result (List Entry) TextFault
entries_read (Ok log) = Ok log.entries
entries_read (Err fault) = Err fault

-- ---- readers

-- the number of the last install, how many lines were read, and whether the last of them is bad
pub record Reading : Type 0 where
  pub last : ℕ
  pub lines : ℕ
  pub bad : Bool

-- The reader has read these lines, which gave these entries; or one of them is bad, and the reader
-- stands at the first bad one.
abbrev pub ReadOrBad : Bool → Reading → List (List ℕ) → List Entry → Type 0
ReadOrBad false reading lines entries =
    Reads JournalLine 0 1 lines entries reading.last × (reading.lines ≡ length lines)
ReadOrBad true reading lines entries = IsBadJournalLine lines reading.lines

-- the reader has read these lines, which gave these entries, unless it says that one is bad
abbrev pub HasRead : Reading → List (List ℕ) → List Entry → Type 0
HasRead reading lines entries = ReadOrBad reading.bad reading lines entries

-- what was answered of the last of these lines, where those before it gave these entries
abbrev pub AnswersNext : List (List ℕ) → List Entry → Result (Option Entry) BadLine → Reading
    → Type 0
AnswersNext lines entries (Ok found) reading =
    (reading.bad ≡ false) × HasRead reading lines (entries ++ option_to_list found)
AnswersNext lines entries (Err bad) reading =
    (reading.bad ≡ true) × IsBadJournalLine lines bad.0 × (reading.lines ≡ bad.0)

-- what is answered of a line that says this, by a reader that has met no bad one
abbrev pub AnswersStep : Option (Option Entry × ℕ) → Reading → Result (Option Entry) BadLine
    → Reading → Type 0
AnswersStep None old result new =
    (result ≡ Err (record { 0 = old.lines + 1 }))
    × (new ≡ record { last = old.last; lines = old.lines + 1; bad = true })
AnswersStep (Some read) old result new =
    (result ≡ Ok read.0) × (new ≡ record { last = read.1; lines = old.lines + 1; bad = false })
