-- What a judge may be fed of a journal's text.
use Rattle.std.specs.Prelude.{◌≡◌, ◌+◌, ℕ, true, List, Ok, Err}
use Rattle.xom_base.specs.declared.entry.Entry.{Entry}
use Rattle.text_lines.specs.Lines.{lines_of}
use Rattle.journal_text.specs.JournalLines.{IsRow}
use Rattle.journal_text.specs.Readings.{IsBadJournalLine, IsJournal}
use Rattle.trace_judge.specs.Numbers.{installs_in, may_stand}
use Rattle.cli_judge.specs.Judge.{entries_at}

-- the entry of each line may stand next, and behind it the last install has the number of all
-- installs so far
abbrev pub RowsMayStand : Type 0
RowsMayStand =
    (last next : ℕ) (words : List (List ℕ)) (e : Entry) → IsRow last words e next
    → (may_stand last e ≡ true) × (next ≡ last + installs_in e)

-- what is read of a journal's text is what its grammar says: its entries, or its first bad line
abbrev pub TextsAreRead : Type 0
TextsAreRead = (text : List ℕ)
    → ((entries : List Entry) → entries_at text ≡ Ok entries → IsJournal text entries)
    × ((n : ℕ) → entries_at text ≡ Err n → IsBadJournalLine (lines_of text) n)
