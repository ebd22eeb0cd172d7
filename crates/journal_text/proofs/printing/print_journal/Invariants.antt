-- The lines so far and those that are left are the text of the journal.
use Rattle.std.proofs.Common.{◌≡◌, ◌++◌, drop}
use Rattle.journal_text.specs.JournalTexts.{journal_text}
use Rattle.journal_text.proofs.printing.print_journal.Given as goal

abbrev pub invariant-loop-i : goal.invariant-loop-i
invariant-loop-i l =
    l.text.items ++ journal_text (drop l.i l.journal.entries) ≡ journal_text l.journal.entries
