-- The lines so far and those of the entries that are left are all of them.
use Rattle.std.proofs.Common.{◌≡◌, ◌++◌, drop}
use Rattle.std.specs.List.{flat_map}
use Rattle.journal_text.specs.JournalTexts.{journal_line_text}
use Rattle.trace_picture.specs.Lanes.{entries_in}
use Rattle.trace_picture.proofs.marks.push_lines.Given as goal

abbrev pub invariant-loop-entry : goal.invariant-loop-entry
invariant-loop-entry l =
    l.text.items ++ flat_map journal_line_text (entries_in l.lane (drop l.entry-index l.entries))
    ≡ l.initial.text.items ++ flat_map journal_line_text (entries_in l.lane l.entries)
