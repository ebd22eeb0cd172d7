-- No line was bad, and the entries so far and those of the lines that are left are those of the
-- text.
use Rattle.std.proofs.Common.{◌≡◌, ◌+◌, ◌≤◌, false, length}
use Rattle.text_lines.specs.Lines.{lines_of, read_from, with_front}
use Rattle.journal_text.specs.JournalLines.{journal_step}
use Rattle.journal_text.proofs.reading.journal_in.Given as goal

abbrev pub invariant-loop-rest : goal.invariant-loop-rest
invariant-loop-rest l = record {
  good : l.reader.bad ≡ false;
  read : with_front l.journal.entries (read_from journal_step l.reader.last (l.reader.lines + 1)
      (lines_of l.rest)) ≡ read_from journal_step 0 1 (lines_of l.text);
  number : l.reader.lines + length l.rest ≤ length l.text;
}

abbrev pub decreases-loop-rest : goal.decreases-loop-rest
decreases-loop-rest l = length l.rest
