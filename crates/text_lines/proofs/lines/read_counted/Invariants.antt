-- What is read so far, and what the rest of the text gives, are what the whole text gives.
use Rattle.std.proofs.Common.{◌≡◌, ◌≤◌, ◌+◌, length}
use Rattle.text_lines.specs.Lines.{lines_of, read_from, with_front}
use Rattle.text_lines.proofs.lines.read_counted.Given as goal

abbrev pub invariant-loop-rest : goal.invariant-loop-rest
invariant-loop-rest g l = record {
  read : with_front l.values.items (read_from g.R.LineFormat.step l.reader l.number
      (lines_of l.rest)) ≡ read_from g.R.LineFormat.step l.fn.reader 1 (lines_of l.text);
  number : l.number + length l.rest ≤ length l.text + 1;
  count : l.number + length (lines_of l.rest) ≡ 1 + length (lines_of l.text);
}

abbrev pub decreases-loop-rest : goal.decreases-loop-rest
decreases-loop-rest g l = length l.rest
