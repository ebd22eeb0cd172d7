-- The text so far is that of the lines that were seen.
use Rattle.std.proofs.Common.{◌≡◌, take}
use Rattle.std.specs.List.{flat_map}
use Rattle.std.specs.Prelude.{string_bytes}
use Rattle.trace_judge.specs.ReportText.{guest_line_text}
use Rattle.trace_judge.proofs.text.lines_of.Given as goal

abbrev pub invariant-loop-line : goal.invariant-loop-line
invariant-loop-line l = string_bytes l.text ≡ flat_map guest_line_text (take l.line-index l.lines)
