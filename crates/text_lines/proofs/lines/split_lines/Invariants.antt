-- The lines so far, and those of the rest, are those of the text.
use Rattle.std.proofs.Common.{◌≡◌, ◌++◌, map, length}
use Rattle.text_lines.specs.Lines.{lines_of}
use Rattle.text_lines.proofs.lines.split_lines.Given as goal

abbrev pub invariant-loop-rest : goal.invariant-loop-rest
invariant-loop-rest l = map (λ line. line.now) l.lines.items ++ lines_of l.rest ≡ lines_of l.text

abbrev pub decreases-loop-rest : goal.decreases-loop-rest
decreases-loop-rest l = length l.rest
