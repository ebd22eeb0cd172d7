-- The lines so far are sealed.
use Rattle.std.proofs.Common.{◌≡◌, map}
use Rattle.std.specs.List.{range_with_len}
use Rattle.image_sealer.specs.Sealing.{sealed_line_of}
use Rattle.image_sealer.proofs.sealing.sealed_lines.Given as goal

abbrev pub invariant-loop-line : goal.invariant-loop-line
invariant-loop-line l = l.lines.items ≡ map (sealed_line_of l.owner) (range_with_len 0 l.line)
