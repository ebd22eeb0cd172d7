-- The lines so far are the first of the file.
use Rattle.std.proofs.Common.{◌≡◌}
use Rattle.xom_image.specs.SealedFiles.{lines_at}
use Rattle.xom_image.proofs.sealed.lines_at.Given as goal

abbrev pub invariant-loop-i : goal.invariant-loop-i
invariant-loop-i l = l.lines.items ≡ lines_at l.file l.i
