-- Behind what was there stand the lines so far.
use Rattle.std.proofs.Common.{◌≡◌, ◌++◌, take}
use Rattle.std.specs.List.{flat_map}
use Rattle.xom_image.specs.SealedFiles.{line_bytes}
use Rattle.xom_image.proofs.sealed.write_lines.Given as goal

abbrev pub invariant-loop-line : goal.invariant-loop-line
invariant-loop-line l =
    l.file.items ≡ l.initial.file.items ++ flat_map line_bytes (take l.line-index l.lines)
