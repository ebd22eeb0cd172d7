-- The lines so far and those of what is left are all lines, and what was found are verdicts.
use Rattle.std.proofs.Common.{◌≡◌, ◌++◌, drop}
use Rattle.std.specs.List.{filter_map}
use Rattle.trace_judge.specs.Trails.{line_by, told_of_install}
use Rattle.trace_judge.specs.Verdicts.{AreVerdicts}
use Rattle.trace_judge.proofs.listed.lines_by.Given as goal

abbrev pub invariant-loop-entry : goal.invariant-loop-entry
invariant-loop-entry l =
    AreVerdicts l.owners (told_of_install l.trails) l.found
    × (l.lines ++ filter_map (line_by l.owners (told_of_install l.trails))
    (drop l.entry-index l.entries) ≡ filter_map (line_by l.owners (told_of_install l.trails))
    l.entries)
