-- The searches were fed the entries so far.
use Rattle.std.proofs.Common.{take}
use Rattle.journal_findings.specs.Findings.{sealed_by}
use Rattle.trace_judge.specs.Judging.{HasSearched}
use Rattle.trace_judge.proofs.judging.search.Given as goal

abbrev pub invariant-loop-entry : goal.invariant-loop-entry
invariant-loop-entry l =
    HasSearched (sealed_by l.machine l.owners) l.searches (take l.entry-index l.entries)
