-- The judge was fed the entries so far.
use Rattle.std.proofs.Common.{take}
use Rattle.trace_judge.specs.Judging.{HasJudged}
use Rattle.trace_judge.proofs.judging.judge.Given as goal

abbrev pub invariant-loop-i : goal.invariant-loop-i
invariant-loop-i l = HasJudged l.machine l.owners l.judge (take l.i l.journal.entries)
