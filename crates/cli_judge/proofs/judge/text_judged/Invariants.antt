-- The lines so far were heard.
use Rattle.std.proofs.Common.{length}
use Rattle.cli_judge.specs.Hearings.{IsHeardTo}
use Rattle.cli_judge.proofs.judge.text_judged.Given as goal

abbrev pub invariant-loop-rest : goal.invariant-loop-rest
invariant-loop-rest l = IsHeardTo l.machine l.owners l.text l.hearing l.reader l.rest

abbrev pub decreases-loop-rest : goal.decreases-loop-rest
decreases-loop-rest l = length l.rest
