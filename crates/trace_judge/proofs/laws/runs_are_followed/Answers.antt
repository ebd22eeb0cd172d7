-- Each line of a guest that did what its program does says so.
use Rattle.trace_judge.proofs.Lines.{Follows-lines}
use Rattle.trace_judge.proofs.laws.runs_are_followed.Goals as goal

pub returns : goal.returns
returns c = Follows-lines
