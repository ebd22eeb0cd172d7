-- What is written, with the lines of the run from here behind it, is what the whole run gives.
use Rattle.std.proofs.Common.{◌≡◌}
use Rattle.plain_run.specs.Runs.{run_alone_from, text_behind}
use Rattle.plain_run.proofs.run.push_run.Given as goal

abbrev pub invariant-loop-left : goal.invariant-loop-left
invariant-loop-left l =
    text_behind l.text.items (run_alone_from l.left l.plain l.values) ≡ text_behind l.fn.text.items
    (run_alone_from l.fn.steps l.fn.plain l.fn.received)

abbrev pub decreases-loop-left : goal.decreases-loop-left
decreases-loop-left l = l.left
