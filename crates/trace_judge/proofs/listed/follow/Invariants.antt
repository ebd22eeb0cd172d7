-- The verdict over what is left is the verdict over all.
use Rattle.std.proofs.Common.{◌≡◌, ◌≤◌, drop}
use Rattle.mips_plain.specs.Follows.{verdict_from}
use Rattle.trace_judge.proofs.listed.follow.Given as goal

abbrev pub invariant-loop-step : goal.invariant-loop-step
invariant-loop-step l =
    (l.count ≤ l.step-index) × (verdict_from l.plain (drop l.step-index l.steps)
    l.count ≡ verdict_from l.fn.plain l.steps 0)
