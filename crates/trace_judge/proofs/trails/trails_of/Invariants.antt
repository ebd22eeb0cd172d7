-- The trails tell of the entries so far.
use Rattle.std.proofs.Common.{◌≡◌, ℕ, take}
use Rattle.trace_judge.specs.Trails.{install_told, told_of_install}
use Rattle.trace_judge.proofs.trails.trails_of.Given as goal

abbrev pub invariant-loop-entry : goal.invariant-loop-entry
invariant-loop-entry l =
    (n : ℕ) → told_of_install l.trails n ≡ install_told (take l.entry-index l.entries) n
