-- The ways up to this one are dropped, and the rest is as it was.
use Rattle.std.proofs.Common.{◌≡◌, ◌++◌, take, drop}
use Rattle.line_cache.specs.Ways.{without_slot}
use Rattle.line_cache.proofs.cache.drop_lines.Given as goal

abbrev pub invariant-loop-way : goal.invariant-loop-way
invariant-loop-way l =
    l.ways ≡ without_slot l.slot (take l.way-index l.fn.ways) ++ drop l.way-index l.fn.ways
