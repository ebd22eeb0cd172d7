-- The lines so far are those of the guests that were seen.
use Rattle.std.proofs.Common.{◌≡◌, take, map, []}
use Rattle.trace_judge.specs.GuestWatch.{line_after}
use Rattle.trace_judge.proofs.guests.lines_of.Given as goal

abbrev pub invariant-loop-guest : goal.invariant-loop-guest
invariant-loop-guest l = l.lines ≡ map (λ g. line_after g []) (take l.guest-index l.guests)
