-- None so far is in the lane.
use Rattle.std.proofs.Common.{◌≡◌, drop}
use Rattle.std.specs.List.{list_any}
use Rattle.trace_picture.specs.Lanes.{is_in_lane}
use Rattle.trace_picture.proofs.lanes.is_any_in.Given as goal

abbrev pub invariant-loop-entry : goal.invariant-loop-entry
invariant-loop-entry l =
    list_any (is_in_lane l.wanted) (drop l.entry-index l.entries)
    ≡ list_any (is_in_lane l.wanted) l.entries
