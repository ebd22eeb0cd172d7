-- The names so far and those that are left are all of them.
use Rattle.std.proofs.Common.{◌≡◌, ◌+◌, ◌++◌, drop}
use Rattle.trace_picture.specs.GuestTable.{lane_names_text}
use Rattle.trace_picture.proofs.table.push_lane_names.Given as goal

abbrev pub invariant-loop-i : goal.invariant-loop-i
invariant-loop-i l =
    l.text.items ++ lane_names_text (l.i + 1) (drop l.i l.rows)
    ≡ l.initial.text.items ++ lane_names_text 1 l.rows
