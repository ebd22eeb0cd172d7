-- The rows are those of the entries so far.
use Rattle.std.proofs.Common.{◌≡◌, take}
use Rattle.std.specs.List.{filter_map}
use Rattle.trace_picture.specs.GuestTable.{fresh_row}
use Rattle.trace_picture.proofs.guests.fresh_rows.Given as goal

abbrev pub invariant-loop-i : goal.invariant-loop-i
invariant-loop-i l = l.rows.items ≡ filter_map fresh_row (take l.i l.journal.entries)
