-- The rows have what the entries so far record.
use Rattle.std.proofs.Common.{◌≡◌, take}
use Rattle.std.specs.List.{filter_map}
use Rattle.trace_picture.specs.GuestTable.{fresh_row, rows_with}
use Rattle.trace_picture.proofs.guests.guest_rows.Given as goal

abbrev pub invariant-loop-i : goal.invariant-loop-i
invariant-loop-i l =
    l.rows.items
    ≡ rows_with 1 (take l.i l.journal.entries) (filter_map fresh_row l.journal.entries)
