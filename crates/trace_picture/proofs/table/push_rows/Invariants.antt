-- The rows so far and those that are left are all of them.
use Rattle.std.proofs.Common.{◌≡◌, ◌+◌, ◌++◌, drop}
use Rattle.trace_picture.specs.GuestTable.{guest_rows_text}
use Rattle.trace_picture.proofs.table.push_rows.Given as goal

abbrev pub invariant-loop-i : goal.invariant-loop-i
invariant-loop-i l =
    l.text.items ++ guest_rows_text (l.i + 1) (drop l.i l.rows)
    ≡ l.initial.text.items ++ guest_rows_text 1 l.rows
