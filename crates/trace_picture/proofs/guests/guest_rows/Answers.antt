use Rattle.std.proofs.Common.{sym, ◌∙◌, arith}
use Rattle.std.specs.List.{filter_map}
use Rattle.trace_picture.specs.GuestTable.{fresh_row}
use Rattle.trace_picture.proofs.GuestLaws.{counted_on, counted_past, counted_small, rows_fresh}
use Rattle.trace_picture.proofs.guests.guest_rows.Goals as goal
use Rattle.trace_picture.proofs.guests.guest_rows.Goals.{in-Some, in_default}

pub loop-i-init : goal.loop-i-init
loop-i-init c = c.in_ok-rows.ensures ∙ sym (rows_fresh 1 c.args.journal.now.entries)

pub count-requires : goal.count-requires
count-requires c =
    counted_small c.args.journal.now.entries c.loop-i.i
    (filter_map fresh_row c.args.journal.now.entries) c.loop-i.rows.items
    (omega (arith, c.loop-i-test.true)) c.loop-i.invariant

pub loop-i-preserved : goal.loop-i-preserved
loop-i-preserved c =
    elim c.match-get.branch [
      | in-Some w ↦ rw w.rows-is (counted_on c.args.journal.now.entries c.loop-i.i w.in-Some.entry
          (filter_map fresh_row c.args.journal.now.entries) c.loop-i.rows.items
          w.count.new.rows.items (sym c.get.ensures ∙ w.in-Some.is) w.count.ensures
          c.loop-i.invariant)
      | in_default w ↦ rw w.rows-is (counted_past c.args.journal.now.entries c.loop-i.i
          (filter_map fresh_row c.args.journal.now.entries) c.loop-i.rows.items
          (sym c.get.ensures ∙ w.in_default.is) c.loop-i.invariant)
    ]
