use Rattle.std.proofs.Common.{sym, ◌∙◌}
use Rattle.trace_picture.proofs.GuestLaws.{fresh_on, fresh_past}
use Rattle.trace_picture.proofs.guests.fresh_rows.Goals as goal
use Rattle.trace_picture.proofs.guests.fresh_rows.Goals.{in-Some+in_ok-push_fresh, in_default}

pub loop-i-preserved : goal.loop-i-preserved
loop-i-preserved c =
    elim c.match-get.branch [
      | in-Some+in_ok-push_fresh w ↦ rw w.rows-is (fresh_on c.args.journal.now.entries c.loop-i.i
          w.in-Some.entry c.loop-i.rows.items w.push_fresh.new.rows.items
          (sym c.get.ensures ∙ w.in-Some.is) w.in_ok-push_fresh.ensures c.loop-i.invariant)
      | in_default w ↦ rw w.rows-is (fresh_past c.args.journal.now.entries c.loop-i.i
          c.loop-i.rows.items (sym c.get.ensures ∙ w.in_default.is) c.loop-i.invariant)
    ]
