use Rattle.trace_picture.proofs.GuestLaws.{rows_changed}
use Rattle.trace_picture.proofs.guests.count.Goals as goal

pub returns-then-is_of_guest : goal.returns-then-is_of_guest
returns-then-is_of_guest c =
    rows_changed c.args.entry.now c.lane-install.result c.args.rows.now.items
    c.count_at.new.rows.items c.lane-install.ensures c.count_at.ensures.of_guest
    c.count_at.ensures.changed
