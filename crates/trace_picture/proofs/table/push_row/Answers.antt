use Rattle.trace_picture.proofs.Steps.{then_piece}
use Rattle.trace_picture.proofs.table.push_row.Goals as goal

pub returns : goal.returns
returns c =
    then_piece c.push_text-3.result c.args.text.now.items c.push_text.new.text.items c.push_text-3.new.text.items _ _
    c.in_ok-push_text.ensures.ok
    (then_piece c.push_text-3.result c.push_text.new.text.items c.push_cell.new.text.items c.push_text-3.new.text.items _ _
    c.in_ok-push_cell.ensures
    (then_piece c.push_text-3.result c.push_cell.new.text.items c.push_slot.new.text.items c.push_text-3.new.text.items _ _
    c.in_ok-push_slot.ensures
    (then_piece c.push_text-3.result c.push_slot.new.text.items c.push_id.new.text.items c.push_text-3.new.text.items _ _
    c.in_ok-push_id.ensures
    (then_piece c.push_text-3.result c.push_id.new.text.items c.push_cell-2.new.text.items c.push_text-3.new.text.items _ _
    c.in_ok-push_cell-2.ensures
    (then_piece c.push_text-3.result c.push_cell-2.new.text.items c.push_cell-3.new.text.items c.push_text-3.new.text.items _ _
    c.in_ok-push_cell-3.ensures
    (then_piece c.push_text-3.result c.push_cell-3.new.text.items c.push_text-2.new.text.items c.push_text-3.new.text.items _ _
    c.in_ok-push_text-2.ensures.ok
    (then_piece c.push_text-3.result c.push_text-2.new.text.items c.push_end.new.text.items c.push_text-3.new.text.items _ _
    c.in_ok-push_end.ensures
    (c.push_text-3.ensures.ok))))))))
