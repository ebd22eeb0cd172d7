use Rattle.trace_picture.proofs.Steps.{then_piece}
use Rattle.trace_picture.proofs.table.push_table.Goals as goal

pub returns : goal.returns
returns c =
    then_piece c.push_text-2.result c.args.text.now.items c.push_text.new.text.items c.push_text-2.new.text.items _ _
    c.in_ok-push_text.ensures.ok
    (then_piece c.push_text-2.result c.push_text.new.text.items c.push_rows.new.text.items c.push_text-2.new.text.items _ _
    c.in_ok-push_rows.ensures
    (c.push_text-2.ensures.ok))
