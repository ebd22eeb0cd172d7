use Rattle.trace_picture.proofs.Steps.{same_end, same_piece, then_piece}
use Rattle.trace_picture.proofs.page.push_head.Goals as goal

pub returns : goal.returns
returns c =
    then_piece c.push_text-2.result c.args.text.now.items c.push_text.new.text.items c.push_text-2.new.text.items _ _
    (same_piece c.args.text.now.items c.push_text.new.text.items _ _ c.in_ok-push_text.ensures.ok c.layout.ensures)
    ((same_end c.push_text-2.result c.push_text.new.text.items c.push_text-2.new.text.items _ _ c.push_text-2.ensures.ok c.kinds.ensures))
