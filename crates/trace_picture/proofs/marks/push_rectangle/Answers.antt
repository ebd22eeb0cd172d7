use Rattle.trace_picture.proofs.Steps.{same_piece, then_piece}
use Rattle.trace_picture.proofs.marks.push_rectangle.Goals as goal

pub returns : goal.returns
returns c =
    then_piece c.push_text-6.result c.args.text.now.items c.push_text.new.text.items c.push_text-6.new.text.items _ _
    c.in_ok-push_text.ensures.ok
    (then_piece c.push_text-6.result c.push_text.new.text.items c.push_text-2.new.text.items c.push_text-6.new.text.items _ _
    (same_piece c.push_text.new.text.items c.push_text-2.new.text.items _ _ c.in_ok-push_text-2.ensures.ok c.class.ensures)
    (then_piece c.push_text-6.result c.push_text-2.new.text.items c.push_text-3.new.text.items c.push_text-6.new.text.items _ _
    c.in_ok-push_text-3.ensures.ok
    (then_piece c.push_text-6.result c.push_text-3.new.text.items c.push_decimal64.new.text.items c.push_text-6.new.text.items _ _
    c.in_ok-push_decimal64.ensures.ok
    (then_piece c.push_text-6.result c.push_decimal64.new.text.items c.push_text-4.new.text.items c.push_text-6.new.text.items _ _
    c.in_ok-push_text-4.ensures.ok
    (then_piece c.push_text-6.result c.push_text-4.new.text.items c.push_decimal64-2.new.text.items c.push_text-6.new.text.items _ _
    c.in_ok-push_decimal64-2.ensures.ok
    (then_piece c.push_text-6.result c.push_decimal64-2.new.text.items c.push_text-5.new.text.items c.push_text-6.new.text.items _ _
    (same_piece c.push_decimal64-2.new.text.items c.push_text-5.new.text.items _ _ c.in_ok-push_text-5.ensures.ok c.drop_below.ensures)
    (c.push_text-6.ensures.ok)))))))
