use Rattle.trace_picture.proofs.Steps.{same_piece, then_piece}
use Rattle.trace_picture.proofs.page.push_frame.Goals as goal

pub returns : goal.returns
returns c =
    then_piece c.push_text-7.result c.args.text.now.items c.push_text.new.text.items c.push_text-7.new.text.items _ _
    c.in_ok-push_text.ensures.ok
    (then_piece c.push_text-7.result c.push_text.new.text.items c.push_decimal64.new.text.items c.push_text-7.new.text.items _ _
    c.in_ok-push_decimal64.ensures.ok
    (then_piece c.push_text-7.result c.push_decimal64.new.text.items c.push_text-2.new.text.items c.push_text-7.new.text.items _ _
    c.in_ok-push_text-2.ensures.ok
    (then_piece c.push_text-7.result c.push_text-2.new.text.items c.push_decimal64-2.new.text.items c.push_text-7.new.text.items _ _
    c.in_ok-push_decimal64-2.ensures.ok
    (then_piece c.push_text-7.result c.push_decimal64-2.new.text.items c.push_text-3.new.text.items c.push_text-7.new.text.items _ _
    c.in_ok-push_text-3.ensures.ok
    (then_piece c.push_text-7.result c.push_text-3.new.text.items c.push_decimal64-3.new.text.items c.push_text-7.new.text.items _ _
    c.in_ok-push_decimal64-3.ensures.ok
    (then_piece c.push_text-7.result c.push_decimal64-3.new.text.items c.push_text-4.new.text.items c.push_text-7.new.text.items _ _
    c.in_ok-push_text-4.ensures.ok
    (then_piece c.push_text-7.result c.push_text-4.new.text.items c.push_text-5.new.text.items c.push_text-7.new.text.items _ _
    (same_piece c.push_text-4.new.text.items c.push_text-5.new.text.items _ _ c.in_ok-push_text-5.ensures.ok c.column_width.ensures)
    (then_piece c.push_text-7.result c.push_text-5.new.text.items c.push_text-6.new.text.items c.push_text-7.new.text.items _ _
    c.in_ok-push_text-6.ensures.ok
    (then_piece c.push_text-7.result c.push_text-6.new.text.items c.push_decimal64-4.new.text.items c.push_text-7.new.text.items _ _
    c.in_ok-push_decimal64-4.ensures.ok
    (c.push_text-7.ensures.ok))))))))))
