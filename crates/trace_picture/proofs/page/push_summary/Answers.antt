use Rattle.std.proofs.Common.{ap}
use Rattle.std.specs.Fmt.{decimal}
use Rattle.trace_picture.proofs.Steps.{same_piece, then_piece}
use Rattle.trace_picture.proofs.page.push_summary.Goals as goal

pub returns : goal.returns
returns c =
    then_piece c.push_text-3.result c.args.text.now.items c.push_text.new.text.items c.push_text-3.new.text.items _ _
    c.in_ok-push_text.ensures.ok
    (then_piece c.push_text-3.result c.push_text.new.text.items c.push_decimal64.new.text.items c.push_text-3.new.text.items _ _
    c.in_ok-push_decimal64.ensures.ok
    (then_piece c.push_text-3.result c.push_decimal64.new.text.items c.push_text-2.new.text.items c.push_text-3.new.text.items _ _
    c.in_ok-push_text-2.ensures.ok
    (then_piece c.push_text-3.result c.push_text-2.new.text.items c.push_decimal64-2.new.text.items c.push_text-3.new.text.items _ _
    (same_piece c.push_text-2.new.text.items c.push_decimal64-2.new.text.items _ _ c.in_ok-push_decimal64-2.ensures.ok (ap decimal c.column_size.ensures))
    (c.push_text-3.ensures.ok))))
