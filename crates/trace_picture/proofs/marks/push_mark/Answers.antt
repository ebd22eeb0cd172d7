use Rattle.std.proofs.Common.{ap, ◌∙◌}
use Rattle.std.specs.List.{flat_map}
use Rattle.journal_text.specs.JournalTexts.{journal_line_text}
use Rattle.trace_picture.specs.Lanes.{entries_in}
use Rattle.trace_picture.specs.Marks.{rectangle_text, telling_of}
use Rattle.trace_picture.proofs.Steps.{same_piece, then_piece}
use Rattle.trace_picture.proofs.marks.push_mark.Goals as goal

pub returns : goal.returns
returns c =
    let lane = c.lane-lane.ensures in
    let telling = c.telling.ensures
    ∙ ap (λ l. telling_of c.args.entry.now (entries_in l c.args.behind.now)) lane in
    then_piece c.push_text.result c.args.text.now.items c.push_rectangle.new.text.items c.push_text.new.text.items _ _
    (same_piece c.args.text.now.items c.push_rectangle.new.text.items _ _ c.in_ok-push_rectangle.ensures (λ i. rectangle_text c.args.column (lane i) (telling i)))
    (then_piece c.push_text.result c.push_rectangle.new.text.items c.push_line.new.text.items c.push_text.new.text.items _ _
    c.in_ok-push_line.ensures
    (then_piece c.push_text.result c.push_line.new.text.items c.push_lines.new.text.items c.push_text.new.text.items _ _
    (same_piece c.push_line.new.text.items c.push_lines.new.text.items _ _ c.in_ok-push_lines.ensures (ap (λ l. flat_map journal_line_text (entries_in l c.args.behind.now)) lane))
    (c.push_text.ensures.ok)))
