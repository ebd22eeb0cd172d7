use Rattle.std.proofs.Common.{ap, ◌∙◌}
use Rattle.std.specs.List.{flat_map}
use Rattle.trace_picture.specs.Lanes.{column_size, columns_by}
use Rattle.trace_picture.specs.Marks.{mark_text, marks_from}
use Rattle.trace_picture.specs.Pages.{frame_text}
use Rattle.trace_picture.proofs.Steps.{same_piece, then_piece}
use Rattle.trace_picture.proofs.page.push_picture.Goals as goal

pub returns : goal.returns
returns c =
    then_piece c.push_text.result c.args.text.now.items c.push_lanes.new.text.items c.push_text.new.text.items _ _
    c.in_ok-push_lanes.ensures
    (then_piece c.push_text.result c.push_lanes.new.text.items c.push_frame.new.text.items c.push_text.new.text.items _ _
    (same_piece c.push_lanes.new.text.items c.push_frame.new.text.items _ _ c.in_ok-push_frame.ensures (λ i. frame_text (c.columns.ensures i) (c.lane_count.ensures i)))
    (then_piece c.push_text.result c.push_frame.new.text.items c.push_marks.new.text.items c.push_text.new.text.items _ _
    (same_piece c.push_frame.new.text.items c.push_marks.new.text.items _ _ c.in_ok-push_marks.ensures (ap (λ n. flat_map mark_text (marks_from 0 (columns_by n c.args.journal.now.entries)))
    (c.column_size.ensures ∙ ap column_size c.len.ensures)))
    (c.push_text.ensures.ok)))
