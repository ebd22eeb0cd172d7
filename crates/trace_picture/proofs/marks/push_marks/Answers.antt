use Rattle.std.proofs.Common.{[], List, ap, ◌∙◌, arith}
use Rattle.std.specs.List.{flat_map}
use Rattle.xom_base.specs.declared.entry.Entry.{Entry}
use Rattle.trace_picture.specs.Marks.{column_marks, mark_text}
use Rattle.trace_picture.proofs.Steps.{marks_on, same_piece, text_on}
use Rattle.trace_picture.proofs.marks.push_marks.Goals as goal

pub loop-start-preserved : goal.loop-start-preserved
loop-start-preserved c =
    let added = same_piece _ _ _ _ c.in_ok-push_column.ensures
    (ap (λ (l : List Entry). flat_map mark_text (column_marks c.loop-start.column [] l))
    (c.as_slice.ensures ∙ c.in_ok-entries.ensures)) in
    record {
      within = omega (arith, c.column_length-count.ensures.within);
      few = omega (arith, c.column_length-count.ensures.some, c.loop-start.invariant.few);
      marks = text_on _ _ _ _ _ _ added (marks_on c.loop-start.column _ _ _
          c.column_length-count.ensures.columns) c.loop-start.invariant.marks;
    }
