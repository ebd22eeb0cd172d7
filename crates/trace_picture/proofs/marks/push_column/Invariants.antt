-- The marks so far and those that begin with an entry that is left are those of the column.
use Rattle.std.proofs.Common.{◌≡◌, ◌++◌, [], drop, take}
use Rattle.std.specs.List.{flat_map}
use Rattle.trace_picture.specs.Marks.{column_marks, mark_text}
use Rattle.trace_picture.proofs.marks.push_column.Given as goal

abbrev pub invariant-loop-i : goal.invariant-loop-i
invariant-loop-i l =
    l.text.items
    ++ flat_map mark_text (column_marks l.column (take l.i l.entries) (drop l.i l.entries))
    ≡ l.initial.text.items ++ flat_map mark_text (column_marks l.column [] l.entries)
