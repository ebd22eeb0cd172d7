-- The marks so far and those of the columns that are left are all of them.
use Rattle.std.proofs.Common.{◌≡◌, ◌-◌, ◌≤◌, ◌++◌, drop, length}
use Rattle.std.specs.List.{flat_map}
use Rattle.trace_picture.specs.Lanes.{columns_by}
use Rattle.trace_picture.specs.Marks.{mark_text, marks_from}
use Rattle.trace_picture.proofs.marks.push_marks.Given as goal

abbrev pub invariant-loop-start : goal.invariant-loop-start
invariant-loop-start l = record {
  within : l.start ≤ length l.journal.entries;
  few : l.column ≤ l.start;
  marks : l.text.items
      ++ flat_map mark_text (marks_from l.column (columns_by l.size (drop l.start l.journal.entries)))
      ≡ l.initial.text.items
      ++ flat_map mark_text (marks_from 0 (columns_by l.size l.journal.entries));
}

abbrev pub decreases-loop-start : goal.decreases-loop-start
decreases-loop-start l = length l.journal.entries - l.start
