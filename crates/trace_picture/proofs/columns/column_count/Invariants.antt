-- The columns so far and those that are left are all of them.
use Rattle.std.proofs.Common.{◌≡◌, ◌+◌, ◌-◌, ◌≤◌, drop, length}
use Rattle.trace_picture.specs.Lanes.{columns_by}
use Rattle.trace_picture.proofs.columns.column_count.Given as goal

abbrev pub invariant-loop-start : goal.invariant-loop-start
invariant-loop-start l = record {
  within : l.start ≤ length l.journal.entries;
  few : l.count ≤ l.start;
  columns : l.count + length (columns_by l.size (drop l.start l.journal.entries))
      ≡ length (columns_by l.size l.journal.entries);
}

abbrev pub decreases-loop-start : goal.decreases-loop-start
decreases-loop-start l = length l.journal.entries - l.start
