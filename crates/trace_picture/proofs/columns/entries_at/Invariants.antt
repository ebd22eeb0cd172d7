-- The entries so far and those that are left are those that were asked for.
use Rattle.std.proofs.Common.{◌≡◌, ◌+◌, ◌-◌, ◌≤◌, ◌++◌, drop, take}
use Rattle.trace_picture.proofs.columns.entries_at.Given as goal

abbrev pub invariant-loop-i : goal.invariant-loop-i
invariant-loop-i l = record {
  within : l.i ≤ l.start + l.count;
  entries : l.list ++ take (l.start + l.count - l.i) (drop l.i l.journal.entries)
      ≡ take l.count (drop l.start l.journal.entries);
}
