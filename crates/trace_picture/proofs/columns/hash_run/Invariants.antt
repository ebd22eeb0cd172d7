-- The hashes so far and those from this place on are the run.
use Rattle.std.proofs.Common.{◌≡◌, ◌+◌, ◌-◌, ◌≤◌, drop, length}
use Rattle.std.specs.List.{prefix_len}
use Rattle.trace_picture.specs.Lanes.{is_hash}
use Rattle.trace_picture.proofs.columns.hash_run.Given as goal

abbrev pub invariant-loop-at : goal.invariant-loop-at
invariant-loop-at l = record {
  from : l.start ≤ l.at;
  within : l.at ≤ length l.journal.entries;
  run : l.at + prefix_len is_hash (drop l.at l.journal.entries)
      ≡ l.start + prefix_len is_hash (drop l.start l.journal.entries);
}

abbrev pub decreases-loop-at : goal.decreases-loop-at
decreases-loop-at l = length l.journal.entries - l.at
