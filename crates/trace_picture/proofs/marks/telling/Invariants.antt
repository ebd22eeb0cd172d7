-- The most telling entry so far, beside those that are left, gives that of all.
use Rattle.std.proofs.Common.{◌≡◌, drop}
use Rattle.trace_picture.specs.Lanes.{entries_in}
use Rattle.trace_picture.specs.Marks.{telling_of}
use Rattle.trace_picture.proofs.marks.telling.Given as goal

abbrev pub invariant-loop-entry : goal.invariant-loop-entry
invariant-loop-entry l =
    telling_of l.telling (entries_in l.lane (drop l.entry-index l.entries))
    ≡ telling_of l.first (entries_in l.lane l.entries)
