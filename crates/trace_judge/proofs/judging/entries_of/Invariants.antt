-- The entries so far are listed.
use Rattle.std.proofs.Common.{◌≡◌, take}
use Rattle.trace_judge.proofs.judging.entries_of.Given as goal

abbrev pub invariant-loop-i : goal.invariant-loop-i
invariant-loop-i l = l.entries.items ≡ take l.i l.journal.entries
