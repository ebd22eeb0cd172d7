-- Whether there is a Stop is told by the entries that are left.
use Rattle.std.proofs.Common.{◌≡◌, drop}
use Rattle.std.specs.List.{list_any}
use Rattle.trace_judge.specs.Suspicion.{is_stop}
use Rattle.run_text.proofs.stops.has_stop.Given as goal

abbrev pub invariant-loop-i : goal.invariant-loop-i
invariant-loop-i l =
    list_any is_stop (drop l.i l.journal.entries) ≡ list_any is_stop l.journal.entries
