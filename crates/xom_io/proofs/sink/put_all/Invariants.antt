-- So far the bytes before the place were appended, and no fault was counted.
use Rattle.std.proofs.Common.{length, ◌-◌, ◌≡◌, take, ◌≤◌}
use Rattle.xom_io.specs.Answers.{AppendsToSink}
use Rattle.xom_io.proofs.sink.put_all.Given as goal

abbrev pub invariant-loop-at : goal.invariant-loop-at
invariant-loop-at g l =
    (l.at ≤ length l.bytes)
    × (g.O.Sink.faults l.out ≡ g.O.Sink.faults l.initial.out)
    × AppendsToSink (g.O.Sink.written l.initial.out) (g.O.Sink.written l.out) (take l.at l.bytes)

abbrev pub decreases-loop-at : goal.decreases-loop-at
decreases-loop-at g l = length l.bytes - l.at
