-- There is no difference exactly where all bytes so far are equal.
use Rattle.std.proofs.Common.{◌≡◌, ◌↔◌}
use Rattle.keyed_mac.proofs.Bits.{SameBefore}
use Rattle.keyed_mac.proofs.matches.Given as goal

abbrev pub invariant-loop-i : goal.invariant-loop-i
invariant-loop-i l = (l.difference ≡ 0) ↔ SameBefore l.i l.a l.b
