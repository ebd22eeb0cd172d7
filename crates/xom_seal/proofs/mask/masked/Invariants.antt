-- What the loop has passed is masked, and what it has not is as it was.
use Rattle.std.proofs.Common.{◌≡◌}
use Rattle.xom_seal.proofs.Masks.{masked_to}
use Rattle.xom_seal.proofs.mask.masked.Given as goal

abbrev pub invariant-loop-i : goal.invariant-loop-i
invariant-loop-i g l = l.masked ≡ masked_to l.i l.bytes l.pad
