-- What is left fits.
use Rattle.std.proofs.Common.{ap}
use Rattle.xom_private.proofs.Leaving.{fits_gone}
use Rattle.xom_private.proofs.parts.Core.leave.Goals as goal

pub invariant_of-self : goal.invariant_of-self
invariant_of-self g c =
    fits_gone _ _ _ _ _ _ _ _ _ _ _ c.drop_slot-2.ensures.map
    (ap (λ x. x.ways) c.drop_slot.ensures.cache) (rw c.left.ensures c.requires.dead)
    c.self.invariant
