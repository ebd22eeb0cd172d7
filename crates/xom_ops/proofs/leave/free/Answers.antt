-- What is left fits.
use Rattle.std.proofs.Common.{ap}
use Rattle.xom_ops.proofs.Moving.{fits_killed}
use Rattle.xom_ops.proofs.leave.free.Goals as goal

pub invariant_of-core : goal.invariant_of-core
invariant_of-core g c =
    fits_killed _ _ _ _ _ _ _ _ _ _ c.args.slot (ap (λ t. t.list) c.kill.ensures)
    c.drop_slot-2.ensures.map (ap (λ x. x.ways) c.drop_slot.ensures.cache) c.core.invariant
