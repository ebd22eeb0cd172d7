-- Nothing is there yet that has to fit.
use Rattle.std.proofs.Common.{ap}
use Rattle.xom_private.proofs.Start.{fits_fresh}
use Rattle.xom_private.proofs.parts.Core.new.Goals as goal

pub invariant_of-result : goal.invariant_of-result
invariant_of-result g c =
    fits_fresh _ _ _ _ _ _ _ (ap (λ t. t.list) c.in_ok-new-4.ensures) c.in_ok-new-2.ensures
    (ap (λ w. w.ways) c.in_ok-new-3.ensures)
