-- RAM and stores fit afterwards, by the law of versions.
use Rattle.std.proofs.Common.{sym, subst}
use Rattle.xom_model.specs.Holds.{IsLive}
use Rattle.xom_private.proofs.Raised.{fits_raised}
use Rattle.xom_private.proofs.parts.Core.raise.Goals as goal

pub invariant_of-self : goal.invariant_of-self
invariant_of-self g c =
    fits_raised g.V.VersionStore.versions g.met.V.VersionStore.law _ _ _ _ _ _ _ _ _ c.args.slot
    c.args.line
    (subst (λ w. IsLive w.core c.args.slot) (sym c.self.view_is) c.requires.live) c.requires.line
    c.raise.ensures.ram c.raise.ensures.stores c.self.invariant
