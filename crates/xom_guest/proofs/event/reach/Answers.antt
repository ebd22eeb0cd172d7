-- An access comes to what the model's walk tells, in a cache that has all its places.
use Rattle.std.proofs.Common.{◌≡◌, length, subst}
use Rattle.xom_guest.proofs.Reaching.{made_comes}
use Rattle.xom_guest.proofs.event.reach.Goals as goal

pub returns-clause-came : goal.returns-clause-came
returns-clause-came g c =
    made_comes g.V.VersionStore.versions _ _ c.args.slot c.args.line
    _ (subst (λ w. length w.core.ways ≡ 128) c.core.view_is c.core.invariant.places)
    c.requires.runs c.line_for.ensures.core c.line_for.ensures.reach
