-- Filling and settling is placing.
use Rattle.std.proofs.Common.{◌∙◌, ap}
use Rattle.xom_private.proofs.Filling.{settles}
use Rattle.xom_private.proofs.parts.Core.place.Goals as goal

pub returns-clause-core : goal.returns-clause-core
returns-clause-core g c =
    let fill = c.fill-place.ensures in
    c.settle.ensures.core ∙ ap (λ p. p.0) (settles g.V.VersionStore.versions c.args.self.now.core
    _ c.args.slot c.args.line _ c.args.bytes.now _ fill.core fill.place fill.victim fill.clean)

pub returns-clause-reach : goal.returns-clause-reach
returns-clause-reach g c =
    let fill = c.fill-place.ensures in
    c.settle.ensures.reach ∙ ap (λ p. p.1) (settles g.V.VersionStore.versions c.args.self.now.core
    _ c.args.slot c.args.line _ c.args.bytes.now _ fill.core fill.place fill.victim fill.clean)
