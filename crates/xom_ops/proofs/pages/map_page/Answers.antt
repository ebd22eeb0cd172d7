-- The tests that both operations on pages have in common are made first.
use Rattle.std.proofs.Common.{Some, None, ◌∙◌, ap}
use Rattle.xom_ops.proofs.Tested.{map_parts}
use Rattle.xom_ops.proofs.pages.map_page.Goals as goal

pub returns-in-Some-clause-core : goal.returns-in-Some-clause-core
returns-in-Some-clause-core g c =
    ap (λ p. p.0)
    (map_parts g.V.VersionStore.versions c.args.core.now.core c.args.slot c.args.page c.args.frame
    (Some c.in-Some.status) c.in-Some.ensures.status)

pub returns-in-None-clause-core : goal.returns-in-None-clause-core
returns-in-None-clause-core g c =
    c.map_free.ensures.core
    ∙ ap (λ p. p.0) (map_parts g.V.VersionStore.versions c.args.core.now.core c.args.slot
    c.args.page c.args.frame None c.in-None.ensures.status)

pub returns-in-Some-clause-status : goal.returns-in-Some-clause-status
returns-in-Some-clause-status g c =
    ap (λ p. p.1)
    (map_parts g.V.VersionStore.versions c.args.core.now.core c.args.slot c.args.page c.args.frame
    (Some c.in-Some.status) c.in-Some.ensures.status)

pub returns-in-None-clause-status : goal.returns-in-None-clause-status
returns-in-None-clause-status g c =
    c.map_free.ensures.status
    ∙ ap (λ p. p.1) (map_parts g.V.VersionStore.versions c.args.core.now.core c.args.slot
    c.args.page c.args.frame None c.in-None.ensures.status)
