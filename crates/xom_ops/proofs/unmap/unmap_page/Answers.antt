-- The tests that both operations on pages have in common are made first.
use Rattle.std.proofs.Common.{Some, None, ◌∙◌, ap}
use Rattle.xom_ops.proofs.Unmapping.{unmap_parts}
use Rattle.xom_ops.proofs.unmap.unmap_page.Goals as goal

pub returns-in-Some-clause-core : goal.returns-in-Some-clause-core
returns-in-Some-clause-core g c =
    ap (λ p. p.0)
    (unmap_parts g.V.VersionStore.versions c.args.core.now.core c.args.slot c.args.page
    (Some c.in-Some.status) c.in-Some.ensures.status)

pub returns-in-None-clause-core : goal.returns-in-None-clause-core
returns-in-None-clause-core g c =
    c.unmap_known.ensures.core
    ∙ ap (λ p. p.0) (unmap_parts g.V.VersionStore.versions c.args.core.now.core c.args.slot
    c.args.page None c.in-None.ensures.status)

pub returns-in-Some-clause-status : goal.returns-in-Some-clause-status
returns-in-Some-clause-status g c =
    ap (λ p. p.1)
    (unmap_parts g.V.VersionStore.versions c.args.core.now.core c.args.slot c.args.page
    (Some c.in-Some.status) c.in-Some.ensures.status)

pub returns-in-None-clause-status : goal.returns-in-None-clause-status
returns-in-None-clause-status g c =
    c.unmap_known.ensures.status
    ∙ ap (λ p. p.1) (unmap_parts g.V.VersionStore.versions c.args.core.now.core c.args.slot
    c.args.page None c.in-None.ensures.status)
