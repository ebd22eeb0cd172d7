-- The flush came to its end, or it stopped the slot.
use Rattle.std.proofs.Common.{◌∙◌, ap, sym}
use Rattle.xom_ops.proofs.Unmapping.{unmapped-flushed, unmapped-stopped}
use Rattle.xom_ops.specs.Unmapping.{without_frame}
use Rattle.xom_ops.proofs.unmap.take_frame.Goals as goal

pub returns-in-Ok-clause-core : goal.returns-in-Ok-clause-core
returns-in-Ok-clause-core g c =
    c.forget_frame.ensures.core ∙ ap (λ k. without_frame k c.args.slot c.args.page)
    c.in-Ok.ensures.core
    ∙ ap (λ p. p.0) (sym (unmapped-flushed g.V.VersionStore.versions c.args.slot c.args.page
    _ c.in-Ok.ensures.rule))

pub returns-in-Ok-clause-status : goal.returns-in-Ok-clause-status
returns-in-Ok-clause-status g c =
    ap (λ p. p.1)
    (sym (unmapped-flushed g.V.VersionStore.versions c.args.slot c.args.page
    _ c.in-Ok.ensures.rule))

pub returns-in-Err-clause-core : goal.returns-in-Err-clause-core
returns-in-Err-clause-core g c =
    c.in-Err.ensures.core
    ∙ ap (λ p. p.0) (sym (unmapped-stopped g.V.VersionStore.versions c.args.slot c.args.page
    _ _ c.in-Err.ensures.rule))

pub returns-in-Err-clause-status : goal.returns-in-Err-clause-status
returns-in-Err-clause-status g c =
    ap (λ p. p.1)
    (sym (unmapped-stopped g.V.VersionStore.versions c.args.slot c.args.page
    _ _ c.in-Err.ensures.rule))
