-- No cached line is of the page.
use Rattle.std.proofs.Common.{sym, subst}
use Rattle.line_cache.specs.Lines.{HasNoLine}
use Rattle.xom_ops.proofs.Unmapping.{fits_unmapped}
use Rattle.xom_ops.proofs.unmap.forget_frame.Goals as goal

pub invariant_of-core : goal.invariant_of-core
invariant_of-core g c =
    fits_unmapped _ _ _ _ _ _ _ _ c.args.slot c.args.page c.in-Ok.ensures.frames
    (subst (λ w. HasNoLine w.core.ways c.args.slot c.args.page) (sym c.core.view_is)
    c.requires.flushed)
    c.core.invariant
