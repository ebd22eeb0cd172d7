-- The frame fits.
use Rattle.std.proofs.Common.{◌≡◌, None, sym, subst}
use Rattle.line_ram.specs.Bytes.{HoldsFrame}
use Rattle.page_map.specs.Pages.{frame_of}
use Rattle.xom_model.specs.Holds.{IsLive}
use Rattle.xom_ops.proofs.Fitting.{fits_paged}
use Rattle.xom_ops.proofs.pages.give_frame.Goals as goal

pub invariant_of-core : goal.invariant_of-core
invariant_of-core g c =
    fits_paged _ _ _ _ _ _ _ _ c.args.slot c.args.page c.args.frame c.in-Ok.ensures.frames
    (subst (λ w. HoldsFrame w.core.ram c.args.frame) (sym c.core.view_is) c.requires.frame)
    (subst (λ w. IsLive w.core c.args.slot) (sym c.core.view_is) c.requires.live)
    (subst (λ w. frame_of w.core.pages c.args.slot c.args.page ≡ None) (sym c.core.view_is)
    c.requires.none)
    c.core.invariant
