-- The guest stays who it was.
use Rattle.std.proofs.Common.{◌≡◌, sym, ◌∙◌, ap, subst}
use Rattle.session_table.specs.declared.session.SlotState.TheVariants as state
use Rattle.session_table.specs.Sessions.{session_after_enter}
use Rattle.xom_model.specs.State.{session_of}
use Rattle.xom_ops.proofs.Moving.{fits_entered}
use Rattle.xom_ops.proofs.guests.start.Goals as goal

pub invariant_of-core : goal.invariant_of-core
invariant_of-core g c =
    fits_entered _ _ _ _ _ _ _ c.args.slot _ c.core.invariant (c.entered.ensures
    ∙ ap session_after_enter c.session.ensures)
    (subst (λ w. (session_of w.core c.args.slot).state ≡ state.Fresh) (sym c.core.view_is)
    c.requires.fresh)
