-- The guest stays who it was.
use Rattle.std.proofs.Common.{sym, ◌∙◌, ap, subst}
use Rattle.session_table.specs.Sessions.{session_after_resume}
use Rattle.xom_model.specs.Holds.{IsLive}
use Rattle.xom_ops.proofs.Moving.{fits_resumed}
use Rattle.xom_ops.proofs.guests.run.Goals as goal

pub invariant_of-core : goal.invariant_of-core
invariant_of-core g c =
    fits_resumed _ _ _ _ _ _ _ c.args.slot _ c.core.invariant (c.resumed.ensures
    ∙ ap session_after_resume c.session.ensures)
    (subst (λ w. IsLive w.core c.args.slot) (sym c.core.view_is) c.requires.live)
