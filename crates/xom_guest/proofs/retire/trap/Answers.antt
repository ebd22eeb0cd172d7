-- The session is paused, and its keys are those of the next epoch.
use Rattle.std.proofs.Common.{sym, ◌∙◌, ap, subst}
use Rattle.session_table.specs.Sessions.{session_after_pause}
use Rattle.xom_model.specs.Holds.{IsRunning}
use Rattle.xom_guest.proofs.Fitting.{fits_paused}
use Rattle.xom_guest.proofs.retire.trap.Goals as goal

pub invariant_of-core : goal.invariant_of-core
invariant_of-core g c =
    fits_paused _ _ _ _ _ _ _ _ c.args.slot _ (subst (λ w. IsRunning w.core c.args.slot)
    (sym c.core.view_is) c.requires.runs)
    (c.paused-session.ensures ∙ ap session_after_pause c.session.ensures) c.renew.ensures.keys
    c.renew.ensures.others c.core.invariant
