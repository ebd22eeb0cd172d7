-- The slot's line takes what is stored, and what is left fits.
use Rattle.std.proofs.Common.{sym, ◌∙◌, ap, subst}
use Rattle.xom_model.specs.Guest.{session_after_step}
use Rattle.xom_model.specs.Holds.{IsRunning}
use Rattle.xom_guest.specs.Places.{StoresIn}
use Rattle.xom_guest.proofs.Fitting.{can_store, fits_retired}
use Rattle.xom_guest.proofs.retire.retire.Goals as goal

pub store-requires : goal.store-requires
store-requires g c =
    can_store _ c.args.slot c.args.place _ c.requires.some c.core.invariant.places
    (subst (λ w. StoresIn w.core.ways c.args.slot c.args.place c.args.step.now.stored)
    (sym c.core.view_is) c.requires.line)

pub invariant_of-core : goal.invariant_of-core
invariant_of-core g c =
    fits_retired _ _ _ _ _ _ _ _ _ c.args.slot c.args.place _ c.args.effect.now c.args.step.now
    c.requires.some
    (subst (λ w. IsRunning w.core c.args.slot) (sym c.core.view_is) c.requires.runs)
    (c.moved.ensures ∙ ap (λ s. session_after_step s c.args.effect.now c.args.step.now)
    c.session.ensures)
    (subst (λ w. StoresIn w.core.ways c.args.slot c.args.place c.args.step.now.stored)
    (sym c.core.view_is) c.requires.line)
    (ap (λ w. w.ways) c.store.ensures) c.give_out.ensures.size c.core.invariant
