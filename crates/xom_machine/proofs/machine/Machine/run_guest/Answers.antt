-- The guest that is found runs, and its event raises one epoch at most.
use Rattle.std.proofs.Common.{◌≡◌, Some, sym, ◌∙◌, refl, subst}
use Rattle.session_table.specs.Sessions.{running_in}
use Rattle.xom_model.proofs.Turns.{running-runs}
use Rattle.xom_machine.proofs.Events.{ran-InTime}
use Rattle.xom_machine.proofs.machine.Machine.run_guest.Goals as goal

pub guest_event-left-requires-clause-runs : goal.guest_event-left-requires-clause-runs
guest_event-left-requires-clause-runs g c =
    running-runs c.self.inside.core.core c.in-Some.slot
    (subst (λ i. running_in i.core.core.sessions ≡ Some c.in-Some.slot) c.self-inside.view_is
    (sym c.running.ensures.value ∙ c.in-Some.is))

pub invariant_of-self : goal.invariant_of-self
invariant_of-self g c =
    ran-InTime g.V.VersionStore.versions _ _ c.args.interrupt c.in-Some.slot
    (subst (λ i. running_in i.core.core.sessions ≡ Some c.in-Some.slot) c.self-inside.view_is
    (sym c.running.ensures.value ∙ c.in-Some.is))
    c.guest_event-left.ensures.core refl c.self.invariant (rw (← c.self.view_is) at c.requires.few)

pub invariant_of-self-in-Some-left : goal.invariant_of-self-in-Some-left
invariant_of-self-in-Some-left g c =
    ran-InTime g.V.VersionStore.versions _ _ c.args.interrupt c.in-Some.slot
    (subst (λ i. running_in i.core.core.sessions ≡ Some c.in-Some.slot) c.self-inside.view_is
    (sym c.running.ensures.value ∙ c.in-Some.is))
    c.guest_event-left.ensures.core refl c.self.invariant (rw (← c.self.view_is) at c.requires.few)
