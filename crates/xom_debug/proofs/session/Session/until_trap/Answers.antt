-- One more event was made, and the run is over or a guest has left.
use Rattle.std.proofs.Common.{◌≡◌, ◌≤◌, ℕ, Bool, true, false, arith, refl, sym, ◌∙◌}
use Rattle.std.proofs.lemmas.Bool.Decides.{nat_tests}
use Rattle.std.specs.Prelude.{◌||◌, nat_le}
use Rattle.xom_debug.proofs.Going.{stayed-more, stayed-none, trapped, trapped_at_end}
use Rattle.xom_debug.proofs.session.Session.until_trap.Goals as goal

-- a run of that many events is over
at_budget : (halted : Bool) (budget events : ℕ) → budget ≤ events
    → (halted || nat_le budget events) ≡ true
at_budget true budget events reached = refl
at_budget false budget events reached = grind (arith, nat_tests)

pub loop-event-init : goal.loop-event-init
loop-event-init g c =
    stayed-none g.K.Kernel.told c.args.schedule.now g.V.VersionStore.versions c.args.budget
    c.args.self.now c.args.machine.now c.args.kernel.now c.requires.guests

pub returns-then-is_over : goal.returns-then-is_over
returns-then-is_over g c =
    trapped_at_end g.K.Kernel.told c.args.schedule.now g.V.VersionStore.versions c.args.budget
    c.args.self.now c.args.machine.now c.args.kernel.now c.loop-event._event c.loop-event.self
    c.loop-event.machine c.loop-event.kernel
    c.loop-event.invariant (sym c.is_over.ensures.value ∙ c.if-is_over.true)

pub returns-then-has_left : goal.returns-then-has_left
returns-then-has_left g c =
    trapped g.K.Kernel.told c.args.schedule.now g.V.VersionStore.versions c.args.budget
    c.args.self.now c.args.machine.now c.args.kernel.now c.loop-event._event c.loop-event.self
    c.loop-event.machine c.loop-event.kernel
    c.in_ok-event.event c.make_next.new.self c.make_next.new.machine c.make_next.new.kernel
    c.loop-event.invariant (sym c.is_over.ensures.value ∙ c.if-is_over.false)
    (c.is_over.ensures.going c.if-is_over.false).1 c.in_ok-event.ensures
    (sym c.has_left.ensures ∙ c.if-has_left.true)

pub loop-event-preserved : goal.loop-event-preserved
loop-event-preserved g c =
    stayed-more g.K.Kernel.told c.args.schedule.now g.V.VersionStore.versions c.args.budget
    c.args.self.now c.args.machine.now c.args.kernel.now c.loop-event._event c.loop-event.self
    c.loop-event.machine c.loop-event.kernel
    c.in_ok-event.event c.make_next.new.self c.make_next.new.machine c.make_next.new.kernel
    c.loop-event.invariant (sym c.is_over.ensures.value ∙ c.if-is_over.false)
    (c.is_over.ensures.going c.if-is_over.false).1 c.in_ok-event.ensures
    (sym c.has_left.ensures ∙ c.if-has_left.false)

pub returns : goal.returns
returns g c =
    let all : c.loop-event._event ≡ c.args.budget =
    omega (arith, c.loop-event-test.false, c.loop-event.auto._event-end) in
    let gone = c.loop-event.invariant.gone in
    trapped_at_end g.K.Kernel.told c.args.schedule.now g.V.VersionStore.versions c.args.budget
    c.args.self.now c.args.machine.now c.args.kernel.now c.loop-event._event c.loop-event.self
    c.loop-event.machine c.loop-event.kernel
    c.loop-event.invariant (at_budget c.loop-event.machine.state.halted c.args.budget
    c.loop-event.machine.state.events (omega (arith, all, gone.all, gone.goes.counted)))
