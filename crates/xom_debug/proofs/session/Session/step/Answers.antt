-- One more event was made, and the run is over or all events were made.
use Rattle.std.proofs.Common.{◌≡◌, arith, subst, sym, ◌∙◌}
use Rattle.xom_debug.specs.Sessions.{Advances}
use Rattle.xom_debug.specs.declared.command.Command.TheVariants as command_kinds
use Rattle.xom_debug.proofs.Going.{gone-more, gone-none, stepped_all, stepped_to_end}
use Rattle.xom_debug.proofs.session.Session.step.Goals as goal

pub loop-event-init : goal.loop-event-init
loop-event-init g c =
    gone-none g.K.Kernel.told c.args.schedule.now g.V.VersionStore.versions c.args.budget
    c.args.self.now c.args.machine.now c.args.kernel.now c.requires.guests

pub returns-then-is_over : goal.returns-then-is_over
returns-then-is_over g c =
    stepped_to_end g.K.Kernel.told c.args.schedule.now g.V.VersionStore.versions c.args.budget
    c.args.self.now c.args.machine.now c.args.kernel.now c.loop-event._event c.args.count
    c.loop-event.self c.loop-event.machine c.loop-event.kernel
    c.loop-event.invariant (omega (arith, c.loop-event-test.true)) (sym c.is_over.ensures.value
    ∙ c.if-is_over.true)

pub loop-event-preserved : goal.loop-event-preserved
loop-event-preserved g c =
    gone-more g.K.Kernel.told c.args.schedule.now g.V.VersionStore.versions c.args.budget
    c.args.self.now c.args.machine.now c.args.kernel.now c.loop-event._event c.loop-event.self
    c.loop-event.machine c.loop-event.kernel
    c.in_ok-make_next.field-0 c.make_next.new.self c.make_next.new.machine c.make_next.new.kernel
    c.loop-event.invariant (sym c.is_over.ensures.value ∙ c.if-is_over.false)
    (c.is_over.ensures.going c.if-is_over.false).1 c.in_ok-make_next.ensures

pub returns : goal.returns
returns g c =
    let all : c.loop-event._event ≡ c.args.count =
    omega (arith, c.loop-event-test.false, c.loop-event.auto._event-end) in
    subst (λ n. Advances g.K.Kernel.told c.args.schedule.now g.V.VersionStore.versions c.args.budget
    (command_kinds.Step n) c.args.self.now c.args.machine.now c.args.kernel.now c.loop-event.self
    c.loop-event.machine c.loop-event.kernel) all
    (stepped_all g.K.Kernel.told c.args.schedule.now g.V.VersionStore.versions c.args.budget
    c.args.self.now c.args.machine.now c.args.kernel.now c.loop-event._event c.loop-event.self
    c.loop-event.machine c.loop-event.kernel c.loop-event.invariant)
