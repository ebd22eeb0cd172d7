-- One more event was made.
use Rattle.std.proofs.Common.{sym, ◌∙◌}
use Rattle.xom_machine.proofs.GoingOn.{OnOk-at, goes_on, starts}
use Rattle.xom_machine.proofs.runs.make_events.Goals as goal

pub loop-event-init : goal.loop-event-init
loop-event-init g c =
    starts g.K.Kernel.told c.args.schedule.now g.V.VersionStore.versions c.args.machine.now
    c.args.kernel.now c.requires.first

pub loop-event-preserved : goal.loop-event-preserved
loop-event-preserved g c =
    goes_on g.K.Kernel.told c.args.schedule.now g.V.VersionStore.versions c.args.machine.now
    c.args.kernel.now c.loop-event._event c.loop-event.guests c.loop-event.machine
    c.loop-event.kernel
    c.make_next.new.guests c.make_next.new.machine c.make_next.new.kernel
    (sym c.is_halted.ensures.halted ∙ c.if-is_halted.false) c.loop-event.invariant
    (OnOk-at c.make_next.result _ (sym c.is_err.ensures.value ∙ c.if-is_err.false)
    c.make_next.ensures.ok)
