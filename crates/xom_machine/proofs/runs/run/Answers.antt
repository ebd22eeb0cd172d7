-- What a run has come to.
use Rattle.xom_machine.proofs.GoingOn.{run-KeepsHolding, told_so_far, told_whole}
use Rattle.xom_machine.proofs.runs.run.Goals as goal

pub returns-clause-holds : goal.returns-clause-holds
returns-clause-holds g c =
    let far = c.make_events-end.ensures.so_far in
    run-KeepsHolding c.args.schedule.now g.V.VersionStore.versions g.V.VersionStore.Stands
    g.met.V.VersionStore.law c.args.machine.now.state far.events
    c.make_events-end.new.machine.state far.made

pub returns-clause-told : goal.returns-clause-told
returns-clause-told g c =
    let ran = c.make_events-end.ensures in
    told_so_far g.K.Kernel.told c.args.schedule.now g.V.VersionStore.versions c.args.machine.now
    c.args.kernel.now c.make_events-end.new.machine.state.events ran.guests
    c.make_events-end.new.machine ran.kernel ran.so_far

pub returns-clause-whole : goal.returns-clause-whole
returns-clause-whole g c =
    told_whole g.K.Kernel.told c.args.schedule.now g.V.VersionStore.versions c.args.budget
    c.args.machine.now c.args.kernel.now c.make_events-end.result c.make_events-end.new.machine
    c.make_events-end.ensures
