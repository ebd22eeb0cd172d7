-- Each clause is a law of the model on the event that was made.
use Rattle.std.proofs.Common.{◌<◌, ◌^◌, ◌∙◌, ap, subst, sym, arith}
use Rattle.xom_model.specs.Counts.{AreCounted}
use Rattle.xom_model.specs.Event.{on}
use Rattle.xom_model.specs.State.{Record}
use Rattle.xom_model.proofs.OthersKept.{events_leave_others}
use Rattle.xom_model.proofs.QuietEvents.{events_trap_quietly}
use Rattle.xom_seen.specs.NoWayOut.{GivesNoMoreAway}
use Rattle.xom_seen.proofs.Next.{no_way_out}
use Rattle.xom_machine.specs.Kept.{AddsNoPadTwice, FaultsAreAlone, KeepsHolding, LeavesOthers, LeavesRefused, TrapsAreQuiet}
use Rattle.xom_machine.proofs.Events.{event-Faults, event-KeepsHolding, event-LeavesRefused, on-events}
use Rattle.xom_machine.proofs.machine.Machine.step.Goals as goal

pub returns-clause-events : goal.returns-clause-events
returns-clause-events g c =
    ap (λ (r : Record). r.events) c.make_event-outcome.ensures.record
    ∙ on-events g.V.VersionStore.versions c.args.self.now.state c.args.event c.args.chunk.now
    c.requires.fits

pub returns-clause-holds : goal.returns-clause-holds
returns-clause-holds g c =
    let v = g.V.VersionStore.versions in
    let Stands = g.V.VersionStore.Stands in
    subst (KeepsHolding v Stands c.args.self.now.state) (sym c.make_event-outcome.ensures.record)
    (event-KeepsHolding v Stands g.met.V.VersionStore.law c.args.self.now.state c.args.event
    c.args.chunk.now c.requires.fits)

pub returns-clause-pads : goal.returns-clause-pads
returns-clause-pads g c =
    let v = g.V.VersionStore.versions in
    let Stands = g.V.VersionStore.Stands in
    subst (AddsNoPadTwice Stands c.args.self.now.state) (sym c.make_event-outcome.ensures.record)
    (λ owners are room honest holds. (event-KeepsHolding v Stands g.met.V.VersionStore.law
    c.args.self.now.state c.args.event c.args.chunk.now c.requires.fits owners are room honest
    holds).once)

pub returns-clause-seen : goal.returns-clause-seen
returns-clause-seen g c =
    let v = g.V.VersionStore.versions in
    let raised = g.V.VersionStore.raised_ram in
    let r = c.args.self.now.state in
    let e = c.args.event in
    let chunk = c.args.chunk.now in
    let after = on v r e chunk in
    subst (λ what. GivesNoMoreAway v raised r e chunk c.make_event-outcome.new.self.state what)
    (sym c.make_event-outcome.ensures.outcome)
    (subst (λ (new : Record). GivesNoMoreAway v raised r e chunk new after.1)
    (sym c.make_event-outcome.ensures.record)
    (no_way_out v raised g.met.V.VersionStore.in_the_open r e chunk c.requires.fits
    c.events-before.ensures.settled))

pub returns-clause-faults : goal.returns-clause-faults
returns-clause-faults g c =
    let v = g.V.VersionStore.versions in
    let Stands = g.V.VersionStore.Stands in
    let r = c.args.self.now.state in
    let after = on v r c.args.event c.args.chunk.now in
    subst (λ what. FaultsAreAlone Stands r c.make_event-outcome.new.self.state what)
    (sym c.make_event-outcome.ensures.outcome)
    (subst (λ (new : Record). FaultsAreAlone Stands r new after.1)
    (sym c.make_event-outcome.ensures.record)
    (event-Faults v Stands g.met.V.VersionStore.law r c.args.event c.args.chunk.now))

pub returns-clause-refused : goal.returns-clause-refused
returns-clause-refused g c =
    subst (LeavesRefused c.args.self.now.state c.args.event)
    (sym c.make_event-outcome.ensures.record)
    (event-LeavesRefused g.V.VersionStore.versions c.args.self.now.state c.args.event
    c.args.chunk.now c.requires.fits)

pub returns-clause-traps : goal.returns-clause-traps
returns-clause-traps g c =
    let v = g.V.VersionStore.versions in
    let r = c.args.self.now.state in
    let e = c.args.event in
    let chunk = c.args.chunk.now in
    let after = on v r e chunk in
    subst (λ what. TrapsAreQuiet r e c.make_event-outcome.new.self.state what)
    (sym c.make_event-outcome.ensures.outcome)
    (subst (λ (new : Record). TrapsAreQuiet r e new after.1)
    (sym c.make_event-outcome.ensures.record)
    (λ why left quiet. events_trap_quietly v r e chunk why c.events-before.ensures.stops left
    quiet))

pub returns-clause-others : goal.returns-clause-others
returns-clause-others g c =
    let r = c.args.self.now.state in
    let counted = subst (AreCounted r.core) c.events-before.ensures.count
    c.events-before.ensures.counts in
    let few : r.events < 2 ^ 63 =
    omega (arith, c.events-before.ensures.count, c.events-before.ensures.few) in
    subst (LeavesOthers r c.args.event) (sym c.make_event-outcome.ensures.record)
    (λ slot some other. events_leave_others g.V.VersionStore.versions r c.args.event
    c.args.chunk.now few counted c.events-before.ensures.stops slot some other)
