-- At power-on.
use Rattle.std.proofs.Common.{◌*◌, refl, replicate, subst, sym, arith}
use Rattle.xom_base.specs.Frames.{frame_size}
use Rattle.xom_model.specs.Holds.{Holds}
use Rattle.xom_model.specs.State.{power_on}
use Rattle.xom_model.proofs.StartKept.{start_holds}
use Rattle.xom_machine.proofs.Events.{alike-InTime, start-InTime}
use Rattle.xom_machine.proofs.machine.Machine.new.Goals as goal

pub invariant_of-result : goal.invariant_of-result
invariant_of-result g c =
    let ram = replicate (c.args.frames * frame_size) 0 in
    let v = g.V.VersionStore.versions in
    alike-InTime (power_on v c.args.machine.now c.args.boot ram c.args.null_entry)
    _ c.in_ok-new.ensures.core refl refl
    (start-InTime v c.args.machine.now c.args.boot ram c.args.null_entry)

pub returns-clause-holds : goal.returns-clause-holds
returns-clause-holds g c owners =
    subst (Holds g.V.VersionStore.Stands owners) (sym c.in_ok-new.ensures.core)
    (start_holds g.V.VersionStore.versions g.V.VersionStore.Stands owners c.args.machine.now
    c.args.boot (replicate (c.args.frames * frame_size) 0) (omega (arith, c.ranges.boot.fits)))
