-- The record is the one at the start, of which all that is kept holds.
use Rattle.std.proofs.Common.{◌<◌, ◌^◌, arith, option_map}
use Rattle.power_on.proofs.Holding.{started_holds}
use Rattle.power_on.proofs.start.power_on.Goals as goal

pub returns-clause-holds : goal.returns-clause-holds
returns-clause-holds g c =
    let low : c.args.boot < 2 ^ 64 = omega arith in
    started_holds g.V.VersionStore.versions g.V.VersionStore.Stands c.args.machine.now c.args.boot
    c.args.frames (option_map (λ image. image.now) c.args.kernel) c.args.guests.now low
    c.loaded.result c.loaded.ensures
