-- The parts of the register at each place.
use Rattle.std.proofs.lemmas.Grind.{common_steps}
use Rattle.std.proofs.Common.{arith, ◌≡◌}
use Rattle.mips_effect.proofs.loads.right.Goals as goal

pub returns-in-0 : goal.returns-in-0
returns-in-0 c =
    let place : c.args.place ≡ 0 = omega arith in rw place (grind (arith, common_steps))

pub returns-in-1 : goal.returns-in-1
returns-in-1 c =
    let place : c.args.place ≡ 1 = omega arith in rw place (grind (arith, common_steps))

pub returns-in-2 : goal.returns-in-2
returns-in-2 c =
    let place : c.args.place ≡ 2 = omega arith in rw place (grind (arith, common_steps))
