-- The parts of the register at each place.
use Rattle.std.proofs.lemmas.Grind.{common_steps}
use Rattle.std.proofs.Common.{arith, ◌≡◌}
use Rattle.mips_effect.proofs.loads.left.Goals as goal

pub returns-in-1 : goal.returns-in-1
returns-in-1 c =
    let place : c.args.place ≡ 1 = omega arith in rw place (grind (arith, common_steps))

pub returns-in-2 : goal.returns-in-2
returns-in-2 c =
    let place : c.args.place ≡ 2 = omega arith in rw place (grind (arith, common_steps))

pub returns-in_default : goal.returns-in_default
returns-in_default c =
    let place : c.args.place ≡ 3 = omega arith in rw place (grind (arith, common_steps))
