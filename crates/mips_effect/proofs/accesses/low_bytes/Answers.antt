-- The low bytes at each count.
use Rattle.std.proofs.lemmas.Grind.{common_steps}
use Rattle.std.proofs.Common.{arith, ◌≡◌, ◌*◌}
use Rattle.mips_effect.proofs.accesses.low_bytes.Goals as goal

pub returns-in-1 : goal.returns-in-1
returns-in-1 c =
    let bits : 8 * c.args.count ≡ 8 = omega arith in rw bits (grind (arith, common_steps))

pub returns-in-2 : goal.returns-in-2
returns-in-2 c =
    let bits : 8 * c.args.count ≡ 16 = omega arith in rw bits (grind (arith, common_steps))

pub returns-in-3 : goal.returns-in-3
returns-in-3 c =
    let bits : 8 * c.args.count ≡ 24 = omega arith in rw bits (grind (arith, common_steps))
