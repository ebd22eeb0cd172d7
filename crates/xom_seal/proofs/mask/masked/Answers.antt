-- One more byte is masked.
use Rattle.std.proofs.Common.{arith}
use Rattle.xom_seal.proofs.Masks.{masked_more}
use Rattle.xom_seal.proofs.mask.masked.Goals as goal

pub loop-i-preserved : goal.loop-i-preserved
loop-i-preserved g c =
    masked_more c.args.bytes.now c.args.pad.now c.loop-i.masked c.loop-i.i (omega arith)
    (omega arith) c.loop-i.invariant
