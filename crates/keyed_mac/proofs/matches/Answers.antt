-- One more byte is looked at.
use Rattle.keyed_mac.proofs.Bits.{none_more}
use Rattle.keyed_mac.proofs.matches.Goals as goal

pub loop-i-preserved : goal.loop-i-preserved
loop-i-preserved c =
    none_more c.loop-i.difference c.loop-i.i c.args.a.now c.args.b.now c.loop-i.invariant
