-- The block is the text, written over the front of zeros.
use Rattle.xom_base.specs.Padded.{IsPadded-written}
use Rattle.xom_base.proofs.payload.Payload.new.Goals as goal

pub invariant_of-result : goal.invariant_of-result
invariant_of-result g c =
    rw c.copy_from_slice.ensures.after (IsPadded-written g.row.N c.args.bytes.now c.requires.room)
