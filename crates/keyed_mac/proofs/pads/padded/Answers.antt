-- The block is the key, written over the front of zeros.
use Rattle.keyed_mac.proofs.Blocks.{block_key-short}
use Rattle.keyed_mac.proofs.pads.padded.Goals as goal

pub returns : goal.returns
returns c = rw c.copy_from_slice.ensures.after (block_key-short c.args.key.now c.requires)
