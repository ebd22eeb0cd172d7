-- What the loop has passed is masked, and what it has not is as it was.
use Rattle.std.proofs.Common.{◌≡◌, ◌++◌, take, drop}
use Rattle.keyed_mac.specs.Hmac.{block_with_pad as masked_of}
use Rattle.keyed_mac.proofs.pads.masked.Given as goal

abbrev pub invariant-loop-byte : goal.invariant-loop-byte
invariant-loop-byte l =
    l.byte-items ≡ masked_of l.pad (take l.byte-index l.block) ++ drop l.byte-index l.block
