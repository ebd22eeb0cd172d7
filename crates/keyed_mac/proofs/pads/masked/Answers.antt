-- One more byte is masked.
use Rattle.std.proofs.Common.{arith, get_or, sym}
use Rattle.std.specs.Int.Bits.{bit_xor}
use Rattle.std.proofs.lemmas.Grind.{get_or_default_zero}
use Rattle.std.proofs.lemmas.List.Edits.{map_over_more}
use Rattle.keyed_mac.proofs.pads.masked.Goals as goal

pub loop-byte-preserved : goal.loop-byte-preserved
loop-byte-preserved c =
    let items = c.loop-byte.byte-items in
    let i = c.loop-byte.byte-index in
    map_over_more (λ byte. bit_xor byte c.args.pad) c.args.block.now items i (get_or items i 0)
    (omega arith) c.loop-byte.invariant
    (sym (get_or_default_zero items i (get_or items i 0) omega arith))
