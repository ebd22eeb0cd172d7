-- Each byte adds its two digits.
use Rattle.std.proofs.Common.{◌<◌, length, get_or, append-nil, sym, refl, arith}
use Rattle.hex.specs.Hex.{encode_with}
use Rattle.text_pieces.proofs.HexTexts.{hex_more}
use Rattle.text_pieces.proofs.push_hex.Goals as goal

pub loop-byte-init : goal.loop-byte-init
unfolding encode_with
loop-byte-init c = sym (append-nil c.args.text.now.items)

pub loop-byte-preserved : goal.loop-byte-preserved
loop-byte-preserved c =
    let within : c.loop-byte.byte-index < length c.args.bytes.now = omega arith in
    let more = hex_more c.args.text.now.items c.args.bytes.now c.loop-byte.byte-index
    (get_or c.args.bytes.now c.loop-byte.byte-index 0) within refl in
    cc (c.in_ok-push_bytes.ensures.ok)
