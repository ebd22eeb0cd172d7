-- What the crate decodes is what the word writes.
use Rattle.std.proofs.Common.{sym, length}
use Rattle.hex.specs.Hex.{decode_sized}
use Rattle.text_lines.proofs.HexLaws.{decoded_is, fills_by}
use Rattle.text_lines.proofs.hex_words.hex_fills.Goals as goal

pub returns : goal.returns
returns c =
    rw (sym (decoded_is (length c.args.room.now) c.args.word.now))
    (fills_by (decode_sized c.args.word.now (length c.args.room.now)) c.decode_to_slice.result
    c.decode_to_slice.new.out c.is_ok.result c.decode_to_slice.ensures.value
    c.is_ok.ensures.value)
