-- What there is of the line stands in front of zeros.
use Rattle.std.proofs.Common.{◌≡◌, ◌*◌, ◌∙◌, ap, arith, drop, length, min, take}
use Rattle.std.proofs.lemmas.List.{length-drop, take_rest}
use Rattle.image_sealer.proofs.Opening.{filled_line}
use Rattle.image_sealer.proofs.sealing.plain_line.Goals as goal

pub returns : goal.returns
returns c =
    let size : c.min-length.result ≡ min (length (drop (32 * c.args.line) c.args.bytes.now)) 32 =
    omega (arith, length-drop (32 * c.args.line) c.args.bytes.now, c.min-length.ensures) in
    filled_line (drop (32 * c.args.line) c.args.bytes.now) c.min-length.result
    c.copy_from_slice.new.self size
    (c.copy_from_slice.ensures.after ∙ ap (take c.min-length.result)
    (take_rest c.args.bytes.now (32 * c.args.line)))
