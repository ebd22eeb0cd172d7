-- One more byte is shown and put.
use Rattle.std.proofs.Common.{◌+◌, refl}
use Rattle.std.proofs.lemmas.List.FromFn.{length-map-range_with_len, map-range_with_len_more}
use Rattle.kernels.specs.Turns.{byte_shown, bytes_shown}
use Rattle.kernels.proofs.Puts.{put_more}
use Rattle.kernels.proofs.view_bytes.copy_shown.Goals as goal

pub loop-i-preserved : goal.loop-i-preserved
loop-i-preserved c =
    let seen = bytes_shown c.args.view.now c.args.from c.loop-i.i in
    let long = length-map-range_with_len (byte_shown c.args.view.now) c.args.from c.loop-i.i in
    let put = put_more c.loop-i.chunk seen c.loop-i.i c.byte_shown.result c.loop-i.invariant long in
    let more = map-range_with_len_more (byte_shown c.args.view.now) c.args.from c.loop-i.i
    (c.args.from + c.loop-i.i) refl in
    cc
