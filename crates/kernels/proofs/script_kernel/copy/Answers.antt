-- The bytes that are shown come first in the chunk.
use Rattle.std.proofs.Common.{◌≡◌, min, take, ap}
use Rattle.xom_model.specs.Event.{chunk_size}
use Rattle.xom_model.specs.declared.outcome.Turn.TheVariants.{Write}
use Rattle.kernels.specs.Turns.{bytes_shown}
use Rattle.kernels.proofs.Puts.{copied}
use Rattle.kernels.proofs.script_kernel.copy.Goals as goal

pub returns : goal.returns
returns c =
    let count : c.min-length.result ≡ min c.args.length chunk_size = cc in
    let seen = bytes_shown c.args.view.now c.args.from (min c.args.length chunk_size) in
    let front : take (min c.args.length chunk_size) c.copy_shown.new.chunk ≡ seen = cc in
    record {
      turn = ap (Write c.args.to) count;
      bytes = copied c.copy_shown.new.chunk seen
          c.args.length front;
    }
