-- The bytes of the list come first in the chunk.
use Rattle.std.proofs.Common.{◌≡◌, length, min, take, ap, ◌∙◌}
use Rattle.line_ram.specs.Bytes.{ram_with_bytes}
use Rattle.xom_model.specs.Event.{chunk_size}
use Rattle.xom_model.specs.declared.outcome.Turn.TheVariants.{Write}
use Rattle.kernels.proofs.Puts.{put_front}
use Rattle.kernels.proofs.script_kernel.write.Goals as goal

pub returns : goal.returns
returns c =
    let bytes = c.args.bytes.now in
    let count : c.min-length.result ≡ min (length bytes) chunk_size = cc in
    let put : c.put.new.self ≡ ram_with_bytes c.args.chunk.now 0 (take (min (length bytes) chunk_size)
    bytes) = cc in
    record {
      turn = ap (Write c.args.address) count;
      bytes = ap (take (min (min (length bytes) chunk_size) chunk_size)) put
          ∙ put_front c.args.chunk.now bytes;
    }
