-- The bytes with zeros behind them are written as all of memory is.
use Rattle.std.proofs.Common.{ap, ◌∙◌}
use Rattle.mips_plain.specs.Memory.{private_size, low_bytes, written_at}
use Rattle.mips_plain.proofs.Filled.{stored_as}
use Rattle.mips_plain.proofs.memory.Memory.store.Goals as goal

pub returns : goal.returns
returns c =
    stored_as private_size c.args.address c.args.count c.args.value _ c.self.inside.bytes.items
    c.reach.new.bytes.items _ c.self.inside.bytes.ok.0 c.reach.ensures.items
    c.put.ensures.items
    c.requires.word c.requires.room
    ∙ ap (λ all. written_at all c.args.address (low_bytes c.args.count c.args.value)) c.self.view_is
