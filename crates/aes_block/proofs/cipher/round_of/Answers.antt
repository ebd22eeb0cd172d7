-- Four columns make the state after a round.
use Rattle.std.proofs.Common.{arith}
use Rattle.aes_block.proofs.Rounds.{round_made}
use Rattle.aes_block.proofs.cipher.round_of.Goals as goal

pub returns : goal.returns
returns c =
    round_made c.args.words.now c.args.state c.args.round c.mixed_column.result
    c.mixed_column-2.result c.mixed_column-3.result c.mixed_column-4.result
    (omega arith) c.mixed_column.ensures c.mixed_column-2.ensures c.mixed_column-3.ensures
    c.mixed_column-4.ensures
