-- Four columns make the state after the last round.
use Rattle.std.proofs.Common.{arith}
use Rattle.aes_block.proofs.Rounds.{last_round_made}
use Rattle.aes_block.proofs.cipher.last_round.Goals as goal

pub returns : goal.returns
returns c =
    last_round_made c.args.words.now c.args.state c.shifted_column.result c.shifted_column-2.result
    c.shifted_column-3.result c.shifted_column-4.result
    (omega arith) c.shifted_column.ensures c.shifted_column-2.ensures c.shifted_column-3.ensures
    c.shifted_column-4.ensures
