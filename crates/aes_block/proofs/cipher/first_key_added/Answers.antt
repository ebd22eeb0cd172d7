-- Four columns make the state before the first round.
use Rattle.std.proofs.Common.{arith}
use Rattle.aes_block.proofs.Rounds.{first_made}
use Rattle.aes_block.proofs.cipher.first_key_added.Goals as goal

pub returns : goal.returns
returns c = first_made c.args.words.now c.args.start (omega arith)
