-- Both laws are proved where their definitions unfold.
use Rattle.xom_seal.proofs.HeadLaws.{line_heads_tell, register_heads_tell}
use Rattle.xom_seal.proofs.law.heads_tell_their_names.Goals as goal

pub returns : goal.returns
returns c = record { lines = line_heads_tell; registers = register_heads_tell }
