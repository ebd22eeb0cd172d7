-- The law, as the images of sources give it.
use Rattle.mips_asm.proofs.BytesLaws.{bytes_of_statements}
use Rattle.mips_asm.proofs.law.bytes_are_those_of_their_statements.Goals as goal

pub returns : goal.returns
returns c = bytes_of_statements
