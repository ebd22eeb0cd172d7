-- The kinds become fewer.
use Rattle.std.proofs.Common.{length}
use Rattle.mips_asm.proofs.instructions.+add_operands.Given as goal

abbrev pub decreases-add_operands : goal.decreases-add_operands
decreases-add_operands l = length l.shape.now
