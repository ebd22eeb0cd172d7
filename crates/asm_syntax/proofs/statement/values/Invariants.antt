-- What is read so far is what the operands so far give.
use Rattle.std.proofs.Common.{◌≡◌, Some, take}
use Rattle.asm_syntax.specs.Forms.{map_some}
use Rattle.asm_syntax.specs.Lines.{value_of_argument}
use Rattle.asm_syntax.proofs.statement.values.Given as goal

abbrev pub invariant-loop-argument : goal.invariant-loop-argument
invariant-loop-argument l = map_some value_of_argument (take l.argument-index l.arguments) ≡ Some l.values
