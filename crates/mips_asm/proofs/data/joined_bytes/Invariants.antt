-- What is written so far is what the numbers so far give.
use Rattle.std.proofs.Common.{◌≡◌, Some, take}
use Rattle.asm_syntax.specs.Forms.{map_some}
use Rattle.mips_asm.specs.Encoding.{byte_value}
use Rattle.mips_asm.proofs.data.joined_bytes.Given as goal

abbrev pub invariant-loop-number : goal.invariant-loop-number
invariant-loop-number l = map_some byte_value (take l.number-index l.numbers) ≡ Some l.bytes.items
