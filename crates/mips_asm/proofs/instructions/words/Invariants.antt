-- What is written so far are the words of the instructions so far.
use Rattle.std.proofs.Common.{take}
use Rattle.mips_asm.specs.Encoding.{AreWords}
use Rattle.mips_asm.proofs.instructions.words.Given as goal

abbrev pub invariant-loop-ins : goal.invariant-loop-ins
invariant-loop-ins l = AreWords (take l.ins-index l.instructions) l.bytes.items
