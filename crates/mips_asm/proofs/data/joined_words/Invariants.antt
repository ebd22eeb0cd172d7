-- What is written so far is what the values so far give.
use Rattle.std.proofs.Common.{◌≡◌, Some, take}
use Rattle.mips_asm.specs.Encoding.{join_some, word_value}
use Rattle.mips_asm.specs.LabelMaps.{place_in}
use Rattle.mips_asm.proofs.data.joined_words.Given as goal

abbrev pub invariant-loop-value : goal.invariant-loop-value
invariant-loop-value l =
    join_some (word_value (place_in l.labels)) (take l.value-index l.values) ≡ Some l.bytes.items
