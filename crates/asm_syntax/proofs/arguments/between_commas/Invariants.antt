-- The operands so far, in front of those of the parts that are left, are those of all parts.
use Rattle.std.proofs.Common.{◌≡◌, length}
use Rattle.std.specs.List.{slice_split}
use Rattle.asm_syntax.specs.Arguments.{argument_of, is_comma}
use Rattle.asm_syntax.specs.Forms.{in_front, map_some}
use Rattle.asm_syntax.proofs.arguments.between_commas.Given as goal

abbrev pub invariant-loop-part : goal.invariant-loop-part
invariant-loop-part l =
    in_front l.arguments (map_some argument_of (slice_split is_comma l.rest))
    ≡ map_some argument_of (slice_split is_comma l.lexemes)

abbrev pub decreases-loop-part : goal.decreases-loop-part
decreases-loop-part l = length l.rest
