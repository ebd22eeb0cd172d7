-- What was added so far, and what the rest of the line adds, are what the line adds.
use Rattle.std.proofs.Common.{◌≡◌, ◌++◌, List, length, option_map}
use Rattle.asm_source.specs.declared.content.Part.{Part}
use Rattle.asm_syntax.specs.Lines.{parts_of_line}
use Rattle.asm_syntax.proofs.read.add_line.Given as goal

abbrev pub invariant-loop-label : goal.invariant-loop-label
invariant-loop-label l =
    option_map (λ (more : List Part). l.parts ++ more) (parts_of_line l.number l.rest)
    ≡ option_map (λ (more : List Part). l.initial.parts ++ more) (parts_of_line l.number l.lexemes)

abbrev pub decreases-loop-label : goal.decreases-loop-label
decreases-loop-label l = length l.rest
