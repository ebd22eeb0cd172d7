-- The lexemes so far, in front of those from the place on, are those of the line.
use Rattle.std.proofs.Common.{◌≡◌, ◌≤◌, ◌-◌, length}
use Rattle.asm_syntax.specs.Forms.{in_front}
use Rattle.asm_syntax.specs.Lexing.{lexemes_from, lexemes_of}
use Rattle.asm_syntax.proofs.lexeme.read_lexemes.Given as goal

abbrev pub invariant-loop-lexeme : goal.invariant-loop-lexeme
invariant-loop-lexeme l = record {
  read : in_front l.lexemes.items (lexemes_from l.line l.at) ≡ lexemes_of l.line;
  within : l.at ≤ length l.line;
}

abbrev pub decreases-loop-lexeme : goal.decreases-loop-lexeme
decreases-loop-lexeme l = length l.line - l.at
