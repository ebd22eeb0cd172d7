-- Nothing stands before the first lexeme.
use Rattle.std.proofs.Common.{arith}
use Rattle.asm_syntax.proofs.LexemeLaws.{lexemes_from_start}
use Rattle.asm_syntax.proofs.lexeme.read_lexemes.Goals as goal

pub loop-lexeme-init : goal.loop-lexeme-init
loop-lexeme-init c = record {
  read = rw c.clear.ensures.items (lexemes_from_start c.args.line.now);
  within = omega arith;
}
