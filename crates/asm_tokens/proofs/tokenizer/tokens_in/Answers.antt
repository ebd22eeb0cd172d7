-- Nothing stands before the first token.
use Rattle.std.proofs.Common.{arith}
use Rattle.asm_tokens.proofs.StepLaws.{with_tokens-nil}
use Rattle.asm_tokens.specs.Tokens.{tokens_from, tokens_of}
use Rattle.asm_tokens.proofs.tokenizer.tokens_in.Goals as goal

pub loop-tokens-init : goal.loop-tokens-init
unfolding tokens_of
loop-tokens-init c = record {
  read = rw c.in_ok-tokens.ensures
      (with_tokens-nil (tokens_from 0 0 c.args.line.now));
  within = omega arith;
}
