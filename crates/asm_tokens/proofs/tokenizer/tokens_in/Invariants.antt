-- The tokens so far, in front of those from the place on, are those of the line.
use Rattle.std.proofs.Common.{◌≡◌, ◌≤◌, ◌-◌, length, drop}
use Rattle.asm_tokens.specs.Tokens.{tokens_from, tokens_of, with_tokens}
use Rattle.asm_tokens.proofs.tokenizer.tokens_in.Given as goal

abbrev pub invariant-loop-tokens : goal.invariant-loop-tokens
invariant-loop-tokens l = record {
  read : with_tokens l.tokens (tokens_from l.at 0 (drop l.at l.line)) ≡ tokens_of l.line;
  within : l.at ≤ length l.line;
}

abbrev pub decreases-loop-tokens : goal.decreases-loop-tokens
decreases-loop-tokens l = length l.line - l.at
