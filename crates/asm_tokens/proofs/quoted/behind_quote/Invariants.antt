-- What stands behind the closing quote of the rest stands behind that of the whole.
use Rattle.std.proofs.Common.{◌≡◌, ◌≤◌, false, length}
use Rattle.std.specs.Prelude.{option_map}
use Rattle.asm_tokens.specs.Lexemes.{read_quoted}
use Rattle.asm_tokens.proofs.quoted.behind_quote.Given as goal

abbrev pub invariant-loop-more : goal.invariant-loop-more
invariant-loop-more l = record {
  behind : option_map (λ read. read.1) (read_quoted false l.rest) ≡ option_map (λ read. read.1)
      (read_quoted false l.body);
  within : length l.rest ≤ length l.body;
}

abbrev pub decreases-loop-more : goal.decreases-loop-more
decreases-loop-more l = length l.rest
