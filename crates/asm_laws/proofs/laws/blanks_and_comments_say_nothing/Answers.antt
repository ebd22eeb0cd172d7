use Rattle.asm_laws.proofs.Tokens.{comments_say_nothing, last_line_end, tokens_say_all}
use Rattle.asm_laws.proofs.laws.blanks_and_comments_say_nothing.Goals as goal

pub returns : goal.returns
returns c = record {
  tokens = tokens_say_all;
  comments = comments_say_nothing;
  last_line =
      last_line_end;
}
