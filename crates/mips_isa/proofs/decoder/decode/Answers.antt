-- What is read of a word is the instruction of that word, and nothing is read of a reserved one.
use Rattle.std.proofs.Common.{refl, sym, ◌∙◌}
use Rattle.mips_isa.proofs.Reading.{Word-read, read-Word, read-none, reserved-none}
use Rattle.mips_isa.proofs.decoder.decode.Goals as goal

pub returns-clause-exact : goal.returns-clause-exact
returns-clause-exact c i = (
  λ is. read-Word i c.args.word (sym c.read_word.ensures ∙ is),
  λ has. c.read_word.ensures
      ∙ Word-read i c.args.word has,
)

pub returns-clause-reserved : goal.returns-clause-reserved
returns-clause-reserved c = (
  λ none. read-none c.args.word (rw c.read_word.ensures at none),
  λ reserved. rw (c.read_word.ensures, reserved-none c.args.word reserved) refl,
)
