use Rattle.cli_judge.proofs.Grammar as grammar
use Rattle.cli_judge.proofs.law.texts_are_read.Goals as goal

pub returns : goal.returns
returns c = grammar.texts_are_read
