-- The words by the first one.
use Rattle.std.proofs.Common.{ap, sym, ◌∙◌}
use Rattle.text_lines.specs.Words.{after_word}
use Rattle.text_lines.proofs.NextLaws.{words_next}
use Rattle.text_lines.proofs.line_words.next_word.Goals as goal

pub returns-clause-words : goal.returns-clause-words
returns-clause-words c = words_next c.args.line.now ∙ ap after_word (sym c.first_word.ensures)
