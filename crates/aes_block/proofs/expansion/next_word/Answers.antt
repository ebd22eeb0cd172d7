-- The word four places before, and what is added to it.
use Rattle.std.proofs.Common.{◌∙◌, ◌-◌, ap, [], arith, get_or, sym}
use Rattle.std.specs.Int.{w32, to_be_bytes}
use Rattle.aes_block.specs.Columns.{words_in}
use Rattle.aes_block.specs.Keys.{add_words, addend, next_word}
use Rattle.aes_block.proofs.Words.{bytes_of_sum, word_of_schedule}
use Rattle.aes_block.proofs.expansion.next_word.Goals as goal

pub returns : goal.returns
unfolding next_word
returns c =
    let words = c.args.words.now in
    let i = c.args.i in
    bytes_of_sum (get_or words (i - 4) 0) c.addend.result
    ∙ ap (add_words (to_be_bytes w32 (get_or words (i - 4) 0)))
    (c.addend.ensures ∙ ap (addend i) (sym (word_of_schedule words (i - 1) (omega arith))))
    ∙ ap (λ word. add_words word (addend i (get_or (words_in words) (i - 1) [])))
    (sym (word_of_schedule words (i - 4) (omega arith)))
