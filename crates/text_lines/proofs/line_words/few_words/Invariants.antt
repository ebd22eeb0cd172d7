-- The words so far and those of the rest are all words.
use Rattle.std.proofs.Common.{◌≡◌, ◌++◌, map}
use Rattle.arrayvec.specs.ArrayVec.{array_vec_len}
use Rattle.text_lines.specs.Words.{words_of}
use Rattle.text_lines.proofs.line_words.few_words.Given as goal

abbrev pub invariant-loop-taken : goal.invariant-loop-taken
invariant-loop-taken g l =
    (words_of l.line ≡ map (λ word. word.now) l.found.items ++ words_of l.rest)
    × (array_vec_len l.found ≡ l.taken)
