-- One more round.
use Rattle.std.proofs.Common.{◌∙◌, ◌+◌, ap}
use Rattle.aes_block.specs.Cipher.{round_of, rounds_of}
use Rattle.aes_block.specs.Columns.{bytes_of_columns, words_in}
use Rattle.aes_block.proofs.Growth.{rounds_grow}
use Rattle.aes_block.proofs.cipher.after_rounds.Goals as goal

pub loop-done-init : goal.loop-done-init
unfolding rounds_of
loop-done-init c = c.first_key_added-state.ensures

pub loop-done-preserved : goal.loop-done-preserved
loop-done-preserved c =
    c.round_of-next.ensures
    ∙ ap (round_of (words_in c.args.words.now) (c.loop-done.done + 1)) c.loop-done.invariant
    ∙ rounds_grow (words_in c.args.words.now) (bytes_of_columns c.args.start) c.loop-done.done
