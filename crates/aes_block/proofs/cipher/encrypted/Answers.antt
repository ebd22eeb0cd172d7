-- The block's columns, nine rounds and the last one.
use Rattle.std.proofs.Common.{◌∙◌, ap}
use Rattle.aes_block.specs.Cipher.{cipher, rounds_of}
use Rattle.aes_block.specs.Columns.{words_in}
use Rattle.aes_block.specs.State.{add_round_key, shift_rows, sub_bytes}
use Rattle.aes_block.proofs.cipher.encrypted.Goals as goal

pub returns : goal.returns
unfolding cipher
returns c =
    let words = words_in c.args.words.now in
    c.block_of.ensures ∙ c.last_round.ensures
    ∙ ap (λ state. add_round_key words 10 (shift_rows (sub_bytes state)))
    (c.after_rounds.ensures ∙ ap (rounds_of words 9) c.columns_of.ensures)
