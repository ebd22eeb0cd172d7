-- Four values of the S-box and the key word, summed.
use Rattle.std.proofs.Common.{◌∙◌, ap, slice_index}
use Rattle.aes_block.specs.Substitution.{s_box}
use Rattle.aes_block.proofs.Rounds.{shifted_made}
use Rattle.aes_block.proofs.cipher.shifted_column.Goals as goal

pub returns : goal.returns
returns c =
    shifted_made c.args.key c.word_of.result c.args.a c.args.b c.args.c c.args.d
    c.s_box.result c.s_box-2.result c.s_box-3.result c.s_box-4.result c.word_of.ensures
    (c.s_box.ensures ∙ ap (λ bytes. s_box (slice_index bytes 0)) c.rows.ensures)
    (c.s_box-2.ensures ∙ ap (λ bytes. s_box (slice_index bytes 1)) c.rows.ensures)
    (c.s_box-3.ensures ∙ ap (λ bytes. s_box (slice_index bytes 2)) c.rows.ensures)
    (c.s_box-4.ensures ∙ ap (λ bytes. s_box (slice_index bytes 3)) c.rows.ensures)
