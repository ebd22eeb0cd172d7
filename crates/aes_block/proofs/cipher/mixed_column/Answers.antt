-- Four columns of the tables and the key word, summed.
use Rattle.std.proofs.Common.{◌∙◌, ap, arith}
use Rattle.std.specs.Int.{w32, to_be_bytes}
use Rattle.aes_block.specs.Columns.{byte_in_row}
use Rattle.aes_block.proofs.Rounds.{column_made}
use Rattle.aes_block.proofs.Tables.{row_0_entry, row_1_entry, row_2_entry, row_3_entry}
use Rattle.aes_block.proofs.cipher.mixed_column.Goals as goal

pub returns : goal.returns
returns c =
    column_made c.args.key c.word_in-first.result c.word_in-second.result c.word_in-third.result
    c.word_in-fourth.result c.args.a c.args.b c.args.c c.args.d
    (ap (to_be_bytes w32) (rw c.rows.ensures at c.word_in-first.ensures)
    ∙ row_0_entry (byte_in_row 0 c.args.a) (omega arith))
    (ap (to_be_bytes w32) (rw c.rows.ensures at c.word_in-second.ensures)
    ∙ row_1_entry (byte_in_row 1 c.args.b) (omega arith))
    (ap (to_be_bytes w32) (rw c.rows.ensures at c.word_in-third.ensures)
    ∙ row_2_entry (byte_in_row 2 c.args.c) (omega arith))
    (ap (to_be_bytes w32) (rw c.rows.ensures at c.word_in-fourth.ensures)
    ∙ row_3_entry (byte_in_row 3 c.args.d) (omega arith))
