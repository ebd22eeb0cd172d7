use Rattle.std.proofs.Common.{◌≡◌}
use Rattle.aes_block.specs.Cipher.{rounds_of}
use Rattle.aes_block.specs.Columns.{bytes_of_columns, words_in}
use Rattle.aes_block.proofs.cipher.after_rounds.Given as goal

abbrev pub invariant-loop-done : goal.invariant-loop-done
invariant-loop-done l = bytes_of_columns l.state ≡ rounds_of (words_in l.words) l.done (bytes_of_columns l.fn.start)
