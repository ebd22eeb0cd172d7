-- What the crate decodes is what the word writes.
use Rattle.std.proofs.Common.{sym, ap, ◌∙◌, inl, inr}
use Rattle.std.specs.Result.{result_ok}
use Rattle.text_lines.proofs.HexLaws.{decoded_new}
use Rattle.text_lines.proofs.hex_words.hex_bytes.Goals as goal

pub returns-in-Ok : goal.returns-in-Ok
returns-in-Ok c =
    rw c.from_vec.ensures (sym (ap result_ok c.in-Ok.ensures.ok) ∙ decoded_new c.args.word.now)

pub returns-in_ok-word_fault-in-Err : goal.returns-in_ok-word_fault-in-Err
returns-in_ok-word_fault-in-Err c =
    elim c.in-Err.ensures.err [
      | inl out ↦ absurd (c.in_ok-word_fault-in-Err.ensures out)
      | inr bad ↦ sym (ap result_ok bad) ∙ decoded_new c.args.word.now
    ]
