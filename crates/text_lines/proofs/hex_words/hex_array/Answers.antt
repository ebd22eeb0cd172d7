-- What the crate decodes is what the word writes.
use Rattle.std.proofs.Common.{◌∙◌, ap}
use Rattle.std.specs.Result.{result_ok}
use Rattle.text_lines.proofs.HexLaws.{decoded_is, hex_of-exact}
use Rattle.text_lines.proofs.NumberLaws.{none_by_exact}
use Rattle.text_lines.specs.Hex.{IsHex}
use Rattle.text_lines.proofs.hex_words.hex_array.Goals as goal

pub returns-clause-value : goal.returns-clause-value
returns-clause-value g c =
    c.ok.ensures.value ∙ (ap result_ok c.from_hex.ensures ∙ decoded_is g.row.N c.args.word.now)

pub returns-clause-exact : goal.returns-clause-exact
returns-clause-exact g c = rw (returns-clause-value g c) (hex_of-exact g.row.N c.args.word.now)

pub returns-clause-none : goal.returns-clause-none
returns-clause-none g c =
    none_by_exact (IsHex g.row.N c.args.word.now) c.ok.result (returns-clause-exact g c)
