-- The function is the grammar.
use Rattle.text_lines.proofs.HexLaws.{exact_in, hex_within-exact, none_in}
use Rattle.text_lines.specs.Hex.{WritesHex, hex_within}
use Rattle.text_lines.proofs.hex_words.hex_list.Goals as goal

pub returns-clause-exact : goal.returns-clause-exact
returns-clause-exact c =
    exact_in (WritesHex c.args.most c.args.word.now) (hex_within c.args.most c.args.word.now)
    (hex_within-exact c.args.most c.args.word.now) c.list_within.result c.list_within.ensures

pub returns-clause-none : goal.returns-clause-none
returns-clause-none c =
    none_in (WritesHex c.args.most c.args.word.now) (hex_within c.args.most c.args.word.now)
    (hex_within-exact c.args.most c.args.word.now) c.list_within.result c.list_within.ensures
