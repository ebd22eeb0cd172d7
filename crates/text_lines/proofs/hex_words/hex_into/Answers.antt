-- The function is the grammar.
use Rattle.std.proofs.Common.{length, take}
use Rattle.text_lines.proofs.HexLaws.{hex_within-exact, none_made}
use Rattle.text_lines.specs.Hex.{WritesHex}
use Rattle.text_lines.proofs.hex_words.hex_into.Goals as goal

pub returns-clause-exact : goal.returns-clause-exact
returns-clause-exact c =
    rw c.into_room.ensures.value (hex_within-exact (length c.args.room.now) c.args.word.now)

pub returns-clause-none : goal.returns-clause-none
returns-clause-none c =
    none_made (WritesHex (length c.args.room.now) c.args.word.now)
    (λ count. take count c.into_room.new.room) c.into_room.result (returns-clause-exact c)
