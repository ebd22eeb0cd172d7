-- The front of the room is what the word writes.
use Rattle.std.proofs.Common.{◌≡◌, ◌/◌, length, take, drop}
use Rattle.std.proofs.lemmas.List.{length-take-le}
use Rattle.text_lines.specs.Hex.{hex_of}
use Rattle.text_lines.proofs.HexLaws.{filled_room, hex_within-fits, length-hex_of, unfilled_room}
use Rattle.text_lines.proofs.hex_words.into_room.Goals as goal

pub returns-then-hex_fills-clause-value : goal.returns-then-hex_fills-clause-value
returns-then-hex_fills-clause-value c =
    let word = c.args.word.now in
    let half = length word / 2 in
    let size : length (take half c.args.room.now) ≡ half = length-take-le half c.args.room.now
    c.if-count-room.false in
    rw (hex_within-fits (length c.args.room.now) word c.if-count-room.false)
    (filled_room (hex_of half word) half c.hex_fills.new.room (drop half c.args.room.now)
    (length-hex_of half word) (rw (size, c.if-hex_fills.true) at c.hex_fills.ensures))

pub returns-else-hex_fills-clause-value : goal.returns-else-hex_fills-clause-value
returns-else-hex_fills-clause-value c =
    let word = c.args.word.now in
    let half = length word / 2 in
    let size : length (take half c.args.room.now) ≡ half = length-take-le half c.args.room.now
    c.if-count-room.false in
    rw (hex_within-fits (length c.args.room.now) word c.if-count-room.false)
    (unfilled_room (hex_of half word) c.hex_fills.new.room (rw (size, c.if-hex_fills.false) at
    c.hex_fills.ensures))
