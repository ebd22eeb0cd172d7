-- The turns of the kernels that tell them.
use Rattle.std.specs.Prelude.{ℕ, ◌+◌, ◌%◌, ◌^◌, List, [], ◌∷◌, length, map, min, take, nat_lt, bit_xor, Option, Some, unwrap_or, if◌then◌else◌}
use Rattle.std.specs.List.{range_with_len}
use Rattle.xom_base.specs.declared.event.Op.TheVariants as op
use Rattle.xom_script.specs.declared.script_line.ScriptLine.{ScriptLine}
use Rattle.xom_script.specs.declared.script_line.ScriptLine.TheVariants as line
use Rattle.xom_model.specs.declared.outcome.Turn.{Turn}
use Rattle.xom_model.specs.declared.outcome.Turn.TheVariants as turn
use Rattle.xom_model.specs.Event.{chunk_size}
use Rattle.xom_model.specs.Seen.{View, ram_byte}

-- ---- Bytes that a kernel is shown

-- the byte at an address: 0 outside RAM, and also past the last address
abbrev pub byte_shown : View → ℕ → ℕ
byte_shown view address = if nat_lt address (2 ^ 32) then unwrap_or (ram_byte view address) 0 else 0

-- so many bytes from an address on
abbrev pub bytes_shown : View → ℕ → ℕ → List ℕ
bytes_shown view from count = map (byte_shown view) (range_with_len from count)

-- ---- A script

-- a turn, with the bytes that a kernel write puts into RAM
abbrev pub ToldTurn : Type 0
ToldTurn = Turn × List ℕ

-- a kernel write of at most 8,192 bytes of a list
abbrev pub write_turn : ℕ → List ℕ → ToldTurn
write_turn address bytes = (turn.Write address (min (length bytes) chunk_size), take chunk_size bytes)

-- a kernel write of at most 8,192 bytes, as they stand in RAM at this turn
abbrev pub copy_of : View → ℕ → ℕ → ℕ → ToldTurn
copy_of view from to count =
    (turn.Write to (min count chunk_size), bytes_shown view from (min count chunk_size))

-- a kernel write of the byte that stands there at this turn, with the bits of a mask turned over
abbrev pub flip_of : View → ℕ → ℕ → ToldTurn
flip_of view address mask = (turn.Write address 1, bit_xor (byte_shown view address) mask ∷ [])

-- the status as a digit on the console, which takes a byte
abbrev pub show_of : View → ToldTurn
show_of view = (turn.Do (op.Out ((48 + view.status) % 2 ^ 8)), [])

-- what a line asks for
abbrev pub turn_of : View → ScriptLine → ToldTurn
turn_of view (line.Do op) = (turn.Do op, [])
turn_of view (line.Write address bytes) = write_turn address bytes
turn_of view (line.Copy from to count) = copy_of view from to count
turn_of view (line.Flip address mask) = flip_of view address mask
turn_of view line.Show = show_of view

-- the lines that are left, each one turn, and Halt behind the last
abbrev pub script_told : List ScriptLine → View → Option (Turn × (List ℕ × List ScriptLine))
script_told [] view = Some (turn.Do op.Halt, ([], []))
script_told (line ∷ lines) view = let told = turn_of view line in Some (told.0, (told.1, lines))

-- ---- An image

-- always one instruction of null code
abbrev pub image_told : Unit {0} → View → Option (Turn × (List ℕ × Unit {0}))
image_told k view = Some (turn.Null, ([], k))
