-- What a debugger prints: a function of its commands, and of the events and the views of a run.
-- Each line ends with byte 10.
use Rattle.std.specs.Prelude.{ℕ, zero, suc, ◌+◌, ◌^◌, nat_lt, if◌then◌else◌, List, [], ◌∷◌, ◌++◌, map, Option, Some, None, codes, unwrap_or}
use Rattle.std.specs.List.{flat_map, range_with_len}
use Rattle.std.specs.Fmt.{decimal}
use Rattle.hex.specs.Hex.{encode_lower}
use Rattle.circular_buffer.specs.Buffer.{keep_last}
use Rattle.text_pieces.specs.Pieces.{hex8}
use Rattle.xom_base.specs.declared.event.Event.{Event}
use Rattle.xom_base.specs.declared.event.Event.TheVariants as event
use Rattle.xom_base.specs.declared.event.Op.{Op}
use Rattle.xom_base.specs.declared.event.Op.TheVariants as op
use Rattle.session_table.specs.declared.session.SlotState.{SlotState}
use Rattle.session_table.specs.declared.session.SlotState.TheVariants as state
use Rattle.session_table.specs.declared.session.SlotView.{SlotView}
use Rattle.tag_regs.specs.declared.cell.Cell.{Cell}
use Rattle.tag_regs.specs.TaggedCells.{cell_at}
use Rattle.xom_model.specs.Seen.{View, open_cell, ram_byte}
use Rattle.xom_machine.specs.Shown.{shown_slot_at}
use Rattle.xom_debug.specs.declared.command.Command.{Command}
use Rattle.xom_debug.specs.declared.command.Command.TheVariants as command
use Rattle.xom_debug.specs.declared.session.Noted.{Noted}
use Rattle.xom_debug.specs.Moments.{Moment, has_left}

-- ---- Events

-- an operation by its word in scripts
abbrev pub op_word : Op → List ℕ
op_word (op.Install slot envelope area) = codes "install"
op_word (op.Enter slot) = codes "enter"
op_word (op.Resume slot signal) = codes "resume"
op_word (op.Save slot reg address) = codes "save"
op_word (op.Restore slot reg address) = codes "restore"
op_word (op.Map slot page frame) = codes "map"
op_word (op.Unmap slot page) = codes "unmap"
op_word (op.SetReg reg value) = codes "setreg"
op_word (op.Kill slot) = codes "kill"
op_word (op.Out byte) = codes "out"
op_word op.Halt = codes "halt"

-- the numbers of a write, in decimal
abbrev pub range_text : ℕ → ℕ → List ℕ
range_text address count = decimal address ++ (codes " " ++ decimal count)

-- an event: what it is, and the operation, or the address and the length of a write
abbrev pub event_text : Event → List ℕ
event_text (event.Do op) = codes "do " ++ op_word op
event_text (event.Write address count) = codes "write " ++ range_text address count
event_text event.Null = codes "null"
event_text (event.Guest interrupt) = codes "guest"
event_text (event.Poke address count) = codes "poke " ++ range_text address count

-- an event with its number, as a line
abbrev pub noted_line : Noted → List ℕ
noted_line noted = decimal noted.number ++ (codes " " ++ (event_text noted.event ++ codes "\n"))

-- events with their numbers, of which the first is this one
abbrev pub events_by_number : ℕ → List Event → List Noted
events_by_number n [] = []
events_by_number n (e ∷ events) = record { number = n; event = e } ∷ events_by_number (n + 1) events

-- so many events are kept
abbrev pub kept_events : ℕ
kept_events = 64

-- the last of all events of a run so far, with their numbers, which count from 1; the oldest comes
-- first
abbrev pub last_events : List Event → List Noted
last_events past = keep_last kept_events (events_by_number 1 past)

-- ---- What is seen of the machine

-- the value of a cell of the null compartment, or the slot to which it belongs
abbrev pub cell_text : Option ℕ → ℕ → List ℕ
cell_text (Some value) tag = codes "null " ++ hex8 value
cell_text None tag = codes "slot " ++ decimal tag

-- a register and what is seen in its cell, as a line
abbrev pub cell_line : ℕ → Cell → List ℕ
cell_line reg cell =
    codes "$" ++ (decimal reg ++ (codes " " ++ (cell_text (open_cell cell) cell.tag ++ codes "\n")))

-- the name of a state, without the rule of a stopped guest
abbrev pub state_word : SlotState → List ℕ
state_word state.Free = codes "Free"
state_word state.Fresh = codes "Fresh"
state_word state.Running = codes "Running"
state_word state.Paused = codes "Paused"
state_word state.Ended = codes "Ended"
state_word (state.Stopped rule) = codes "Stopped"

-- the state and the epoch of a slot, as a line
abbrev pub slot_line : ℕ → SlotView → List ℕ
slot_line slot shown =
    codes "slot "
    ++ (decimal slot ++ (codes " "
    ++ (state_word shown.state ++ (codes " epoch " ++ (decimal shown.epoch ++ codes "\n")))))

-- the byte at an address: 0 outside RAM, and also past the last address
abbrev pub byte_at : View → ℕ → ℕ
byte_at view address = if nat_lt address (2 ^ 32) then unwrap_or (ram_byte view address) 0 else 0

-- so many bytes of RAM from an address on
abbrev pub bytes_from : View → ℕ → ℕ → List ℕ
bytes_from view address count = map (byte_at view) (range_with_len address count)

-- these bytes in hexadecimal, as a line
abbrev pub ram_line : View → ℕ → ℕ → List ℕ
ram_line view address count = encode_lower (bytes_from view address count) ++ codes "\n"

-- ---- Commands

-- what a command prints, of the events that are kept and of what is seen; the commands that make
-- events print nothing
abbrev pub said : Command → List Noted → View → List ℕ
said (command.Step count) last view = []
said command.UntilTrap last view = []
said (command.Reg reg) last view = cell_line reg (cell_at view.cells reg)
said (command.Slot slot) last view = slot_line slot (shown_slot_at view.slots slot)
said command.Last last view = flat_map noted_line last
said (command.Ram address count) last view = ram_line view address count

-- where a debugger stands in a run: the events so far, what is seen now, and the moments that are
-- still to come
pub record Place : Type 0 where
  pub past : List Event
  pub view : View
  pub rest : List Moment

-- the place with these events, this view and these moments
abbrev pub place : List Event → View → List Moment → Place
place past view rest = record { past = past; view = view; rest = rest }

-- so many events further on, or at the run's end
abbrev pub place_after_steps : ℕ → List Event → View → List Moment → Place
place_after_steps n past view [] = place past view []
place_after_steps zero past view (first ∷ rest) = place past view (first ∷ rest)
place_after_steps (suc n) past view (first ∷ rest) = place_after_steps n (past ++ first.event ∷ []) first.view rest

-- behind the next event after which a guest has left, or at the run's end
abbrev pub at_trap : List Event → View → List Moment → Place
at_trap past view [] = place past view []
at_trap past view (first ∷ rest) =
    if has_left first.event first.view then place (past ++ first.event ∷ []) first.view rest
    else at_trap (past ++ first.event ∷ []) first.view rest

-- where a command leaves the debugger; the commands that print make no event
abbrev pub place_after_command : Command → Place → Place
place_after_command (command.Step count) p = place_after_steps count p.past p.view p.rest
place_after_command command.UntilTrap p = at_trap p.past p.view p.rest
place_after_command (command.Reg reg) p = p
place_after_command (command.Slot slot) p = p
place_after_command command.Last p = p
place_after_command (command.Ram address count) p = p

-- what commands print, one after another, from a place on: each moves, and then prints
abbrev pub text_from : List Command → Place → List ℕ
text_from [] p = []
text_from (first ∷ commands) p =
    let after : Place = place_after_command first p in
    said first (last_events after.past) after.view ++ text_from commands after

-- the text of a debugger: of its commands, of what is seen of the machine before the first event of
-- a run, and of the moments of this run
abbrev pub debug_text : List Command → View → List Moment → List ℕ
debug_text commands view run = text_from commands (place [] view run)
