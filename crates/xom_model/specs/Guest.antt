-- One event of the running guest: an instruction that retires, or what stands against it, and the
-- trap or the end that may follow.
use Rattle.std.specs.Prelude.{ℕ, ◌+◌, ◌-◌, ◌%◌, ◌^◌, ◌==◌, Bool, List, Option, Some, None, Result, Ok, Err, slice_set, if◌then◌else◌}
use Rattle.std.specs.Int.{w32, to_be_bytes}
use Rattle.xom_base.specs.declared.entry.Entry.TheVariants as entry
use Rattle.xom_base.specs.declared.event.Cause.{Cause}
use Rattle.xom_base.specs.declared.event.Cause.TheVariants as cause
use Rattle.xom_base.specs.declared.event.OwnFault.{OwnFault}
use Rattle.xom_base.specs.declared.event.OwnFault.TheVariants as fault
use Rattle.xom_base.specs.declared.step.Stored.{Stored}
use Rattle.xom_base.specs.declared.step.Stored.TheVariants as stored
use Rattle.xom_base.specs.declared.step.Writes.{Writes}
use Rattle.xom_base.specs.declared.step.Writes.TheVariants as writes
use Rattle.xom_base.specs.declared.step.Released.{Released}
use Rattle.xom_base.specs.declared.step.Released.TheVariants as released
use Rattle.xom_base.specs.declared.step.StepEnd.{StepEnd}
use Rattle.xom_base.specs.declared.step.StepEnd.TheVariants as ended
use Rattle.xom_base.specs.declared.step.Step.{Step}
use Rattle.mips_instruction.specs.Words.{instruction_of_word}
use Rattle.mips_effect.specs.declared.effects.Effect.{Effect}
use Rattle.mips_effect.specs.declared.seen.Seen.{Seen}
use Rattle.mips_effect.specs.declared.seen.Seen.TheVariants.{Value, Foreign}
use Rattle.mips_effect.specs.declared.wish.Wish.{Wish}
use Rattle.mips_effect.specs.declared.wish.Wish.TheVariants as wish
use Rattle.mips_plain.specs.Instruction.{effect_at, handler_after, instruction_or_fault, is_code, kept_after, signal_step, step_made}
use Rattle.mips_plain.specs.Memory.{low_bytes, word_at_address, written_at}
use Rattle.line_ram.specs.Bytes.{ram_with_bytes as stored_in_ram}
use Rattle.xom_base.specs.Sizes.{line_size}
use Rattle.tag_regs.specs.declared.cell.Cell.{Cell}
use Rattle.tag_regs.specs.TaggedCells.{cell_at, with_cell as written_cell}
use Rattle.session_table.specs.declared.session.Session.{Session}
use Rattle.session_table.specs.declared.session.SlotState.TheVariants as state
use Rattle.session_table.specs.Masks.{mask_with_cell, without_cell}
use Rattle.session_table.specs.Sessions.{session_after_pause}
use Rattle.xom_model.specs.declared.reach.Reach.{Reach}
use Rattle.xom_model.specs.declared.reach.Reach.TheVariants as reach
use Rattle.xom_versions.specs.Versions.{Versions}
use Rattle.line_cache.specs.declared.way.Way.{Way}
use Rattle.line_cache.specs.Ways.{way_at, way_with_bytes}
use Rattle.xom_model.specs.State.{CoreState, core_with_session, line_of_address, ram_holds_range, session_of, with_entry}
use Rattle.xom_model.specs.Access.{access, after_leaving}

-- what a slot's guest sees in a cell: the value where the cell has the slot's tag
abbrev pub seen_as : ℕ → Cell → Seen
seen_as slot cell = if cell.tag == slot then Value cell.value else Foreign

-- what a slot's guest sees in a register; $0 is zero
abbrev pub seen_by : ℕ → List Cell → ℕ → Seen
seen_by slot cells reg = if reg == 0 then Value 0 else seen_as slot (cell_at cells reg)

-- the word of RAM at an address, 0 outside
abbrev pub null_word : List ℕ → ℕ → ℕ
null_word ram address = if ram_holds_range ram address 4 then word_at_address ram address else 0

-- the value of a cell of the null compartment, and 0 of any other's
abbrev pub open_value : Cell → ℕ
open_value cell = if cell.tag == 0 then cell.value else 0

-- the value that a wish receives from the null compartment: from a cell or from RAM
abbrev pub received_by : List Cell → List ℕ → Wish → ℕ
received_by cells ram (wish.Receive reg from) = open_value (cell_at cells from)
received_by cells ram (wish.NullLoad reg address) = null_word ram address
received_by cells ram other = 0

-- RAM after what a step gives out; outside RAM nothing is written
abbrev pub given_out : List ℕ → Released → List ℕ
given_out ram released.Nothing = ram
given_out ram (released.Cell reg value) = ram
given_out ram (released.Null address value) =
    if ram_holds_range ram address 4 then stored_in_ram ram address (to_be_bytes w32 value) else ram

-- a written cell gets the slot's tag
abbrev pub with_writes : ℕ → List Cell → Writes → List Cell
with_writes slot cells writes.Nothing = cells
with_writes slot cells (writes.One reg value) = written_cell cells reg value slot
with_writes slot cells (writes.Pair hi lo) = written_cell (written_cell cells 32 hi slot) 33 lo slot

-- a released cell is of the null compartment, and keeps its value
abbrev pub with_release : List Cell → Released → List Cell
with_release cells released.Nothing = cells
with_release cells (released.Cell reg value) = written_cell cells reg value 0
with_release cells (released.Null address value) = cells

-- the cells after a step of a slot's guest
abbrev pub cells_after_step : ℕ → List Cell → Step → List Cell
cells_after_step slot cells step = with_release (with_writes slot cells step.writes) step.released

-- the mask with the cells that were written
abbrev pub mask_written : ℕ → Writes → ℕ
mask_written mask writes.Nothing = mask
mask_written mask (writes.One reg value) = mask_with_cell mask reg
mask_written mask (writes.Pair hi lo) = mask_with_cell (mask_with_cell mask 32) 33

-- the mask without a cell that was released
abbrev pub mask_released : ℕ → Released → ℕ
mask_released mask released.Nothing = mask
mask_released mask (released.Cell reg value) = without_cell mask reg
mask_released mask (released.Null address value) = mask

-- the cells that the guest owns after what a step wrote and released
abbrev pub mask_after : ℕ → Step → ℕ
mask_after mask step = mask_released (mask_written mask step.writes) step.released

-- the session after a step of this effect
abbrev pub session_after_step : Session → Effect → Step → Session
session_after_step s effect step = record s {
  pc = effect.pc;
  npc = effect.npc;
  mask = mask_after s.mask step;
  handler = handler_after s.handler effect.wish;
  saved = kept_after s.saved effect.wish;
}

-- a way with bytes stored in it has still to be sealed
abbrev pub stored_way : Way → ℕ → List ℕ → Way
stored_way way address bytes = way_with_bytes way (written_at way.bytes (address % line_size) bytes)

-- the cache after what a step stored in the line at a place
abbrev pub stored_at : List Way → ℕ → Stored → List Way
stored_at ways place stored.Nothing = ways
stored_at ways place (stored.Bytes address count value) =
    slice_set ways place (stored_way (way_at ways place) address (low_bytes count value))

-- the core after a step with which the slot's session becomes this one, and which stores in the
-- line at this place, if it stores
abbrev pub core_after_step : CoreState → ℕ → ℕ → Session → Step → CoreState
core_after_step core slot place session step =
    with_entry
    (record core {
      cells = cells_after_step slot core.cells step;
      sessions = slice_set core.sessions slot session;
      ways = stored_at core.ways place step.stored;
      ram = given_out core.ram step.released;
    })
    (entry.Step (session_of core slot).install step)

-- the core after the instruction retired with this step
abbrev pub after_retirement : CoreState → ℕ → ℕ → Effect → Step → CoreState
after_retirement core slot place effect step =
    core_after_step core slot place (session_after_step (session_of core slot) effect step) step

-- the step of a signal that is delivered
abbrev pub signal_of : Session → ℕ → Step
signal_of s n = signal_step s.pc s.npc n

-- the session after a signal: its pair is kept, and it goes on at its handler
abbrev pub session_after_signal : Session → ℕ → Session
session_after_signal s n = record s {
  pc = s.handler;
  npc = (s.handler + 4) % 2 ^ 32;
  mask =
      mask_after s.mask (signal_of s n);
  saved = Some (s.pc, s.npc);
}

-- the core after a signal was delivered to a slot's guest
abbrev pub after_delivery : CoreState → ℕ → ℕ → CoreState
after_delivery core slot n =
    core_after_step core slot 0 (session_after_signal (session_of core slot) n)
    (signal_of (session_of core slot) n)

-- the guest leaves to come back: the pair is kept, and the epoch is raised
abbrev pub after_trap : CoreState → ℕ → Cause → CoreState × Option Cause
after_trap core slot why = (
  with_entry (core_with_session core slot (session_after_pause (session_of core slot)))
      (entry.Trap (session_of core slot).install why),
  Some why,
)

-- the guest leaves for good
abbrev pub after_exit : CoreState → ℕ → CoreState × Option Cause
after_exit core slot = (after_leaving core slot state.Ended, Some cause.Exit)

-- what follows a step: its own end comes before the interrupt line
abbrev pub after_step : CoreState → ℕ → Bool → StepEnd → CoreState × Option Cause
after_step core slot interrupt (ended.Call code) = after_trap core slot (cause.Call code)
after_step core slot interrupt ended.Exit = after_exit core slot
after_step core slot interrupt ended.Goes =
    if interrupt then after_trap core slot cause.Interrupt else (core, None)

-- an effect retires, where this word is what it loads from and the line at this place is what it
-- stores in
abbrev pub retirement : CoreState → ℕ → Bool → Effect → ℕ → ℕ → CoreState × Option Cause
retirement core slot interrupt effect word place =
    let step = step_made (session_of core slot).pc (session_of core slot).npc effect word
    (received_by core.cells core.ram effect.wish) in
    after_step (after_retirement core slot place effect step) slot interrupt step.end

-- the address of private memory that an instruction reads or writes
abbrev pub address_in : Wish → Option ℕ
address_in (wish.Load reg address how old) = Some address
address_in (wish.Store address count value) = Some address
address_in other = None

-- the word of a line that holds an address
abbrev pub word_in : List ℕ → ℕ → ℕ
word_in bytes address = word_at_address bytes ((address - address % 4) % line_size)

-- the word that a load is made of, from its line; 0 where nothing is loaded
abbrev pub word_loaded : List ℕ → Wish → ℕ
word_loaded bytes (wish.Load reg address how old) = word_in bytes address
word_loaded bytes other = 0

-- what stands against an access: an unmapped page traps before anything changes, and a broken line
-- has stopped the slot
abbrev pub data_reached : ℕ → Bool → Effect → CoreState × Reach → CoreState × Option Cause
data_reached slot interrupt effect (core, reach.PageFault page) =
    after_trap core slot (cause.Page page)
data_reached slot interrupt effect (core, reach.Stopped why) = (core, Some (cause.Stopped why))
data_reached slot interrupt effect (core, reach.Ready place) =
    retirement core slot interrupt effect (word_loaded (way_at core.ways place).bytes effect.wish)
    place

module _ (v : Versions) where
  -- the private access of an instruction's own bytes, if it has some
  abbrev pub data_of : CoreState → ℕ → Bool → Effect → Option ℕ → CoreState × Option Cause
  data_of core slot interrupt effect None = retirement core slot interrupt effect 0 0
  data_of core slot interrupt effect (Some address) = data_reached slot interrupt effect
      (access v core slot (line_of_address address))

  -- an own fault traps before anything changes, and an effect goes on to its access
  abbrev pub after_effect : CoreState → ℕ → Bool → Result Effect OwnFault → CoreState × Option Cause
  after_effect core slot interrupt (Err why) = after_trap core slot (cause.Fault why)
  after_effect core slot interrupt (Ok effect) =
      data_of core slot interrupt effect (address_in effect.wish)

  -- what the word of an instruction comes to for the guest in a slot
  abbrev pub word_tried : CoreState → ℕ → ℕ → Result Effect OwnFault
  word_tried core slot word =
      effect_at (seen_by slot core.cells) (session_of core slot).saved
      (instruction_or_fault (instruction_of_word word)) (session_of core slot).pc (session_of core slot).npc

  -- the event of a guest, of what fetching its instruction came to: a line, an unmapped page, or a
  -- stop
  abbrev pub code_reached : ℕ → Bool → CoreState × Reach → CoreState × Option Cause
  code_reached slot interrupt (core, reach.PageFault page) = after_trap core slot (cause.Page page)
  code_reached slot interrupt (core, reach.Stopped why) = (core, Some (cause.Stopped why))
  code_reached slot interrupt (core, reach.Ready place) =
      after_effect core slot interrupt
      (word_tried core slot (word_in (way_at core.ways place).bytes (session_of core slot).pc))

  -- an event of the guest in a slot, with the interrupt line after it; the cause where the guest
  -- leaves
  unfoldable pub guest : CoreState → ℕ → Bool → CoreState × Option Cause
  guest core slot interrupt =
      if is_code (session_of core slot).pc
      then code_reached slot interrupt (access v core slot (line_of_address (session_of core slot).pc))
      else after_trap core slot (cause.Fault fault.Address)
