-- What is seen of the machine after an event, as a function of what was seen before it, the event,
-- its bytes and its emission.
use Rattle.std.specs.Prelude.{ℕ, ◌+◌, ◌==◌, List, [], ◌∷◌, take, position, Option, Some, None, Result, Ok, Err, slice_index_or, slice_set, false, if◌then◌else◌}
use Rattle.xom_base.specs.declared.event.Cause.TheVariants as cause
use Rattle.xom_base.specs.declared.event.Event.{Event}
use Rattle.xom_base.specs.declared.event.Event.TheVariants as event
use Rattle.xom_base.specs.declared.event.Op.{Op}
use Rattle.xom_base.specs.declared.event.Op.TheVariants.{Install, Enter, Resume, Save, Restore, Map, Unmap, SetReg, Kill, Out, Halt}
use Rattle.xom_seal.specs.Envelopes.{entry_of_envelope, id_in, lines_in}
use Rattle.line_ram.specs.Bytes.{bytes_at}
use Rattle.page_map.specs.Pages.{Pages, frame_of, with_page, without_pages}
use Rattle.tag_regs.specs.declared.cell.Cell.{Cell}
use Rattle.tag_regs.specs.TaggedCells.{cells_after_scrub, with_cell}
use Rattle.session_table.specs.declared.session.SlotState.TheVariants as state
use Rattle.session_table.specs.declared.session.SlotView.{SlotView}
use Rattle.session_table.specs.Masks.{mask_with_cell as mask_with}
use Rattle.session_table.specs.Sessions.{free, is_running}
use Rattle.xom_versions.specs.Versions.{Raised, Versions}
use Rattle.xom_model.specs.declared.outcome.NullFault.{NullFault}
use Rattle.xom_model.specs.declared.outcome.Outcome.{Outcome}
use Rattle.xom_model.specs.declared.outcome.Outcome.TheVariants as outcome
use Rattle.xom_model.specs.State.{page_of}
use Rattle.xom_model.specs.Lines.{with_sealed}
use Rattle.xom_model.specs.Saves.{with_saved}
use Rattle.xom_model.specs.Guest.{given_out, mask_released, with_release}
use Rattle.xom_model.specs.Null.{Answer, Open, Told, null_step, ram_after_write}
use Rattle.xom_model.specs.Operation.{envelope_size}
use Rattle.xom_model.specs.Touched.{slot_of_op as slot_named, slot_or_none}
use Rattle.xom_model.specs.Seen.{Seen, shown_slot}
use Rattle.xom_seen.specs.Emission.{Emission, Names, NoCell, OneCell, Halves, Signal, Made, LineSealed, RegisterSealed, Broke}

-- what is seen of the core
pub record Sight : Type 0 where
  pub cells : List Cell
  pub slots : List SlotView
  pub pages : Pages
  pub areas : List (Option ℕ)
  pub ram : List ℕ
  pub installs : ℕ

-- the core's part of what is seen
abbrev pub sight_in : Seen → Sight
sight_in s = record {
  cells = s.view.cells;
  slots = s.view.slots;
  pages = s.pages;
  areas =
      s.areas;
  ram = s.view.ram;
  installs = s.installs;
}

-- what is seen, with another core's part
abbrev pub with_sight : Seen → Sight → Seen
with_sight s new = record s {
  view = record s.view {
    cells = new.cells;
    slots = new.slots;
    ram =
        new.ram;
  };
  pages = new.pages;
  installs = new.installs;
  areas = new.areas;
}

-- what is seen of a slot; that of a free one where there is no such slot
abbrev pub sight_slot : Sight → ℕ → SlotView
sight_slot s slot = slice_index_or s.slots slot (shown_slot free)

-- what is seen of the core, with another slot
abbrev pub with_slot : Sight → ℕ → SlotView → Sight
with_slot s slot new = record s { slots = slice_set s.slots slot new }

-- a cell of a slot, whose value isn't seen
abbrev pub hidden_cell : ℕ → Cell
hidden_cell slot = record { value = 0; tag = slot }

-- the named cells belong to the slot now
abbrev pub cells_named_for_slot : ℕ → List Cell → Names → List Cell
cells_named_for_slot slot cells NoCell = cells
cells_named_for_slot slot cells (OneCell reg) = slice_set cells reg (hidden_cell slot)
cells_named_for_slot slot cells Halves = slice_set (slice_set cells 32 (hidden_cell slot)) 33 (hidden_cell slot)

-- the mask with the named cells
abbrev pub mask_named : ℕ → Names → ℕ
mask_named mask NoCell = mask
mask_named mask (OneCell reg) = mask_with mask reg
mask_named mask Halves = mask_with (mask_with mask 32) 33

-- cells, pages and area of a slot that leaves for good are dropped
abbrev pub dropped_seen : Sight → ℕ → SlotView → Sight
dropped_seen s slot new =
    record s {
      cells = cells_after_scrub slot s.cells;
      slots = slice_set s.slots slot new;
      pages =
          without_pages s.pages slot;
      areas = slice_set s.areas slot None;
    }

-- ---- Guests

-- a guest that leaves does so for good by its end, or to come back; what a stop leaves is told by
-- its signal
abbrev pub left_seen : Sight → ℕ → Outcome → Sight
left_seen s slot (outcome.Left cause.Exit) =
    dropped_seen s slot (record (sight_slot s slot) { state = state.Ended })
left_seen s slot (outcome.Left (cause.Stopped why)) = s
left_seen s slot (outcome.Left other) =
    with_slot s slot
    (record (sight_slot s slot) { epoch = (sight_slot s slot).epoch + 1; state = state.Paused })
left_seen s slot other = s

-- the slot whose guest runs
abbrev pub running_seen : Seen → ℕ
running_seen s = slot_or_none (position (λ (k : SlotView). is_running k.state) s.view.slots)

-- why a guest left, and from which slot, is seen from then on
abbrev pub seen_after_leaving : Seen → ℕ → Outcome → Seen
seen_after_leaving s slot (outcome.Left why) = record s { view = record s.view { cause = why; who = slot } }
seen_after_leaving s slot other = s

-- ---- Operations

-- where a register is sealed
abbrev pub seal_address : Op → ℕ
seal_address (Save slot reg address) = address
seal_address other = 0

-- the guest of an envelope, under the next install number
abbrev pub installed_slot : ℕ → List ℕ → SlotView
installed_slot install text = record {
  state = state.Fresh;
  install = install;
  id = record { 0 = id_in text };
  entry = entry_of_envelope text;
  lines = lines_in text;
  mask = 0;
  epoch = 0;
  signal_ready = false;
}

-- ---- Null code: it runs over what is seen, and sees no more than the kernel does

-- what null code is told
abbrev pub told_seen : Seen → Told
told_seen s = record { status = s.view.status; cause = s.view.cause; who = s.view.who }

-- what null code may change
abbrev pub open_seen : Seen → Open
open_seen s = record { cells = s.view.cells; ram = s.view.ram; pc = s.pc; npc = s.npc }

-- what is seen once null code has changed that
abbrev pub with_open_seen : Seen → Open → Seen
with_open_seen s new = record s {
  view = record s.view { cells = new.cells; ram = new.ram };
  pc =
      new.pc;
  npc = new.npc;
}

-- ---- Writes and counts

-- what is seen once these bytes were written to RAM; outside RAM nothing is
abbrev pub poked_seen : Seen → ℕ → List ℕ → Seen
poked_seen s address bytes =
    record s { view = record s.view { ram = ram_after_write s.view.ram address bytes } }

-- what is seen once the event is counted, with this status
abbrev pub counted_seen : Seen → ℕ → Seen
counted_seen s status =
    record s { view = record s.view { status = status; events = s.view.events + 1 } }

-- ---- Signals, and whole events

module _ (v : Versions) (raised : Raised) where
  -- ---- Signals

  -- a line's version is raised in its area, and what was sealed goes to its frame
  abbrev pub line_seen : Sight → ℕ → ℕ → List ℕ → List ℕ → List ℕ
  line_seen s slot line ct tag =
      with_sealed (raised (slice_index_or s.areas slot None) line s.ram)
      (frame_of s.pages slot (page_of line)) line (record { ct = ct; tag = tag })

  -- after one signal of an event that runs or names this slot; a register is sealed at this address
  abbrev pub after_signal : ℕ → ℕ → Sight → Signal → Sight
  after_signal slot address s (Made names given end ready) =
      record s {
        cells = with_release (cells_named_for_slot slot s.cells names) given;
        slots = slice_set s.slots slot
            (record (sight_slot s slot) {
              mask = mask_released (mask_named (sight_slot s slot).mask names)
                  given;
              signal_ready = ready;
            });
        ram = given_out s.ram given;
      }
  after_signal slot address s (LineSealed k line ct tag) =
      record s { ram = line_seen s k line ct tag }
  after_signal slot address s (RegisterSealed k reg ct tag) =
      record s { ram = with_saved s.ram address (record { ct = ct; tag = tag }) }
  after_signal slot address s (Broke k why) =
      dropped_seen s k (record (sight_slot s k) { state = state.Stopped why })

  -- after all the signals of an event, in their order
  abbrev pub after_signals : ℕ → ℕ → Sight → List Signal → Sight
  after_signals slot address s [] = s
  after_signals slot address s (first ∷ signals) =
      after_signals slot address (after_signal slot address s first) signals

  -- ---- Guests

  -- what is seen after an event of the guest in a slot
  abbrev pub guest_seen : Seen → ℕ → Emission → Seen
  guest_seen s slot m =
      seen_after_leaving
      (with_sight s (left_seen (after_signals slot 0 (sight_in s) m.signals) slot m.outcome)) slot
      m.outcome

  -- ---- Operations

  -- what an operation that was done changes beside what it signals
  abbrev pub done_seen : Sight → Op → Sight
  done_seen s (Install slot place area) =
      let text = bytes_at s.ram place envelope_size in
      record s {
        slots = slice_set s.slots slot (installed_slot (s.installs + 1) text);
        areas = slice_set s.areas slot (v.store_after_build area (lines_in text) s.ram).area;
        ram = v.ram_after_build area (lines_in text) s.ram;
        installs = s.installs + 1;
      }
  done_seen s (Enter slot) = with_slot s slot (record (sight_slot s slot) { state = state.Running })
  done_seen s (Resume slot signal) =
      with_slot s slot (record (sight_slot s slot) { state = state.Running })
  done_seen s (Save slot reg address) = s
  done_seen s (Restore slot reg address) = record s { cells = slice_set s.cells reg (hidden_cell slot) }
  done_seen s (Map slot page frame) = record s { pages = with_page s.pages slot page (Some frame) }
  done_seen s (Unmap slot page) = record s { pages = with_page s.pages slot page None }
  done_seen s (SetReg reg value) = record s { cells = with_cell s.cells reg value 0 }
  done_seen s (Kill slot) = dropped_seen s slot (shown_slot free)
  done_seen s (Out byte) = s
  done_seen s Halt = s

  -- an operation: what it signals, and with status 0 what it does
  abbrev pub operated_seen : Sight → Op → Emission → Sight
  operated_seen s op m =
      let after = after_signals (slot_named op) (seal_address op) s m.signals in
      if m.status == 0 then done_seen after op else after

  -- ---- Every event

  -- what is seen after the operation that null code asked for, if it asked for one
  abbrev pub asked_seen : Seen → Result (Option Op) NullFault → Emission → Seen
  asked_seen s (Err why) m = s
  asked_seen s (Ok None) m = s
  asked_seen s (Ok (Some op)) m = with_sight s (operated_seen (sight_in s) op m)

  -- what is seen after an instruction of null code, of what that left and asked for
  abbrev pub null_seen : Seen → Answer → Emission → Seen
  null_seen s answer m = asked_seen (with_open_seen s answer.0) answer.1 m

  -- what is seen after an event, before it is counted
  abbrev pub turn_seen : Seen → Event → List ℕ → Emission → Seen
  turn_seen s (event.Do op) chunk m = with_sight s (operated_seen (sight_in s) op m)
  turn_seen s (event.Guest interrupt) chunk m = guest_seen s (running_seen s) m
  turn_seen s event.Null chunk m = null_seen s (null_step (told_seen s) (open_seen s)) m
  turn_seen s (event.Write address count) chunk m = poked_seen s address (take count chunk)
  turn_seen s (event.Poke address count) chunk m = poked_seen s address (take count chunk)

  -- what is seen after an event, of what was seen before it, the event, the chunk with its bytes,
  -- and its emission
  unfoldable pub seen_next : Seen → Event → List ℕ → Emission → Seen
  seen_next s e chunk m = counted_seen (turn_seen s e chunk m) m.status
