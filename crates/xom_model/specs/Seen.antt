-- What a kernel is told of the machine, and what else is known of it without a key: no value of
-- another compartment, and no private byte.
use Rattle.std.specs.Prelude.{ℕ, ◌==◌, List, Option, Some, None, map, slice_get, if◌then◌else◌}
use Rattle.std.specs.List.{range_with_len}
use Rattle.xom_base.specs.declared.event.Cause.{Cause}
use Rattle.xom_base.specs.Sizes.{compartment_count}
use Rattle.mips_plain.specs.Instruction.{is_signal_ready}
use Rattle.page_map.specs.Pages.{Pages}
use Rattle.tag_regs.specs.declared.cell.Cell.{Cell}
use Rattle.session_table.specs.declared.session.Session.{Session}
use Rattle.session_table.specs.declared.session.SlotView.{SlotView}
use Rattle.session_table.specs.Sessions.{is_live}
use Rattle.xom_model.specs.State.{CoreState, Record, session_of, store_of}

-- what a kernel is told before each turn
pub record View : Type 0 where
  pub cells : List Cell
  pub slots : List SlotView
  pub status : ℕ
  pub cause : Cause
  pub who : ℕ
  pub ram : List ℕ
  pub events : ℕ

-- a slot's cell shows its tag alone
abbrev pub shown_cell : Cell → Cell
shown_cell cell = if cell.tag == 0 then cell else record { value = 0; tag = cell.tag }

-- no key, and not where the guest stands
abbrev pub shown_slot : Session → SlotView
shown_slot s = record {
  state = s.state;
  install = s.install;
  id = s.id;
  entry = s.entry;
  lines =
      s.lines;
  mask = s.mask;
  epoch = s.epoch;
  signal_ready = is_signal_ready s.handler s.saved;
}

-- what a kernel is told of the machine
unfoldable pub view_of : Record → View
view_of r = record {
  cells = map shown_cell r.core.cells;
  slots = map shown_slot r.core.sessions;
  status = r.status;
  cause = r.cause;
  who = r.who;
  ram = r.core.ram;
  events = r.events;
}

-- the value of a cell of the null compartment
abbrev pub open_cell : Cell → Option ℕ
open_cell cell = if cell.tag == 0 then Some cell.value else None

-- a byte of RAM, none outside it
abbrev pub ram_byte : View → ℕ → Option ℕ
ram_byte view address = slice_get view.ram address

-- what is seen of the machine: what a kernel is told, the null pair, the page map, the last install
-- number, and the areas of the live slots whose stores keep one
pub record Seen : Type 0 where
  pub view : View
  pub pc : ℕ
  pub npc : ℕ
  pub pages : Pages
  pub installs : ℕ
  pub areas : List (Option ℕ)

-- the area of a slot's version store, where the slot is live
abbrev pub area_of : CoreState → ℕ → Option ℕ
area_of core slot = if is_live (session_of core slot).state then (store_of core slot).area else None

-- what is seen of the machine
unfoldable pub seen_of : Record → Seen
seen_of r = record {
  view = view_of r;
  pc = r.pc;
  npc = r.npc;
  pages = r.core.pages;
  installs = r.core.installs;
  areas = map (area_of r.core) (range_with_len 0 compartment_count);
}
