-- All that the processor keeps, as a record, with the RAM that it works on.
use Rattle.std.specs.Prelude.{ℕ, ◌+◌, ◌/◌, ◌%◌, ◌^◌, Bool, false, List, [], ◌∷◌, ◌++◌, Option, None, length, nat_le, replicate, slice_set, slice_index_or}
use Rattle.xom_base.specs.declared.entry.Entry.{Entry}
use Rattle.xom_base.specs.declared.event.Cause.{Cause}
use Rattle.xom_base.specs.declared.event.Cause.TheVariants as cause
use Rattle.xom_base.specs.declared.key.Key256.{Key256}
use Rattle.xom_base.specs.Sizes.{compartment_count, line_size, page_count}
use Rattle.mips_effect.specs.Effects.{private_bytes}
use Rattle.line_ram.specs.Bytes.{frame_lines}
use Rattle.page_map.specs.Pages.{Pages, nothing_mapped}
use Rattle.line_cache.specs.declared.way.Way.{Way}
use Rattle.line_cache.specs.Ways.{first_pointers, no_ways}
use Rattle.tag_regs.specs.declared.cell.Cell.{Cell}
use Rattle.tag_regs.specs.TaggedCells.{all_empty}
use Rattle.session_table.specs.declared.session.Session.{Session}
use Rattle.session_table.specs.Sessions.{none_held, session_at}
use Rattle.xom_versions.specs.Store.{Store, line_limit, no_store}
use Rattle.xom_versions.specs.Versions.{Versions, with_hashes}
use Rattle.xom_model.specs.declared.outcome.NullFault.{NullFault}

-- the parts that guests and operations change. Lists over compartments have 17 places, of which
-- place 0 is the null compartment's
pub record CoreState : Type 0 where
  pub cells : List Cell
  pub sessions : List Session
  pub stores : List Store
  -- for each compartment the frame of each page that is mapped
  pub pages : Pages
  -- the cache: its ways in the order of their places, and for each set the way that is taken next
  -- where it is full
  pub ways : List Way
  pub pointers : List ℕ
  pub ram : List ℕ
  pub machine : Key256
  pub boot : ℕ
  pub installs : ℕ
  pub entries : List Entry

-- the whole machine: its core, the null pair, the status of the last operation, why and from which
-- slot a guest left last, and the events so far. It goes on until the kernel halts it, or faults:
-- then with the address of the null instruction and its fault
pub record Record : Type 0 where
  pub core : CoreState
  pub pc : ℕ
  pub npc : ℕ
  pub status : ℕ
  pub cause : Cause
  pub who : ℕ
  pub events : ℕ
  pub halted : Bool
  pub fault : Option (ℕ × NullFault)

-- ---- How much private memory a guest has

-- how many bytes a guest's window has, from address 0 on
abbrev pub window_of : Session → ℕ
window_of s = private_bytes

-- how many lines a guest's window has
abbrev pub lines_of_session : Session → ℕ
lines_of_session s = line_limit

-- how many pages a guest's window has
abbrev pub pages_of_session : Session → ℕ
pages_of_session s = page_count

-- the line of an address
abbrev pub line_of_address : ℕ → ℕ
line_of_address address = address / line_size

-- the page of a line
abbrev pub page_of : ℕ → ℕ
page_of line = line / frame_lines

-- ---- RAM

-- a range lies in RAM
abbrev pub ram_holds_range : List ℕ → ℕ → ℕ → Bool
ram_holds_range ram address count = nat_le (address + count) (length ram)

-- ---- The whole

-- the session of a slot
abbrev pub session_of : CoreState → ℕ → Session
session_of core slot = session_at core.sessions slot

-- the version store of a slot
abbrev pub store_of : CoreState → ℕ → Store
store_of core slot = slice_index_or core.stores slot no_store

-- the core at power-on, with these bytes in RAM
abbrev pub core_at_start : Versions → Key256 → ℕ → List ℕ → CoreState
core_at_start v machine boot ram = record {
  cells = all_empty;
  sessions = none_held;
  stores = replicate compartment_count v.blank_store;
  pages = nothing_mapped;
  ways = no_ways;
  pointers = first_pointers;
  ram = ram;
  machine = machine;
  boot = boot;
  installs = 0;
  entries = [];
}

-- the machine at power-on
abbrev pub power_on : Versions → Key256 → ℕ → List ℕ → ℕ → Record
power_on v machine boot ram pc =
    record {
      core = core_at_start v machine boot ram;
      pc = pc;
      npc = (pc + 4) % 2 ^ 32;
      status =
          0;
      cause = cause.Nothing;
      who = 0;
      events = 0;
      halted = false;
      fault = None;
    }

-- the core with other cells
abbrev pub with_cells : CoreState → List Cell → CoreState
with_cells core cells = record core { cells = cells }

-- the core with another session in a slot
abbrev pub core_with_session : CoreState → ℕ → Session → CoreState
core_with_session core slot session = record core { sessions = slice_set core.sessions slot session }

-- the core with another way at a place
abbrev pub core_with_way : CoreState → ℕ → Way → CoreState
core_with_way core place way = record core { ways = slice_set core.ways place way }

-- the core with one more entry
abbrev pub with_entry : CoreState → Entry → CoreState
with_entry core entry = record core { entries = core.entries ++ entry ∷ [] }

-- the core with an entry for each text that was hashed
abbrev pub core_with_hashes : CoreState → List (List ℕ) → CoreState
core_with_hashes core texts = record core { entries = with_hashes core.entries texts }
