-- What is true of the whole machine at every moment between events, so that each entry that comes
-- next keeps the rules of the journal's text.
use Rattle.std.specs.Prelude.{◌≡◌, ℕ, ◌<◌, ◌≤◌, ◌^◌, true, false, List, [], ◌∷◌, All, IfSome, Err, length}
use Rattle.hex.specs.Hex.{IsBytes}
use Rattle.xom_base.specs.declared.entry.Entry.{Entry}
use Rattle.xom_base.specs.declared.event.Op.{Op}
use Rattle.xom_base.specs.declared.event.Op.TheVariants.{Install, Enter, Resume, Save, Restore, Map, Unmap, SetReg, Kill, Out, Halt}
use Rattle.xom_base.specs.Sizes.{compartment_count, id_size}
use Rattle.journal_text.specs.JournalLines.{last_behind}
use Rattle.journal_round_trip.specs.KeepsRules.{CameBefore, Is32Bit, KeepsJournalRules, KeepsPayload}
use Rattle.line_cache.specs.declared.way.Way.{Way}
use Rattle.line_cache.specs.Ways.{way_at}
use Rattle.tag_regs.specs.declared.cell.Cell.{Cell}
use Rattle.session_table.specs.declared.session.Session.{Session}
use Rattle.session_table.specs.Sessions.{is_live, session_at}
use Rattle.xom_versions.specs.declared.store.Torn.{Torn}
use Rattle.xom_versions.specs.Store.{HoldsArea, Store, line_limit}
use Rattle.xom_versions.specs.Versions.{Versions}
use Rattle.xom_model.specs.State.{CoreState, Record, store_of}
use Rattle.xom_model.specs.Operation.{is_free_state}
use Rattle.xom_model.specs.Null.{cause_argument}
use Rattle.xom_model.specs.Holds.{FramesFit}

-- ---- Operations

-- the numbers of an operation have 32 bits, and a byte for the console is one
abbrev pub IsShortOp : Op → Type 0
IsShortOp (Install slot envelope area) = Is32Bit slot × Is32Bit envelope × Is32Bit area
IsShortOp (Enter slot) = Is32Bit slot
IsShortOp (Resume slot signal) = Is32Bit slot × Is32Bit signal
IsShortOp (Save slot reg address) = Is32Bit slot × Is32Bit reg × Is32Bit address
IsShortOp (Restore slot reg address) = Is32Bit slot × Is32Bit reg × Is32Bit address
IsShortOp (Map slot page frame) = Is32Bit slot × Is32Bit page × Is32Bit frame
IsShortOp (Unmap slot page) = Is32Bit slot × Is32Bit page
IsShortOp (SetReg reg value) = Is32Bit reg × Is32Bit value
IsShortOp (Kill slot) = Is32Bit slot
IsShortOp (Out byte) = byte < 256
IsShortOp Halt = Unit {0}

-- ---- Version stores

-- A kind of version store hashes only texts that may stand in a journal, leaves bytes in RAM, and
-- names the level of a torn block by a byte.
pub record StoresKeepRules (v : Versions) : Type 0 where
  pub texts_of_build : (area lines : ℕ) (ram : List ℕ) → IsBytes ram
      → All (KeepsPayload 260) (v.texts_of_build area lines ram)
  pub texts_of_version : (store : Store) (line : ℕ) (ram : List ℕ) → IsBytes ram
      → All (KeepsPayload 260) (v.texts_of_version store line ram)
  pub texts_of_raise : (store : Store) (line : ℕ) (ram : List ℕ) → IsBytes ram
      → All (KeepsPayload 260) (v.texts_of_raise store line ram)
  pub ram_after_build : (area lines : ℕ) (ram : List ℕ) → IsBytes ram
      → IsBytes (v.ram_after_build area lines ram)
  pub ram_after_raise : (store : Store) (line : ℕ) (ram : List ℕ) → IsBytes ram
      → IsBytes (v.ram_after_raise store line ram)
  pub level_of_version : (store : Store) (line : ℕ) (ram : List ℕ) (torn : Torn)
      → v.answer_of_version store line ram ≡ Err torn → torn.level < 2 ^ 8
  pub level_of_raise : (store : Store) (line : ℕ) (ram : List ℕ) (torn : Torn)
      → v.answer_of_raise store line ram ≡ Err torn → torn.level < 2 ^ 8
  -- before any guest no area is taken
  pub no_area : (ram : List ℕ) → HoldsArea ram v.blank_store

-- ---- The parts of the machine

-- the number of the last install behind these entries, where it was this before them
abbrev pub last_install_behind : ℕ → List Entry → ℕ
last_install_behind last [] = last
last_install_behind last (e ∷ entries) = last_install_behind (last_behind last e) entries

-- the number of the last install of a whole journal, 0 where there is none
abbrev pub last_install : List Entry → ℕ
last_install entries = last_install_behind 0 entries

-- both addresses of a pair have 32 bits
abbrev pub IsShortPair : ℕ × ℕ → Type 0
IsShortPair pair = Is32Bit pair.0 × Is32Bit pair.1

-- a session's addresses have 32 bits, its id and key have bytes, and the install of a slot that
-- isn't free was made, where the last one has this number
pub record IsSoundSession (last : ℕ) (s : Session) : Type 0 where
  pub entry : Is32Bit s.entry
  pub pc : Is32Bit s.pc
  pub npc : Is32Bit s.npc
  pub handler : Is32Bit s.handler
  pub saved : IfSome s.saved IsShortPair
  pub id : IsBytes s.id.0
  pub id_length : length s.id.0 ≤ id_size
  pub key : KeepsPayload 96 s.key.0
  pub install : is_free_state s.state ≡ false → CameBefore last s.install

-- a cell's value has 32 bits
abbrev pub IsShortCell : Cell → Type 0
IsShortCell cell = Is32Bit cell.value

-- a way of the cache has bytes, of a line that a guest has, and what is still to be written back is
-- of a live slot
pub record IsSoundWay (sessions : List Session) (way : Way) : Type 0 where
  pub bytes : IsBytes way.bytes
  pub line : way.line < line_limit
  pub live : way.dirty ≡ true → is_live (session_at sessions way.slot).state ≡ true

-- ---- The whole

-- the journal keeps the rules of its text, and the processor is ready for the next entry
pub record RulesHold (core : CoreState) : Type 0 where
  -- the last install of the journal has the processor's number
  pub journal : KeepsJournalRules core.entries
  pub last : last_install core.entries ≡ core.installs
  -- what an entry may be made of is in its range
  pub machine : KeepsPayload 96 core.machine.0
  pub sessions : All (IsSoundSession core.installs) core.sessions
  pub places : length core.sessions ≤ compartment_count
  pub cells : All IsShortCell core.cells
  pub ways : (place : ℕ) → IsSoundWay core.sessions (way_at core.ways place)
  -- RAM has bytes, its addresses have 32 bits, and what is to lie in it does
  pub ram : IsBytes core.ram
  pub size : length core.ram ≤ 2 ^ 32
  pub frames : FramesFit core.pages core.ram
  pub areas : (slot : ℕ) → HoldsArea core.ram (store_of core slot)

-- so it is of the whole record, and what null code can ask for has 32 bits
pub record RecordKeepsRules (r : Record) : Type 0 where
  pub core : RulesHold r.core
  pub npc : Is32Bit r.npc
  pub status : Is32Bit r.status
  pub cause : Is32Bit (cause_argument r.cause)
  pub who : Is32Bit r.who
