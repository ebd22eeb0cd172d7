-- What a trap without retirement leaves: it changes no cell and no private byte of its guest.
use Rattle.std.specs.Prelude.{ℕ, ◌≡◌, ◌≢◌, ◌⊎◌, Bool, true, false, All, List, [], ◌∷◌, ◌++◌, Some}
use Rattle.xom_base.specs.declared.entry.Entry.{Entry}
use Rattle.xom_base.specs.declared.entry.Entry.TheVariants as entry
use Rattle.xom_base.specs.declared.event.Cause.{Cause}
use Rattle.xom_base.specs.declared.event.Cause.TheVariants as cause
use Rattle.xom_base.specs.declared.event.Event.{Event}
use Rattle.xom_model.specs.declared.outcome.Outcome.TheVariants as outcome
use Rattle.tag_regs.specs.TaggedCells.{cell_at}
use Rattle.session_table.specs.Sessions.{session_after_pause}
use Rattle.xom_versions.specs.Versions.{Versions}
use Rattle.line_cache.specs.declared.way.Way.{Way}
use Rattle.line_cache.specs.Ways.{way_at}
use Rattle.xom_model.specs.State.{CoreState, Record, session_of}
use Rattle.xom_model.specs.Lines.{seal_entry, who_of}
use Rattle.xom_model.specs.Guest.{guest}
use Rattle.xom_model.specs.Holds.{IsOf, IsRunning}
use Rattle.xom_model.specs.Event.{on}
use Rattle.xom_model.specs.Named.{HasOne}
use Rattle.xom_model.specs.Stops.{StopsHold}
use Rattle.xom_model.specs.Touched.{slot_of_event}

-- the guest left with no instruction retired: a page isn't mapped, or the instruction faults
abbrev pub IsQuiet : Cause → Type 0
IsQuiet (cause.Page page) = Unit {0}
IsQuiet (cause.Fault why) = Unit {0}
IsQuiet other = ⊥

-- the entry is the Seal of a way's line, for its slot, under some version and with the way's bytes
abbrev pub SealsWay : CoreState → Way → Entry → Type 0
SealsWay core way e =
    (version : ℕ) × (e ≡ seal_entry (who_of core way.slot) way.line version way.bytes)

-- what may be recorded before such a trap: a Seal of a line that stood dirty in the cache before
-- the event, with the bytes that it had there; what was accepted and hashed; and a Stop of another
-- slot
abbrev pub MayPrecede : CoreState → ℕ → Entry → Type 0
MayPrecede core slot (entry.Seal key message) =
    (place : ℕ)
    × (((way_at core.ways place).dirty ≡ true) × SealsWay core (way_at core.ways place)
    (entry.Seal key message))
MayPrecede core slot (entry.Accept key message place) = Unit {0}
MayPrecede core slot (entry.Hash text digest) = Unit {0}
MayPrecede core slot (entry.Stop install rule) =
    (other : ℕ) × ((other ≢ slot) × ((session_of core other).install ≡ install))
MayPrecede core slot other = ⊥

-- a line of the slot that stands in a place stood there with the same bytes and mark, or wasn't
-- cached
abbrev pub IsAsCached : CoreState → CoreState → ℕ → ℕ → Type 0
IsAsCached core new slot place =
    (way_at new.ways place ≡ way_at core.ways place)
    ⊎ ((other : ℕ) → ¬ IsOf (way_at core.ways other) slot (way_at new.ways place).line)

-- a line that stood in a place still does, or was clean, or one of the entries is its Seal, with
-- the bytes that it had
abbrev pub IsKeptOrSealed : CoreState → CoreState → List Entry → ℕ → Type 0
IsKeptOrSealed core new more place =
    (way_at new.ways place ≡ way_at core.ways place) ⊎ (((way_at core.ways place).dirty ≡ false)
    ⊎ HasOne (SealsWay core (way_at core.ways place)) more)

-- A trap that changes nothing of its guest but that it waits.
pub record TrapsQuietly (core new : CoreState) (slot : ℕ) (why : Cause) : Type 0 where
  -- it goes on where it was
  pub session : session_of new slot ≡ session_after_pause (session_of core slot)
  -- no cell of it changes, and none becomes its own
  pub cells : (reg : ℕ) → (cell_at core.cells reg).tag ≡ slot
      → cell_at new.cells reg ≡ cell_at core.cells reg
  pub others : (reg : ℕ) → (cell_at new.cells reg).tag ≡ slot
      → cell_at new.cells reg ≡ cell_at core.cells reg
  -- a line that was cached and still is has its bytes as before
  pub lines : (place : ℕ) → (way_at new.ways place).slot ≡ slot → IsAsCached core new slot place
  -- the trap is recorded, and no step; what was written back was sealed with the bytes that it had
  pub more : List Entry
  pub entries : new.entries ≡ core.entries ++ (more ++ entry.Trap (session_of core slot).install why
      ∷ [])
  pub precede : All (MayPrecede core slot) more
  -- and no dirty line of it left the cache unsealed
  pub left : (place : ℕ) → (way_at core.ways place).slot ≡ slot → IsKeptOrSealed core new more place

-- so it is of the event of a guest that runs
abbrev pub TrapsChangeNothing : Type 0
TrapsChangeNothing = (v : Versions) (core : CoreState) (slot : ℕ) (interrupt : Bool) (why : Cause)
    → slot ≢ 0 → IsRunning core slot
    → (guest v core slot interrupt).1 ≡ Some why → IsQuiet why
    → TrapsQuietly core (guest v core slot interrupt).0 slot why

-- and of every event of the machine with which a guest leaves so
abbrev pub EventsTrapQuietly : Type 0
EventsTrapQuietly = (v : Versions) (r : Record) (e : Event) (bytes : List ℕ) (why : Cause)
    → StopsHold r.core
    → (on v r e bytes).1 ≡ outcome.Left why → IsQuiet why
    → TrapsQuietly r.core (on v r e bytes).0.core (slot_of_event r e) why
