-- What an event leaves of the slots that it is not about.
use Rattle.std.specs.Prelude.{ℕ, ◌≡◌, ◌≢◌, ◌<◌, ◌^◌, true, List}
use Rattle.xom_base.specs.declared.event.Event.{Event}
use Rattle.xom_model.specs.Honest.{seals_of}
use Rattle.xom_versions.specs.Versions.{Versions}
use Rattle.page_map.specs.Pages.{frame_of}
use Rattle.line_cache.specs.Ways.{way_at}
use Rattle.xom_model.specs.State.{CoreState, Record, session_of, store_of}
use Rattle.xom_model.specs.Event.{on}
use Rattle.xom_model.specs.Counts.{AreCounted}
use Rattle.xom_model.specs.Named.{install_seals}
use Rattle.xom_model.specs.Stops.{IsTaken, StopsHold}
use Rattle.xom_model.specs.Touched.{slot_of_event}

-- no line of the slot was written back: each one that stood dirty in the cache still stands there
-- as it was
abbrev pub NoneWrittenBack : CoreState → CoreState → ℕ → Type 0
NoneWrittenBack core new slot =
    (place : ℕ) → (way_at core.ways place).slot ≡ slot → (way_at core.ways place).dirty ≡ true
    → way_at new.ways place ≡ way_at core.ways place

-- The slot has its session, its version store and its pages, and nothing more is sealed of its
-- guest, line or register.
pub record IsLeftAlone (core new : CoreState) (slot : ℕ) : Type 0 where
  pub session : session_of new slot ≡ session_of core slot
  pub store : store_of new slot ≡ store_of core slot
  pub pages : (page : ℕ) → frame_of new.pages slot page ≡ frame_of core.pages slot page
  pub seals : IsTaken core slot
      → install_seals (session_of core slot).install (seals_of new.entries) ≡ install_seals
      (session_of core slot).install (seals_of core.entries)

-- A line of the slot that is cached afterwards was cached so before; and where none of its lines
-- was written back, the slot is left alone.
pub record StaysAside (core new : CoreState) (slot : ℕ) : Type 0 where
  pub lines : (place : ℕ) → (way_at new.ways place).slot ≡ slot
      → way_at new.ways place ≡ way_at core.ways place
  pub alone : NoneWrittenBack core new slot → IsLeftAlone core new slot

-- so it is of each slot that an event neither runs nor names
abbrev pub EventsLeaveOthers : Type 0
EventsLeaveOthers = (v : Versions) (r : Record) (e : Event) (bytes : List ℕ) → r.events < 2 ^ 63
    → AreCounted r.core r.events → StopsHold r.core
    → (slot : ℕ) → slot ≢ 0 → slot ≢ slot_of_event r e
    → StaysAside r.core (on v r e bytes).0.core slot
