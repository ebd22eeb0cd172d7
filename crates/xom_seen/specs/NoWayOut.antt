-- There is no other way out of the processor than what events emit.
use Rattle.std.specs.Prelude.{◌≡◌, ℕ, true, false, List, length}
use Rattle.xom_base.specs.declared.event.Event.{Event}
use Rattle.xom_base.specs.Sizes.{compartment_count}
use Rattle.session_table.specs.Sessions.{is_live}
use Rattle.xom_versions.specs.Versions.{Raised, RaisesInTheOpen, Versions}
use Rattle.line_cache.specs.Ways.{way_at}
use Rattle.xom_model.specs.declared.outcome.Outcome.{Outcome}
use Rattle.xom_model.specs.State.{CoreState, Record, session_of}
use Rattle.xom_model.specs.Event.{fits, on}
use Rattle.xom_model.specs.Holds.{IsLive}
use Rattle.xom_model.specs.Seen.{seen_of}
use Rattle.xom_model.specs.Stops.{StopsHold}
use Rattle.xom_seen.specs.Emission.{Emission, emission_of_event}
use Rattle.xom_seen.specs.SeenNext.{seen_next}

-- an event gives away what it emits, and no more: what is seen afterwards is told by what was seen
-- before, the event, its bytes and the emission
abbrev pub GivesNoMoreAway : Versions → Raised → Record → Event → List ℕ → Record → Outcome → Type 0
GivesNoMoreAway v raised r e chunk new what =
    seen_of new ≡ seen_next v raised (seen_of r) e chunk (emission_of_event v r e new what)

-- What the law needs of a core, which is true of every machine, whatever its kernel did and whether
-- its journal is honest or not.
pub record IsSettled (core : CoreState) : Type 0 where
  -- the null compartment holds no guest
  pub null : is_live (session_of core 0).state ≡ false
  -- a line that has still to be sealed is one of a live slot
  pub dirty : (place : ℕ) → (way_at core.ways place).dirty ≡ true
      → IsLive core (way_at core.ways place).slot
  -- live slots have different install numbers
  pub apart : (slot other : ℕ) → IsLive core slot → IsLive core other
      → (session_of core slot).install ≡ (session_of core other).install → slot ≡ other
  -- there is a place for each compartment
  pub places : length core.sessions ≡ compartment_count
  pub store_places : length core.stores ≡ compartment_count

-- The law: what is seen after an event is a function of what was seen before, the event, its bytes
-- and its emission, with every kind of version store that hides nothing in RAM.
abbrev pub NoWayOut : Type 0
NoWayOut = (v : Versions) (raised : Raised) → RaisesInTheOpen v raised → (r : Record) (e : Event)
    (chunk : List ℕ)
    → fits r e ≡ true → IsSettled r.core
    → GivesNoMoreAway v raised r e chunk (on v r e chunk).0 (on v r e chunk).1

-- what an event emits with a record
abbrev pub emission_of : Versions → Record → Event → List ℕ → Emission
emission_of v r e chunk = emission_of_event v r e (on v r e chunk).0 (on v r e chunk).1

-- So two machines that look the same, and emit the same with an event, look the same afterwards.
abbrev pub SameSight : Type 0
SameSight = (v : Versions) (raised : Raised) → RaisesInTheOpen v raised → (r s : Record) (e : Event)
    (chunk : List ℕ)
    → fits r e ≡ true → fits s e ≡ true → IsSettled r.core → IsSettled s.core
    → seen_of r ≡ seen_of s → emission_of v r e chunk ≡ emission_of v s e chunk
    → seen_of (on v r e chunk).0 ≡ seen_of (on v s e chunk).0

-- ---- What is true of every machine

-- what is kept about stops, honest or not, with a store for each compartment, is enough
abbrev pub StopsSettle : Type 0
StopsSettle = (core : CoreState) → StopsHold core → length core.stores ≡ compartment_count → IsSettled core

-- and no event makes or drops a store
abbrev pub StoresStay : Type 0
StoresStay =
    (v : Versions) (r : Record) (e : Event) (chunk : List ℕ)
    → length (on v r e chunk).0.core.stores ≡ length r.core.stores
