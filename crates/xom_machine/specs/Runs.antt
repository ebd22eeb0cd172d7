-- What comes next in a run, and what a run has come to.
use Rattle.std.specs.Prelude.{◌≡◌, ℕ, ◌+◌, ◌*◌, ◌<◌, ◌≤◌, true, false, List, [], ◌∷◌, length, take, Option, Some, None, IfSome}
use Rattle.xom_base.specs.declared.event.Event.{Event}
use Rattle.xom_base.specs.declared.event.Event.TheVariants as event
use Rattle.xom_base.specs.declared.schedule.Poke.{Poke}
use Rattle.xom_base.specs.declared.schedule.Schedule.{Schedule}
use Rattle.xom_versions.specs.Versions.{Versions}
use Rattle.xom_model.specs.declared.outcome.RunEnd.{RunEnd}
use Rattle.xom_model.specs.declared.outcome.RunEnd.TheVariants.{Halted, KernelFault, Budget, NoMemory}
use Rattle.xom_model.specs.declared.outcome.Turn.{Turn}
use Rattle.xom_model.specs.Event.{fits, on, running_slot}
use Rattle.xom_model.specs.Run.{event_of, is_flagged, poke_at, run_from}
use Rattle.xom_model.specs.Seen.{View, view_of}
use Rattle.xom_model.specs.State.{Record}
use Rattle.xom_private.specs.declared.parts.TheConstants.{EVENT_ROOM}
use Rattle.xom_machine.specs.Whole.{WholeMachine}

-- ---- Events alone

-- the bytes of an event: of a write so many as it says, the first of the chunk
abbrev pub bytes_of_event : Event → List ℕ → List ℕ
bytes_of_event (event.Write address count) chunk = take count chunk
bytes_of_event (event.Poke address count) chunk = take count chunk
bytes_of_event (event.Do op) chunk = []
bytes_of_event (event.Guest interrupt) chunk = []
bytes_of_event event.Null chunk = []

-- 1 for a guest event
abbrev pub guests_in : Event → ℕ
guests_in (event.Guest interrupt) = 1
guests_in (event.Do op) = 0
guests_in event.Null = 0
guests_in (event.Write address count) = 0
guests_in (event.Poke address count) = 0

-- an event with the chunk that it came with
abbrev pub Made : Type 0
Made = Event × List ℕ

-- how many of the events are guest events
abbrev pub guest_events_in : List Made → ℕ
guest_events_in [] = 0
guest_events_in (first ∷ events) = guests_in first.0 + guest_events_in events

module _ (schedule : Schedule) where
  -- Whose turn it is: that of the write of the bus that is listed for the event's number, else of
  -- the guest that runs, with its flag by its number among guest events, else of the kernel, which
  -- may ask for anything.
  abbrev pub IsDueWhere : ℕ → Event → List ℕ → Option Poke → Option ℕ → Type 0
  IsDueWhere guests e chunk (Some poke) at =
      (e ≡ event.Poke poke.address (length poke.bytes)) × (bytes_of_event e chunk ≡ poke.bytes)
  IsDueWhere guests e chunk None (Some slot) =
      e ≡ event.Guest (is_flagged schedule.interrupts (guests + 1))
  IsDueWhere guests e chunk None None = (t : Turn) × (e ≡ event_of t)

  -- so it is of the event that comes where so many guest events came before
  abbrev pub IsDue : ℕ → Record → Event → List ℕ → Type 0
  IsDue guests r e chunk =
      IsDueWhere guests e chunk (poke_at schedule.pokes (r.events + 1)) (running_slot r)

  -- the last record comes from the first by these events: each may come where it does, and it is
  -- its turn
  abbrev pub IsRun : Versions → ℕ → Record → List Made → Record → Type 0
  IsRun v guests r [] last = last ≡ r
  IsRun v guests r (first ∷ events) last =
      (fits r first.0 ≡ true) × IsDue guests r first.0 first.1
      × IsRun v (guests + guests_in first.0) (on v r first.0 first.1).0 events last

-- ---- Events of a kernel that may tell its turns
module _ {K : Type 0} (told : K → View → Option (Turn × (List ℕ × K))) (schedule : Schedule) where
  -- the event is the kernel's turn, with its bytes first in the chunk, and that is its state then,
  -- where it tells its turn
  abbrev pub IsTold : Record → K → Event → List ℕ → K → Type 0
  IsTold r k e chunk k' =
      IfSome (told k (view_of r))
      (λ t. (e ≡ event_of t.0) × (bytes_of_event e chunk ≡ bytes_of_event e t.1.0) × (k' ≡ t.1.1))

  -- whose turn it is; the kernel is asked only where it is the kernel's
  abbrev pub IsNextWhere : ℕ → Record → K → Event → List ℕ → K → Option Poke → Option ℕ → Type 0
  IsNextWhere guests r k e chunk k' (Some poke) at =
      IsDueWhere schedule guests e chunk (Some poke) at × (k' ≡ k)
  IsNextWhere guests r k e chunk k' None (Some slot) =
      IsDueWhere schedule guests e chunk None (Some slot) × (k' ≡ k)
  IsNextWhere guests r k e chunk k' None None =
      IsDueWhere schedule guests e chunk None None × IsTold r k e chunk k'

  -- the event that comes next, with its chunk, where so many guest events came before, and the
  -- kernel's state then
  abbrev pub IsNext : ℕ → Record → K → Event → List ℕ → K → Type 0
  IsNext guests r k e chunk k' =
      IsNextWhere guests r k e chunk k' (poke_at schedule.pokes (r.events + 1)) (running_slot r)

  module _ (v : Versions) where
    -- one event of a run, on the machine with its room
    pub record WentOn (guests : ℕ) (m : WholeMachine) (k : K) (guests' : ℕ) (m' : WholeMachine) (k' : K) : Type
        0 where
      pub event : Event
      pub chunk : List ℕ
      pub fits : fits m.state event ≡ true
      pub next : IsNext guests m.state k event chunk k'
      pub state : m'.state ≡ (on v m.state event chunk).0
      pub counts : guests' ≡ guests + guests_in event
      pub room : m.spare ≤ m'.spare + EVENT_ROOM

    -- what a run from (first, k0) has come to after so many events, guest events among them
    pub record SoFar (first : WholeMachine) (k0 : K) (count guests : ℕ) (m : WholeMachine) (k : K) : Type 0 where
      pub events : List Made
      pub made : IsRun schedule v 0 first.state events m.state
      pub all : length events ≡ count
      pub guests_are : guests ≡ guest_events_in events
      pub few : guests ≤ count
      pub counted : m.state.events ≡ count
      -- where the kernel tells its turns, so many more events lead to the record to which all of
      -- them lead
      pub turns : (more : ℕ)
          → IfSome (run_from v told schedule (count + more) 0 first.state k0)
          (λ r. run_from v told schedule more guests m.state k ≡ Some r)
      pub room : first.spare ≤ m.spare + count * EVENT_ROOM

    -- how a run ends, within so many events
    abbrev pub EndsBy : ℕ → ℕ → WholeMachine → RunEnd → Type 0
    EndsBy budget count m Halted =
        (count ≤ budget) × (m.state.halted ≡ true) × (m.state.fault ≡ None)
    EndsBy budget count m (KernelFault at why) =
        (count ≤ budget) × (m.state.halted ≡ true) × (m.state.fault ≡ Some (at, why))
    EndsBy budget count m Budget = (count ≡ budget) × (m.state.halted ≡ false)
    EndsBy budget count m NoMemory =
        (count < budget) × (m.state.halted ≡ false) × (m.spare < EVENT_ROOM)

    -- a whole run
    pub record Ran (budget : ℕ) (first : WholeMachine) (k0 : K) (end : RunEnd) (last : WholeMachine) : Type
        0 where
      pub guests : ℕ
      pub kernel : K
      pub so_far : SoFar first k0 last.state.events guests last kernel
      pub ends : EndsBy budget last.state.events last end
