-- A run as it is seen from outside: its events, and what is seen of the machine after each.
use Rattle.std.specs.Prelude.{ℕ, zero, suc, ◌+◌, ◌&&◌, ◌||◌, nat_le, not, is_some, Bool, true, false, if◌then◌else◌, List, [], ◌∷◌, ◌++◌, length, Option, Some, None, option_map}
use Rattle.std.specs.List.{position}
use Rattle.session_table.specs.declared.session.SlotView.{SlotView}
use Rattle.session_table.specs.Sessions.{is_running}
use Rattle.xom_base.specs.declared.event.Event.{Event}
use Rattle.xom_base.specs.declared.event.Event.TheVariants as event
use Rattle.xom_base.specs.declared.schedule.Poke.{Poke}
use Rattle.xom_base.specs.declared.schedule.Schedule.{Schedule}
use Rattle.xom_versions.specs.Versions.{Versions}
use Rattle.xom_model.specs.declared.outcome.Turn.{Turn}
use Rattle.xom_model.specs.Event.{on, running_slot}
use Rattle.xom_model.specs.Run.{event_of, is_flagged, poke_at}
use Rattle.xom_model.specs.Seen.{View, view_of}
use Rattle.xom_model.specs.State.{Record}
use Rattle.xom_machine.specs.Runs.{Made, guests_in}

-- an event, and what is seen of the machine after it
pub record Moment : Type 0 where
  pub event : Event
  pub view : View

-- ---- A guest that leaves

-- the event is one of the guest that runs
abbrev pub is_guest : Event → Bool
is_guest (event.Guest interrupt) = true
is_guest (event.Do op) = false
is_guest event.Null = false
is_guest (event.Write address count) = false
is_guest (event.Poke address count) = false

-- whether a guest runs
abbrev pub is_guest_running : View → Bool
is_guest_running view = is_some (position (λ (shown : SlotView). is_running shown.state) view.slots)

-- A guest left: the event was its own, and none runs after it. So it is where it traps, where it
-- ends by `xexit`, and where it is stopped.
abbrev pub has_left : Event → View → Bool
has_left e view = is_guest e && not (is_guest_running view)

-- ---- The moments of a run

module _ (v : Versions) where
  -- of these events, from a record on
  abbrev pub moments : Record → List Made → List Moment
  moments r [] = []
  moments r (first ∷ events) =
      let next : Record = (on v r first.0 first.1).0 in
      record { event = first.0; view = view_of next } ∷ moments next events

-- a run is over where the kernel halted it or null code faulted, and where the events reached the
-- budget
abbrev pub is_run_over : ℕ → Record → Bool
is_run_over budget r = r.halted || nat_le budget r.events

-- Where a kernel tells its turns, the moments of its run are a function of where it begins.
module _ (v : Versions) {K : Type 0} (told : K → View → Option (Turn × (List ℕ × K)))
    (schedule : Schedule) where
  -- the turn of a kernel as an event, with the kernel afterwards
  abbrev pub made_of_turn : Turn × (List ℕ × K) → Made × K
  made_of_turn t = ((event_of t.0, t.1.0), t.1.1)

  -- the next event: of the guest where one runs, else the kernel's turn
  abbrev pub own_next : ℕ → Record → K → Option ℕ → Option (Made × K)
  own_next guests r k (Some slot) =
      Some ((event.Guest (is_flagged schedule.interrupts (guests + 1)), []), k)
  own_next guests r k None = option_map made_of_turn (told k (view_of r))

  -- the write of the bus that is listed for its number, else one of the machine's own
  abbrev pub next_made : ℕ → Record → K → Option Poke → Option (Made × K)
  next_made guests r k (Some poke) =
      Some ((event.Poke poke.address (length poke.bytes), poke.bytes), k)
  next_made guests r k None = own_next guests r k (running_slot r)

  -- how a run goes on: guest events so far, record and kernel
  abbrev pub NextMoments : Type 0
  NextMoments = ℕ → Record → K → Option (List Moment)

  -- the moment of an event, and those behind it
  abbrev pub with_made : NextMoments → ℕ → Record → Option (Made × K) → Option (List Moment)
  with_made next guests r None = None
  with_made next guests r (Some (made, k)) =
      let after : Record = (on v r made.0 made.1).0 in
      option_map (λ more. record { event = made.0; view = view_of after } ∷ more)
      (next (guests + guests_in made.0) after k)

  -- the moments of at most so many events, or up to Halt or a kernel fault; none where the kernel
  -- doesn't tell a turn
  unfoldable pub moments_from : ℕ → NextMoments
  moments_from zero guests r k = Some []
  moments_from (suc n) guests r k =
      if r.halted then Some [] else with_made (moments_from n) guests r
      (next_made guests r k (poke_at schedule.pokes (r.events + 1)))
