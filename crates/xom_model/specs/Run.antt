-- A run of the machine under a kernel and a schedule of interrupts and of writes of the bus.
use Rattle.std.specs.Prelude.{ℕ, zero, suc, ◌+◌, ◌%◌, ◌==◌, ◌≤◌, Bool, false, List, [], length, map, min, Option, Some, None, All, if◌then◌else◌}
use Rattle.std.specs.List.{find, list_any}
use Rattle.std.specs.List.Sorted.{IsStrictlyIncreasing}
use Rattle.xom_base.specs.declared.event.Event.{Event}
use Rattle.xom_base.specs.declared.event.Event.TheVariants as event
use Rattle.xom_base.specs.declared.schedule.Interrupts.{Interrupts}
use Rattle.xom_base.specs.declared.schedule.Interrupts.TheVariants as interrupts
use Rattle.xom_base.specs.declared.schedule.Poke.{Poke}
use Rattle.xom_base.specs.declared.schedule.Schedule.{Schedule}
use Rattle.xom_model.specs.declared.outcome.NullFault.{NullFault}
use Rattle.xom_model.specs.declared.outcome.RunEnd.{RunEnd}
use Rattle.xom_model.specs.declared.outcome.RunEnd.TheVariants as end
use Rattle.xom_model.specs.declared.outcome.Turn.{Turn}
use Rattle.xom_model.specs.declared.outcome.Turn.TheVariants as turn
use Rattle.xom_versions.specs.Versions.{Versions}
use Rattle.xom_model.specs.State.{Record}
use Rattle.xom_model.specs.Event.{chunk_size, on, running_slot}
use Rattle.xom_model.specs.Seen.{View, view_of}

-- ---- Schedules

-- the numbers of interrupts are from 1, and those of a list ascend strictly
abbrev pub AreInterrupts : Interrupts → Type 0
AreInterrupts interrupts.Never = Unit {0}
AreInterrupts (interrupts.Every n) = 1 ≤ n
AreInterrupts (interrupts.At numbers) = All (λ n. 1 ≤ n) numbers × IsStrictlyIncreasing numbers

-- a write of the bus comes at some event, and has bytes, no more than a chunk
pub record IsPoke (poke : Poke) : Type 0 where
  pub event : 1 ≤ poke.event
  pub some : 1 ≤ length poke.bytes
  pub few : length poke.bytes ≤ chunk_size

-- the number of the event at which a write of the bus comes
abbrev pub event_number : Poke → ℕ
event_number poke = poke.event

-- the numbers of the writes' events ascend strictly
pub record IsSchedule (schedule : Schedule) : Type 0 where
  pub interrupts : AreInterrupts schedule.interrupts
  pub pokes : All IsPoke schedule.pokes
  pub ascending : IsStrictlyIncreasing (map event_number schedule.pokes)

-- the interrupt line is set at the guest event of this number
abbrev pub is_flagged : Interrupts → ℕ → Bool
is_flagged interrupts.Never n = false
is_flagged (interrupts.Every m) n = n % m == 0
is_flagged (interrupts.At numbers) n = list_any (λ m. m == n) numbers

-- the write of the bus at the event of this number
abbrev pub poke_at : List Poke → ℕ → Option Poke
poke_at pokes n = find (λ (poke : Poke). poke.event == n) pokes

-- ---- Turns

-- the event that a kernel's turn asks for; a length above a chunk's is taken as that
abbrev pub event_of : Turn → Event
event_of (turn.Do op) = event.Do op
event_of (turn.Write address count) = event.Write address (min count chunk_size)
event_of turn.Null = event.Null

-- ---- The run

-- Where the kernel tells its turns, as a function of its own state and of its view of the machine,
-- a run is a function too. A turn comes with the chunk.
module _ (v : Versions) {K : Type 0} (told : K → View → Option (Turn × (List ℕ × K)))
    (schedule : Schedule) where
  -- how a run goes on: guest events so far, record and kernel
  abbrev pub Next : Type 0
  Next = ℕ → Record → K → Option Record

  -- the kernel's turn, if it tells one
  abbrev pub after_turn : Next → ℕ → Record → Option (Turn × (List ℕ × K)) → Option Record
  after_turn next guests r None = None
  after_turn next guests r (Some (t, (chunk, k))) = next guests (on v r (event_of t) chunk).0 k

  -- of the guest where one runs, else the kernel's turn
  abbrev pub own_event : Next → ℕ → Record → K → Option ℕ → Option Record
  own_event next guests r k (Some slot) =
      next (guests + 1) (on v r (event.Guest (is_flagged schedule.interrupts (guests + 1))) []).0 k
  own_event next guests r k None = after_turn next guests r (told k (view_of r))

  -- one event: the write of the bus that is listed for its number, else one of the machine's own
  abbrev pub one_event : Next → ℕ → Record → K → Option Poke → Option Record
  one_event next guests r k (Some poke) =
      next guests (on v r (event.Poke poke.address (length poke.bytes)) poke.bytes).0 k
  one_event next guests r k None = own_event next guests r k (running_slot r)

  -- the record after at most so many events, or up to Halt or a kernel fault; none where the kernel
  -- doesn't tell a turn
  unfoldable pub run_from : ℕ → Next
  run_from zero guests r k = Some r
  run_from (suc n) guests r k =
      if r.halted then Some r else one_event (run_from n) guests r k
      (poke_at schedule.pokes (r.events + 1))

-- ---- How it ended

-- the end of a run that the kernel ended: by Halt, or by a fault
abbrev pub end_by : Option (ℕ × NullFault) → RunEnd
end_by None = end.Halted
end_by (Some (at, why)) = end.KernelFault at why

-- of a run that made as many events as it might: a halt or a fault comes before the budget
abbrev pub end_of_run : Record → RunEnd
end_of_run r = if r.halted then end_by r.fault else end.Budget
