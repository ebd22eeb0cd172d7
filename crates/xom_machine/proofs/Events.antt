-- What each event keeps, and what it counts.
use Rattle.std.proofs.Common.{◌≡◌, inl, inr, ◌⊎◌, ℕ, ◌+◌, ◌<◌, ◌^◌, Bool, true, false, not, List, [], length, Option, Some, None, Ok, Err, refl, sym, ◌∙◌, ap, subst, arith}
use Rattle.std.specs.Prelude.{is_some}
use Rattle.std.proofs.lemmas.Bool.{and_parts, cond-false}
use Rattle.std.proofs.lemmas.List.{length-replicate}
use Rattle.xom_base.specs.declared.event.Cause.{Cause}
use Rattle.xom_base.specs.declared.event.Event.{Event}
use Rattle.xom_base.specs.declared.event.Event.TheVariants as event
use Rattle.xom_base.specs.declared.event.Cause.TheVariants as cause
use Rattle.xom_base.specs.declared.event.Op.{Op}
use Rattle.xom_base.specs.declared.event.Op.TheVariants.{Install, Enter, Resume, Save, Restore, Map, Unmap, SetReg, Kill, Out, Halt}
use Rattle.xom_base.specs.declared.event.OwnFault.{OwnFault}
use Rattle.xom_model.specs.declared.outcome.Outcome.TheVariants as outcome
use Rattle.xom_versions.specs.Versions.{VersionLaw, Versions}
use Rattle.xom_model.specs.Versions.{StandsFor}
use Rattle.line_ram.specs.Bytes.{ram_with_bytes}
use Rattle.tag_regs.specs.declared.cell.Cell.{Cell}
use Rattle.xom_base.specs.declared.key.Key256.{Key256}
use Rattle.xom_owners.specs.declared.owner.Owner.{Owner}
use Rattle.xom_model.specs.State.{CoreState, Record, power_on, ram_holds_range}
use Rattle.xom_model.specs.Counts.{AreCounted}
use Rattle.journal_findings.specs.Findings.{sealed_by}
use Rattle.xom_model.specs.Holds.{Holds}
use Rattle.xom_model.specs.Honest.{IsBounded, IsHonest}
use Rattle.xom_model.specs.Laws.{AreOwners, FaultsAlone}
use Rattle.xom_model.specs.Stops.{StopsHold}
use Rattle.xom_model.specs.Event.{after_kernel_write, after_operation, fits, guest_turn, null_turn, on, open_in, outcome_of, ran_on, running_slot, told_in, with_open, with_ram}
use Rattle.xom_model.specs.Guest.{guest}
use Rattle.xom_model.specs.Null.{Answer, Open, null_step, ram_after_write}
use Rattle.xom_model.specs.Operation.{operation}
use Rattle.xom_model.proofs.CountsKept.{counted_at_start, events_keep_counts}
use Rattle.xom_model.proofs.RecordRefused.{do_refused, null_refused}
use Rattle.xom_model.proofs.StopsKept.{events_keep_stops, start_stops}
use Rattle.xom_model.proofs.GuestKept.{faults_are_own}
use Rattle.xom_model.proofs.KeptLaws.{kept_holds, kept_ram}
use Rattle.xom_model.proofs.RamSize.{length-poked}
use Rattle.xom_model.proofs.Turns.{events_keep, ran_on-core, running-runs, running-slot}
use Rattle.xom_seen.proofs.Settled.{stores_stay}
use Rattle.xom_machine.specs.Kept.{FaultsAreAlone, KeepsHolding, LeavesRefused}
use Rattle.xom_machine.specs.Runs.{bytes_of_event}
use Rattle.xom_machine.specs.Whole.{InTime, WholeMachine, with_loaded}

-- ---- An event's bytes

-- the bytes of an event are all that it takes of its chunk
pub on-bytes : (v : Versions) (r : Record) (e : Event) (chunk other : List ℕ)
    → bytes_of_event e chunk ≡ bytes_of_event e other → on v r e chunk ≡ on v r e other
unfolding on
on-bytes v r (event.Do op) chunk other same = refl
on-bytes v r (event.Guest interrupt) chunk other same = refl
on-bytes v r event.Null chunk other same = refl
on-bytes v r (event.Write address count) chunk other same =
    ap (λ bytes. after_kernel_write r address bytes) same
on-bytes v r (event.Poke address count) chunk other same =
    ap (λ bytes. (with_ram r (ram_after_write r.core.ram address bytes), outcome.Went)) same

-- ---- The count of events

ran_on-events : (r : Record) (slot : ℕ) (after : CoreState × Option Cause)
    → (ran_on r slot after).0.events ≡ r.events + 1
ran_on-events r slot (core, None) = refl
ran_on-events r slot (core, Some why) = refl

null_turn-events : (v : Versions) (r : Record) (answer : Answer)
    → (null_turn v r answer).0.events ≡ r.events + 1
null_turn-events v r (s, Err why) = refl
null_turn-events v r (s, Ok None) = refl
null_turn-events v r (s, Ok (Some op)) = refl

turn-events : (v : Versions) (r : Record) (interrupt : Bool) (at : Option ℕ) → is_some at ≡ true
    → (guest_turn v r interrupt at).0.events ≡ r.events + 1
turn-events v r interrupt None is = cc
turn-events v r interrupt (Some slot) is = ran_on-events r slot (guest v r.core slot interrupt)

-- an event that may come is counted
pub on-events : (v : Versions) (r : Record) (e : Event) (chunk : List ℕ) → fits r e ≡ true
    → (on v r e chunk).0.events ≡ r.events + 1
unfolding on
on-events v r (event.Do op) chunk fit = refl
on-events v r (event.Guest interrupt) chunk fit =
    turn-events v r interrupt (running_slot r)
    (and_parts (not r.halted) (is_some (running_slot r)) fit).1
on-events v r event.Null chunk fit = null_turn-events v r (null_step (told_in r) (open_in r))
on-events v r (event.Write address count) chunk fit = refl
on-events v r (event.Poke address count) chunk fit = refl

-- ---- What is true of every machine

turn-either : (v : Versions) (r : Record) (interrupt : Bool) (at : Option ℕ)
    → ((guest_turn v r interrupt at).0.events ≡ r.events + 1)
    ⊎ ((guest_turn v r interrupt at).0 ≡ r)
turn-either v r interrupt None = inr refl
turn-either v r interrupt (Some slot) = inl (ran_on-events r slot (guest v r.core slot interrupt))

-- an event is counted, or it changes nothing
on-either : (v : Versions) (r : Record) (e : Event) (chunk : List ℕ)
    → ((on v r e chunk).0.events ≡ r.events + 1) ⊎ ((on v r e chunk).0 ≡ r)
unfolding on
on-either v r (event.Do op) chunk = inl refl
on-either v r (event.Guest interrupt) chunk = turn-either v r interrupt (running_slot r)
on-either v r event.Null chunk = inl (null_turn-events v r (null_step (told_in r) (open_in r)))
on-either v r (event.Write address count) chunk = inl refl
on-either v r (event.Poke address count) chunk = inl refl

pub event-InTime : (v : Versions) (r : Record) (e : Event) (chunk : List ℕ) → InTime r
    → r.events + 1 < 2 ^ 63 → InTime (on v r e chunk).0
event-InTime v r e chunk time few = elim (on-either v r e chunk) [
  | inl more ↦ record {
    counted = events_keep_counts v r e chunk time.counted;
    few = omega (arith, more, few);
    stops = events_keep_stops v r e chunk time.few time.counted time.stops;
    stores = stores_stay v r e chunk ∙ time.stores;
    going = λ none. absurd (omega (arith, more, none));
  }
  | inr same ↦ subst InTime (sym same) time
]

-- it is a matter of the core, of the count of events, and of whether the machine ended
pub alike-InTime : (r new : Record) → new.core ≡ r.core → new.events ≡ r.events
    → new.halted ≡ r.halted → InTime r → InTime new
alike-InTime r new core events halted time = record {
  counted = subst (λ c. AreCounted c new.events) (sym core)
      (subst (λ n. AreCounted r.core n) (sym events) time.counted);
  few = omega (arith, events, time.few);
  stops = subst StopsHold (sym core) time.stops;
  stores = ap (λ (c : CoreState). length c.stores) core ∙ time.stores;
  going = λ none. halted ∙ time.going (sym events ∙ none);
}

-- and after an event of the core and the count alone
later-InTime : (r new : Record) (n : ℕ) → new.core ≡ r.core → new.events ≡ n + 1 → r.events ≡ n + 1
    → InTime r → InTime new
later-InTime r new n core events its time = record {
  counted = subst (λ c. AreCounted c new.events) (sym core)
      (subst (λ m. AreCounted r.core m) (its ∙ sym events) time.counted);
  few = omega (arith, events, its, time.few);
  stops = subst StopsHold (sym core) time.stops;
  stores = ap (λ (c : CoreState). length c.stores) core ∙ time.stores;
  going = λ none. absurd (omega (arith, events, none));
}

-- so it is of an operation
pub operated-InTime : (v : Versions) (r new : Record) (op : Op)
    → new.core ≡ (operation v r.core op).0 → new.events ≡ r.events + 1 → InTime r
    → r.events + 1 < 2 ^ 63 → InTime new
unfolding on
operated-InTime v r new op core events time few =
    later-InTime (after_operation r op (operation v r.core op)).0 new r.events core events refl
    (event-InTime v r (event.Do op) [] time few)

-- and of a guest's event
turn-InTime : (v : Versions) (r : Record) (interrupt : Bool) → InTime r → r.events + 1 < 2 ^ 63
    → InTime (guest_turn v r interrupt (running_slot r)).0
unfolding on
turn-InTime v r interrupt time few = event-InTime v r (event.Guest interrupt) [] time few

pub ran-InTime : (v : Versions) (r new : Record) (interrupt : Bool) (slot : ℕ)
    → running_slot r ≡ Some slot → new.core ≡ (guest v r.core slot interrupt).0
    → new.events ≡ r.events + 1
    → InTime r → r.events + 1 < 2 ^ 63 → InTime new
ran-InTime v r new interrupt slot runs core events time few =
    let result = guest v r.core slot interrupt in
    let after = subst (λ at. InTime (guest_turn v r interrupt at).0) runs
    (turn-InTime v r interrupt time few) in
    later-InTime (ran_on r slot result).0 new r.events
    (core ∙ sym (ran_on-core r slot result.0 result.1)) events (ran_on-events r slot result) after

-- cells and bytes of RAM are no matter of counts and stops
open-counts : (core : CoreState) (cells : List Cell) (ram : List ℕ) (n : ℕ) → AreCounted core n
    → AreCounted (record core { cells = cells; ram = ram }) n
open-counts core cells ram n counted = record {
  epochs = counted.epochs;
  last =
      counted.last;
  installs = counted.installs;
}

open-stops : (core : CoreState) (cells : List Cell) (ram : List ℕ) → StopsHold core
    → StopsHold (record core { cells = cells; ram = ram })
open-stops core cells ram stops = record {
  last = stops.last;
  unstopped = stops.unstopped;
  has_stop = stops.has_stop;
  has_exit = stops.has_exit;
  apart = stops.apart;
  numbers = stops.numbers;
  stops = stops.stops;
  cached = stops.cached;
  clean = stops.clean;
  places = stops.places;
  null = stops.null;
}

more-counts : (core : CoreState) (n : ℕ) → AreCounted core n → AreCounted core (n + 1)
more-counts core n counted = record {
  epochs = λ slot. let low = counted.epochs slot in omega (arith, low);
  last = let low = counted.last in omega (arith, low);
  installs = counted.installs;
}

pub opened-InTime : (r : Record) (s : Open) → InTime r → InTime (with_open r s)
opened-InTime r s time = record {
  counted = open-counts r.core s.cells s.ram r.events time.counted;
  few = time.few;
  stops = open-stops r.core s.cells s.ram time.stops;
  stores = time.stores;
  going = time.going;
}

-- other cells and other bytes of RAM after one more event
pub open-InTime : (r new : Record) (cells : List Cell) (ram : List ℕ)
    → new.core ≡ record r.core { cells = cells; ram = ram } → new.events ≡ r.events + 1 → InTime r
    → r.events + 1 < 2 ^ 63 → InTime new
open-InTime r new cells ram core events time few = record {
  counted = subst (λ c. AreCounted c new.events) (sym core) (open-counts r.core cells ram new.events
      (subst (λ n. AreCounted r.core n) (sym events) (more-counts r.core r.events time.counted)));
  few = omega (arith, events, few);
  stops = subst StopsHold (sym core) (open-stops r.core cells ram time.stops);
  stores = ap (λ (c : CoreState). length c.stores) core ∙ time.stores;
  going = λ none. absurd (omega (arith, events, none));
}

pub loaded-InTime : (r : Record) (ram : List ℕ) → InTime r
    → InTime (record r { core = record r.core { ram = ram } })
loaded-InTime r ram time = record {
  counted = open-counts r.core r.core.cells ram r.events time.counted;
  few = time.few;
  stops = open-stops r.core r.core.cells ram time.stops;
  stores = time.stores;
  going = time.going;
}

pub start-InTime : (v : Versions) (machine : Key256) (boot : ℕ) (ram : List ℕ) (pc : ℕ)
    → InTime (power_on v machine boot ram pc)
start-InTime v machine boot ram pc = record {
  counted = counted_at_start v machine boot ram pc;
  few = omega arith;
  stops = start_stops v machine boot ram;
  stores = length-replicate 17 v.blank_store;
  going = λ none. refl;
}

-- ---- What each event keeps

pub event-KeepsHolding : (v : Versions) (Stands : StandsFor) → VersionLaw v Stands
    → (r : Record) (e : Event) (chunk : List ℕ) → fits r e ≡ true
    → KeepsHolding v Stands r (on v r e chunk).0
event-KeepsHolding v Stands law r e chunk fit owners are room honest holds =
    let after = events_keep v Stands law owners are r e chunk fit room honest holds in
    record { holds = after; once = after.slots.seals.once }

-- what a refused operation leaves
pub event-LeavesRefused : (v : Versions) (r : Record) (e : Event) (chunk : List ℕ) → fits r e ≡ true
    → LeavesRefused r e (on v r e chunk).0
event-LeavesRefused v r (event.Do op) chunk fit = do_refused v r op chunk fit
event-LeavesRefused v r event.Null chunk fit =
    λ op asked refused. null_refused v r op chunk fit asked refused
event-LeavesRefused v r (event.Guest interrupt) chunk fit = tt
event-LeavesRefused v r (event.Write address count) chunk fit = tt
event-LeavesRefused v r (event.Poke address count) chunk fit = tt

-- an operation isn't what a guest leaves by
outcome_of-Left : (op : Op) (why : Cause) → ¬ (outcome_of op ≡ outcome.Left why)
outcome_of-Left (Install slot envelope area) why is = cc
outcome_of-Left (Enter slot) why is = cc
outcome_of-Left (Resume slot signal) why is = cc
outcome_of-Left (Save slot reg address) why is = cc
outcome_of-Left (Restore slot reg address) why is = cc
outcome_of-Left (Map slot page frame) why is = cc
outcome_of-Left (Unmap slot page) why is = cc
outcome_of-Left (SetReg reg value) why is = cc
outcome_of-Left (Kill slot) why is = cc
outcome_of-Left (Out byte) why is = cc
outcome_of-Left Halt why is = cc

null_turn-Left : (v : Versions) (r : Record) (answer : Answer) (why : Cause)
    → ¬ ((null_turn v r answer).1 ≡ outcome.Left why)
null_turn-Left v r (s, Err fault) why is = cc
null_turn-Left v r (s, Ok None) why is = cc
null_turn-Left v r (s, Ok (Some op)) why is = outcome_of-Left op why is

module _ (v : Versions) (Stands : StandsFor) (law : VersionLaw v Stands) where
  ran_on-Faults : (r : Record) (interrupt : Bool) (slot : ℕ) → running_slot r ≡ Some slot
      → (owners : List Owner) → AreOwners owners → Holds Stands owners r.core → (fault : OwnFault)
      → (result : CoreState × Option Cause) → guest v r.core slot interrupt ≡ result
      → IsBounded (ran_on r slot result).0.core.entries
      → IsHonest (sealed_by r.core.machine owners) (ran_on r slot result).0.core.entries
      → (ran_on r slot result).1 ≡ outcome.Left (cause.Fault fault)
      → FaultsAlone owners r.core (ran_on r slot result).0.who fault
  ran_on-Faults r interrupt slot runs owners are holds fault (core, None) is room honest left =
      absurd (cc)
  ran_on-Faults r interrupt slot runs owners are holds fault (core, Some why) is room honest left =
      let known = running-slot r.core slot runs holds.slots.session_places holds.slots.shape.null in
      let core_is : core ≡ (guest v r.core slot interrupt).0 = ap (λ x. x.0) (sym is) in
      let why_is : (guest v r.core slot interrupt).1 ≡ Some (cause.Fault fault) = ap (λ x. x.1) is
      ∙ ap Some (named left) in
      faults_are_own v Stands law owners are r.core slot interrupt fault known.0 known.1
      (running-runs r.core slot runs)
      (subst (λ (c : CoreState). IsBounded c.entries) core_is room)
      (subst (λ (c : CoreState). IsHonest (sealed_by r.core.machine owners) c.entries) core_is
      honest) holds why_is
    where
      named : {a b : Cause} → outcome.Left a ≡ outcome.Left b → a ≡ b
      named same = cc

  turn-Faults : (r : Record) (interrupt : Bool) (at : Option ℕ) → running_slot r ≡ at
      → FaultsAreAlone Stands r (guest_turn v r interrupt at).0 (guest_turn v r interrupt at).1
  turn-Faults r interrupt None runs owners are room honest holds fault left = absurd (cc)
  turn-Faults r interrupt (Some slot) runs owners are room honest holds fault left =
      ran_on-Faults r interrupt slot runs owners are holds fault (guest v r.core slot interrupt)
      refl room honest left

  pub event-Faults : (r : Record) (e : Event) (chunk : List ℕ)
      → FaultsAreAlone Stands r (on v r e chunk).0 (on v r e chunk).1
  unfolding on
  event-Faults r (event.Do op) chunk owners are room honest kept fault left =
      absurd (outcome_of-Left op (cause.Fault fault) left)
  event-Faults r (event.Guest interrupt) chunk owners are room honest kept fault left =
      turn-Faults r interrupt (running_slot r) refl owners are room honest kept fault left
  event-Faults r event.Null chunk owners are room honest kept fault left =
      absurd (null_turn-Left v r (null_step (told_in r) (open_in r)) (cause.Fault fault) left)
  event-Faults r (event.Write address count) chunk owners are room honest kept fault left =
      absurd (cc)
  event-Faults r (event.Poke address count) chunk owners are room honest kept fault left =
      absurd (cc)

-- bytes whose range RAM doesn't hold change nothing
pub loaded-refused : (m : WholeMachine) (address : ℕ) (bytes : List ℕ)
    → ram_holds_range m.state.core.ram address (length bytes) ≡ false → with_loaded m address bytes ≡ m
unfolding ram_after_write
loaded-refused m address bytes refused =
    ap (λ ram. record m { state = record m.state { core = record m.state.core { ram = ram } } })
    (cond-false (ram_holds_range m.state.core.ram address (length bytes))
    (ram_with_bytes m.state.core.ram address bytes) m.state.core.ram refused)

-- bytes that are put into RAM leave what is kept
pub loaded-Holds : (v : Versions) (Stands : StandsFor) → VersionLaw v Stands
    → (owners : List Owner) (core : CoreState) (address : ℕ) (bytes : List ℕ)
    → Holds Stands owners core
    → Holds Stands owners (record core { ram = ram_after_write core.ram address bytes })
loaded-Holds v Stands law owners core address bytes holds =
    kept_holds Stands owners core _ (kept_ram Stands owners v law core
    _ (length-poked core.ram address bytes)) holds
