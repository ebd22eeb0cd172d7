-- Which slot's guest runs, and that each event that may come keeps what the machine keeps.
use Rattle.std.proofs.Common.{take, ◌≡◌, ◌≢◌, ℕ, ◌≤◌, List, Option, Some, None, Ok, Err, length, refl, sym, ap, subst, arith, Bool, true, false, not, ◌&&◌}
use Rattle.std.specs.Prelude.{is_none}
use Rattle.std.proofs.Math.Decide.{dec_lt}
use Rattle.std.proofs.lemmas.List.{get_or_past}
use Rattle.std.proofs.lemmas.List.Quantifiers.{position-Some}
use Rattle.xom_base.specs.declared.event.Cause.{Cause}
use Rattle.xom_base.specs.declared.event.Event.{Event}
use Rattle.xom_base.specs.declared.event.Event.TheVariants as event
use Rattle.xom_owners.specs.declared.owner.Owner.{Owner}
use Rattle.session_table.specs.declared.session.Session.{Session}
use Rattle.session_table.specs.declared.session.SlotState.{SlotState}
use Rattle.session_table.specs.declared.session.SlotState.TheVariants as state
use Rattle.session_table.specs.Sessions.{free, is_live, is_running, running_in}
use Rattle.line_cache.proofs.Search.{none_passes}
use Rattle.xom_model.proofs.Growth.{IsTrusted}
use Rattle.xom_model.specs.State.{CoreState, Record, session_of}
use Rattle.xom_model.specs.Guest.{guest}
use Rattle.xom_model.specs.Event.{fits, guest_turn, null_turn, on, open_in, ran_on, running_slot, told_in, with_open}
use Rattle.xom_model.specs.Null.{Answer, null_step}
use Rattle.xom_model.proofs.Opened.{Opens, opens_null, opened_holds}
use Rattle.xom_versions.specs.Versions.{VersionLaw, Versions}
use Rattle.xom_model.specs.Versions.{StandsFor}
use Rattle.journal_findings.specs.Findings.{sealed_by}
use Rattle.xom_model.proofs.KeptLaws.{kept_holds, kept_ram}
use Rattle.xom_model.proofs.Opening.{OwnersTell}
use Rattle.xom_model.proofs.OwnersTell.{owners_tell}
use Rattle.xom_model.specs.Holds.{Holds, IsRunning}
use Rattle.xom_model.specs.Laws.{AreOwners, EventsKeep}
use Rattle.xom_model.proofs.GuestKept.{guest_keeps}
use Rattle.xom_model.proofs.OperationKept.{operation_keeps}
use Rattle.xom_model.proofs.RamSize.{length-null, length-poked}

is_running-state : (s : SlotState) → is_running s ≡ true → s ≡ state.Running
is_running-state state.Running is = refl
is_running-state _ is = cc

-- the slot that runs is a slot
pub running-slot : (core : CoreState) (slot : ℕ) → running_in core.sessions ≡ Some slot
    → length core.sessions ≡ 17 → is_live (session_of core 0).state ≡ false
    → (1 ≤ slot) × (slot ≤ 16)
running-slot core slot is places null =
    let at = position-Some (λ s. is_running s.state) core.sessions slot free is in (
      let some : slot ≢ 0 = λ none.
          let runs = is_running-state (session_of core 0).state
          (subst (λ k. is_running (session_of core k).state ≡ true) none at.1) in
          let live = ap is_live runs in cc in omega arith,
      let within = at.0 in omega arith,
    )

-- and its guest runs
pub running-runs : (core : CoreState) (slot : ℕ) → running_in core.sessions ≡ Some slot
    → IsRunning core slot
running-runs core slot is =
    is_running-state (session_of core slot).state
    (position-Some (λ s. is_running s.state) core.sessions slot free is).1

-- where none runs, none does
pub running-none : (core : CoreState) → running_in core.sessions ≡ None → (slot : ℕ)
    → ¬ IsRunning core slot
running-none core none slot runs = elim (dec_lt slot (length core.sessions)) [
  | yes within ↦
      let rests = none_passes (λ (s : Session). is_running s.state) core.sessions slot free none
      within in
      let its = ap is_running runs in cc
  | no past ↦ let its = ap (λ s. s.state) (get_or_past core.sessions slot free (omega arith)) in cc
]

pub ran_on-core : (r : Record) (slot : ℕ) (core : CoreState) (why : Option Cause)
    → (ran_on r slot (core, why)).0.core ≡ core
ran_on-core r slot core None = refl
ran_on-core r slot core (Some why) = refl

module _ (Stands : StandsFor) (owners : List Owner) (v : Versions) (law : VersionLaw v Stands) where
  guest_turn_keeps : (r : Record) (interrupt : Bool) (at : Option ℕ)
      → OwnersTell r.core.machine owners → running_slot r ≡ at
      → IsTrusted (sealed_by r.core.machine owners) (guest_turn v r interrupt at).0.core.entries
      → Holds Stands owners r.core → Holds Stands owners (guest_turn v r interrupt at).0.core
  guest_turn_keeps r interrupt None tell is honest holds = holds
  guest_turn_keeps r interrupt (Some slot) tell is honest holds =
      let known = running-slot r.core slot is holds.slots.session_places holds.slots.shape.null in
      let result = guest v r.core slot interrupt in
      let same = ran_on-core r slot result.0 result.1 in
      subst (Holds Stands owners) (sym same)
      (guest_keeps Stands owners v law (sealed_by r.core.machine owners) slot interrupt known.0
      known.1 r.core tell refl (running-runs r.core slot is) holds
      (subst (λ c. IsTrusted (sealed_by r.core.machine owners) c.entries) same honest))

  null_turn_keeps : (r : Record) (answer : Answer) → OwnersTell r.core.machine owners
      → ((slot : ℕ) → ¬ IsRunning r.core slot) → Opens r.core.cells answer.0.cells
      → length answer.0.ram ≡ length r.core.ram
      → IsTrusted (sealed_by r.core.machine owners) (null_turn v r answer).0.core.entries
      → Holds Stands owners r.core → Holds Stands owners (null_turn v r answer).0.core
  null_turn_keeps r (s, Err why) tell none opens size honest holds =
      opened_holds Stands owners v law r.core s.cells s.ram size none opens holds
  null_turn_keeps r (s, Ok None) tell none opens size honest holds =
      opened_holds Stands owners v law r.core s.cells s.ram size none opens holds
  null_turn_keeps r (s, Ok (Some op)) tell none opens size honest holds =
      operation_keeps Stands owners v law (sealed_by r.core.machine owners) (with_open r s).core op
      tell refl none honest (opened_holds Stands owners v law r.core s.cells s.ram size none opens
      holds)

-- an operation comes only where no guest runs
rests-of_fit : (halted : Bool) (at : Option ℕ) → (not halted && is_none at) ≡ true → at ≡ None
rests-of_fit true at is = cc
rests-of_fit false None is = refl
rests-of_fit false (Some slot) is = cc

-- each event that may come keeps what holds, as long as the journal is honest
trusted_events : (v : Versions) (Stands : StandsFor) → VersionLaw v Stands
    → (owners : List Owner) → AreOwners owners → (r : Record) (e : Event) (bytes : List ℕ)
    → fits r e ≡ true → IsTrusted (sealed_by r.core.machine owners) (on v r e bytes).0.core.entries
    → Holds Stands owners r.core → Holds Stands owners (on v r e bytes).0.core
unfolding on
trusted_events v Stands law owners are r (event.Do op) bytes fit honest holds =
    operation_keeps Stands owners v law (sealed_by r.core.machine owners) r.core op
    (owners_tell owners are r.core.machine) refl
    (running-none r.core (rests-of_fit r.halted (running_slot r) fit)) honest holds
trusted_events v Stands law owners are r (event.Guest interrupt) chunk fit honest holds =
    guest_turn_keeps Stands owners v law r interrupt (running_slot r)
    (owners_tell owners are r.core.machine) refl honest holds
trusted_events v Stands law owners are r event.Null chunk fit honest holds =
    null_turn_keeps Stands owners v law r (null_step (told_in r) (open_in r))
    (owners_tell owners are r.core.machine)
    (running-none r.core (rests-of_fit r.halted (running_slot r) fit))
    (opens_null (told_in r) (open_in r)) (length-null (told_in r) (open_in r)) honest holds
trusted_events v Stands law owners are r (event.Write address count) chunk fit honest holds =
    kept_holds Stands owners r.core _
    (kept_ram Stands owners v law r.core _ (length-poked r.core.ram address (take count chunk)))
    holds
trusted_events v Stands law owners are r (event.Poke address count) chunk fit honest holds =
    kept_holds Stands owners r.core _
    (kept_ram Stands owners v law r.core _ (length-poked r.core.ram address (take count chunk)))
    holds

pub events_keep : (v : Versions) (Stands : StandsFor) → EventsKeep v Stands
events_keep v Stands law owners are r e chunk fit room honest holds =
    trusted_events v Stands law owners are r e chunk fit (record { honest = honest; room = room })
    holds
