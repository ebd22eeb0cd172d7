-- A run goes on by one event at a time.
use Rattle.std.proofs.Common.{◌≡◌, ℕ, zero, suc, ◌+◌, ◌-◌, ◌≤◌, true, false, List, [], ◌∷◌, ◌++◌, length, Option, Some, None, IfSome, Result, Ok, Err, OnOk, refl, sym, ◌∙◌, ap, subst, length-append, arith}
use Rattle.std.specs.Prelude.{is_err}
use Rattle.std.proofs.lemmas.Bool.{cond-true, cond-false}
use Rattle.std.proofs.lemmas.List.{take_all}
use Rattle.xom_base.specs.declared.event.Event.{Event}
use Rattle.xom_base.specs.declared.event.Event.TheVariants as event
use Rattle.xom_base.specs.declared.schedule.Poke.{Poke}
use Rattle.xom_base.specs.declared.schedule.Schedule.{Schedule}
use Rattle.xom_owners.specs.declared.owner.Owner.{Owner}
use Rattle.journal_findings.specs.Findings.{sealed_by}
use Rattle.xom_versions.specs.Versions.{VersionLaw, Versions}
use Rattle.xom_model.specs.Versions.{StandsFor}
use Rattle.xom_model.specs.declared.outcome.Outcome.{Outcome}
use Rattle.xom_model.specs.declared.outcome.RunEnd.{RunEnd}
use Rattle.xom_model.specs.declared.outcome.RunEnd.TheVariants.{Halted, KernelFault, Budget, NoMemory}
use Rattle.xom_model.specs.declared.outcome.Turn.{Turn}
use Rattle.xom_model.specs.declared.outcome.Turn.TheVariants as turn
use Rattle.xom_model.specs.State.{Record}
use Rattle.xom_model.specs.Event.{fits, on, running_slot}
use Rattle.xom_model.specs.Holds.{Holds}
use Rattle.xom_model.specs.Laws.{AreOwners}
use Rattle.xom_model.specs.Run.{after_turn, event_of, is_flagged, one_event, own_event, poke_at, run_from}
use Rattle.xom_model.specs.Seen.{View, view_of}
use Rattle.xom_model.proofs.Growth.{IsTrusted, honest_before}
use Rattle.xom_model.proofs.Onward.{Onward, onward_event, onward_none, onward_on}
use Rattle.xom_model.proofs.Turns.{events_keep}
use Rattle.xom_machine.specs.Kept.{KeepsHolding}
use Rattle.xom_machine.specs.Runs.{EndsBy, IsDue, IsDueWhere, IsNextWhere, IsRun, Made, Ran, SoFar, WentOn, bytes_of_event, guest_events_in, guests_in}
use Rattle.xom_machine.specs.Whole.{WholeMachine}
use Rattle.xom_machine.proofs.Events.{on-bytes, on-events}

-- ---- Events alone

guests_of-more : (events : List Made) (last : Made)
    → guest_events_in (events ++ last ∷ []) ≡ guest_events_in events + guests_in last.0
guests_of-more [] last = omega arith
guests_of-more (first ∷ events) last = let more = guests_of-more events last in omega (arith, more)

guests_in-one : (e : Event) → guests_in e ≤ 1
guests_in-one (event.Guest interrupt) = omega arith
guests_in-one (event.Do op) = omega arith
guests_in-one event.Null = omega arith
guests_in-one (event.Write address count) = omega arith
guests_in-one (event.Poke address count) = omega arith

module _ (schedule : Schedule) (v : Versions) where
  -- one more event at the end
  IsRun-more : (guests : ℕ) (r : Record) (events : List Made) (last : Record) (e : Event)
      (chunk : List ℕ)
      → IsRun schedule v guests r events last → fits last e ≡ true
      → IsDue schedule (guests + guest_events_in events) last e chunk
      → IsRun schedule v guests r (events ++ (e, chunk) ∷ []) (on v last e chunk).0
  IsRun-more guests r [] last e chunk run fit due =
      let place : guests + 0 ≡ guests = omega arith in (
        subst (λ s. fits s e ≡ true) run fit,
        subst (λ s. IsDue schedule guests s e chunk) run
            (subst (λ n. IsDue schedule n last e chunk) place due),
        ap (λ s. (on v s e chunk).0) run,
      )
  IsRun-more guests r (first ∷ events) last e chunk run fit due =
      let place : guests + (guests_in first.0 + guest_events_in events) ≡ (guests + guests_in first.0)
      + guest_events_in events = omega arith in (
        run.0,
        run.1,
        IsRun-more (guests + guests_in first.0) (on v r first.0 first.1).0 events last
            e chunk run.2 fit (subst (λ n. IsDue schedule n last e chunk) place due),
      )

  -- a run only appends to the journal
  run-Onward : (guests : ℕ) (r : Record) (events : List Made) (last : Record)
      → IsRun schedule v guests r events last → Onward r.core last.core
  run-Onward guests r [] last run =
      subst (λ (s : Record). Onward r.core s.core) (sym run) (onward_none r.core)
  run-Onward guests r (first ∷ events) last run =
      let next = (on v r first.0 first.1).0 in
      onward_on r.core next.core last.core (onward_event v r first.0 first.1)
      (run-Onward (guests + guests_in first.0) next events last run.2)

  -- and keeps what is kept, while the journal is honest
  run-Holds : (Stands : StandsFor) → VersionLaw v Stands → (owners : List Owner) → AreOwners owners
      → (guests : ℕ) (r : Record) (events : List Made) (last : Record)
      → IsRun schedule v guests r events last
      → IsTrusted (sealed_by r.core.machine owners) last.core.entries → Holds Stands owners r.core
      → Holds Stands owners last.core
  run-Holds Stands law owners are guests r [] last run honest holds =
      subst (λ (s : Record). Holds Stands owners s.core) (sym run) holds
  run-Holds Stands law owners are guests r (first ∷ events) last run honest holds =
      let next = (on v r first.0 first.1).0 in
      let far = run-Onward (guests + guests_in first.0) next events last run.2 in
      let sealed = sealed_by r.core.machine owners in
      let now : IsTrusted sealed next.core.entries = honest_before next.core.entries far.more.0
      sealed (subst (λ es. IsTrusted sealed es) far.more.1 honest) in
      let same = ap (λ m. sealed_by m owners) (onward_event v r first.0 first.1).machine in
      run-Holds Stands law owners are (guests + guests_in first.0) next events last run.2
      (subst (λ s. IsTrusted s last.core.entries) (sym same) honest)
      (events_keep v Stands law owners are r first.0 first.1 run.0 now.room now.honest holds)

  pub run-KeepsHolding : (Stands : StandsFor) → VersionLaw v Stands
      → (r : Record) (events : List Made) (last : Record) → IsRun schedule v 0 r events last
      → KeepsHolding v Stands r last
  run-KeepsHolding Stands law r events last run owners are room honest holds =
      let after = run-Holds Stands law owners are 0 r events last run
      (record { honest = honest; room = room }) holds in
      record { holds = after; once = after.slots.seals.once }

-- ---- Options and results

IfSome-itself : {A : Type 0} (o : Option A) → IfSome o (λ x. o ≡ Some x)
IfSome-itself None = tt
IfSome-itself (Some x) = refl

IfSome-then : {A : Type 0} (o : Option A) (P Q : A → Type 0) → ((x : A) → P x → Q x) → IfSome o P
    → IfSome o Q
IfSome-then None P Q f h = h
IfSome-then (Some x) P Q f h = f x h

-- what holds where a result is no error
pub OnOk-at : {T E : Type 0} (r : Result T E) (P : Type 0) → is_err r ≡ false → OnOk r P → P
OnOk-at (Ok x) P is h = h
OnOk-at (Err e) P is h = cc

turn-guests : (t : Turn) → guests_in (event_of t) ≡ 0
turn-guests (turn.Do op) = refl
turn-guests (turn.Write address count) = refl
turn-guests turn.Null = refl

-- ---- With a kernel
module _ {K : Type 0} (told : K → View → Option (Turn × (List ℕ × K))) (schedule : Schedule) where
  -- the event that comes next is due
  next-due : (guests : ℕ) (r : Record) (k : K) (e : Event) (chunk : List ℕ) (k' : K)
      (poke : Option Poke) (at : Option ℕ)
      → IsNextWhere told schedule guests r k e chunk k' poke at
      → IsDueWhere schedule guests e chunk poke at
  next-due guests r k e chunk k' (Some poke) at next = next.0
  next-due guests r k e chunk k' None (Some slot) next = next.0
  next-due guests r k e chunk k' None None next = next.0

  module _ (v : Versions) where
    -- what is next, and what a run makes next, are one
    alike : (more guests : ℕ) (r : Record) (e other : Event) (chunk its : List ℕ) (k' k1 : K)
        (s : Record) (n : ℕ)
        → e ≡ other → bytes_of_event e chunk ≡ bytes_of_event e its → k' ≡ k1 → n ≡ guests + guests_in e
        → run_from v told schedule more n (on v r other its).0 k1 ≡ Some s
        → run_from v told schedule more (guests + guests_in e) (on v r e chunk).0 k' ≡ Some s
    alike more guests r e other chunk its k' k1 s n is bytes same counts made =
        let on_is : on v r e chunk ≡ on v r other its = on-bytes v r e chunk its bytes
        ∙ ap (λ x. on v r x its) is in
        subst (λ (y : K). run_from v told schedule more (guests + guests_in e) (on v r e chunk).0
        y ≡ Some s) (sym same)
        (subst (λ (x : Record × Outcome). run_from v told schedule more (guests + guests_in e) x.0
        k1 ≡ Some s) (sym on_is)
        (subst (λ (m : ℕ). run_from v told schedule more m (on v r other its).0 k1 ≡ Some s) counts
        made))

    -- a turn that was told is the event that is made
    told-turn : (guests : ℕ) (r : Record) (e : Event) (chunk : List ℕ) (k' : K) (more : ℕ)
        (s : Record) (o : Option (Turn × (List ℕ × K)))
        → IfSome o (λ t. (e ≡ event_of t.0) × (bytes_of_event e chunk ≡ bytes_of_event e t.1.0) × (k' ≡ t.1.1))
        → after_turn v told schedule (run_from v told schedule more) guests r o ≡ Some s
        → run_from v told schedule more (guests + guests_in e) (on v r e chunk).0 k' ≡ Some s
    told-turn guests r e chunk k' more s None next made = absurd (cc)
    told-turn guests r e chunk k' more s (Some (t, (its, k1))) next made =
        let none : guests_in e ≡ 0 = ap guests_in next.0 ∙ turn-guests t in
        alike more guests r e (event_of t) chunk its k' k1 s guests next.0 next.1 next.2
        (omega (arith, none)) made

    -- where the kernel told its turn, it is the event that the run makes
    next-own : (guests : ℕ) (r : Record) (k : K) (e : Event) (chunk : List ℕ) (k' : K) (more : ℕ)
        (s : Record) (at : Option ℕ)
        → IsNextWhere told schedule guests r k e chunk k' None at
        → own_event v told schedule (run_from v told schedule more) guests r k at ≡ Some s
        → run_from v told schedule more (guests + guests_in e) (on v r e chunk).0 k' ≡ Some s
    next-own guests r k e chunk k' more s (Some slot) next made =
        let is : e ≡ event.Guest (is_flagged schedule.interrupts (guests + 1)) = next.0 in
        let one : guests_in e ≡ 1 = ap guests_in is in
        let nothing : bytes_of_event e chunk ≡ bytes_of_event e [] =
        subst (λ x. bytes_of_event x chunk ≡ bytes_of_event x []) (sym is) refl in
        alike more guests r e (event.Guest (is_flagged schedule.interrupts (guests + 1))) chunk []
        k' k s (guests + 1) is nothing next.1 (omega (arith, one)) made
    next-own guests r k e chunk k' more s None next made =
        told-turn guests r e chunk k' more s (told k (view_of r)) next.1 made

    next-turn : (guests : ℕ) (r : Record) (k : K) (e : Event) (chunk : List ℕ) (k' : K) (more : ℕ)
        (s : Record) (poke : Option Poke)
        → IsNextWhere told schedule guests r k e chunk k' poke (running_slot r)
        → one_event v told schedule (run_from v told schedule more) guests r k poke ≡ Some s
        → run_from v told schedule more (guests + guests_in e) (on v r e chunk).0 k' ≡ Some s
    next-turn guests r k e chunk k' more s (Some poke) next made =
        let is : e ≡ event.Poke poke.address (length poke.bytes) = next.0.0 in
        let none : guests_in e ≡ 0 = ap guests_in is in
        let its : bytes_of_event e poke.bytes ≡ poke.bytes =
        subst (λ x. bytes_of_event x poke.bytes ≡ poke.bytes) (sym is)
        (take_all (length poke.bytes) poke.bytes (omega arith)) in
        alike more guests r e (event.Poke poke.address (length poke.bytes)) chunk poke.bytes k' k s
        guests is (next.0.1 ∙ sym its) next.1 (omega (arith, none)) made
    next-turn guests r k e chunk k' more s None next made =
        next-own guests r k e chunk k' more s (running_slot r) next made

    -- a run that goes on makes one event first
    run-one : (more guests : ℕ) (r : Record) (k : K) → r.halted ≡ false
        → run_from v told schedule (suc more) guests r k ≡ one_event v told schedule
        (run_from v told schedule more) guests r k (poke_at schedule.pokes (r.events + 1))
    unfolding run_from
    run-one more guests r k going =
        cond-false r.halted (Some r)
        (one_event v told schedule (run_from v told schedule more) guests r k
        (poke_at schedule.pokes (r.events + 1)))
        going

    -- a run that is over stays as it is
    run-over : (more guests : ℕ) (r : Record) (k : K) → r.halted ≡ true
        → run_from v told schedule more guests r k ≡ Some r
    unfolding run_from
    run-over zero guests r k over = refl
    run-over (suc more) guests r k over =
        cond-true r.halted (Some r)
        (one_event v told schedule (run_from v told schedule more) guests r k
        (poke_at schedule.pokes (r.events + 1)))
        over

    -- no events
    run-none : (guests : ℕ) (r : Record) (k : K) → run_from v told schedule zero guests r k ≡ Some r
    unfolding run_from
    run-none guests r k = refl

    -- before the first event
    pub starts : (first : WholeMachine) (k0 : K) → first.state.events ≡ 0
        → SoFar told schedule v first k0 0 0 first k0
    starts first k0 none = record {
      events = [];
      made = refl;
      all = refl;
      guests_are = refl;
      few = omega arith;
      counted = none;
      turns = λ more.
          let place : more ≡ 0 + more = omega arith in
          subst (λ (n : ℕ). IfSome (run_from v told schedule n 0 first.state k0)
          (λ r. run_from v told schedule more 0 first.state k0 ≡ Some r)) place
          (IfSome-itself (run_from v told schedule more 0 first.state k0));
      room = omega arith;
    }

    -- after one more event
    pub goes_on : (first : WholeMachine) (k0 : K) (count guests : ℕ) (m : WholeMachine) (k : K) (guests' : ℕ)
        (m' : WholeMachine) (k' : K)
        → m.state.halted ≡ false
        → SoFar told schedule v first k0 count guests m k
        → WentOn told schedule v guests m k guests' m' k'
        → SoFar told schedule v first k0 (count + 1) guests' m' k'
    goes_on first k0 count guests m k guests' m' k' going far went = record {
      events = far.events ++ (went.event, went.chunk) ∷ [];
      made =
          let due = next-due guests m.state k went.event went.chunk k'
          (poke_at schedule.pokes (m.state.events + 1)) (running_slot m.state) went.next in
          let place : guests ≡ 0 + guest_events_in far.events = omega (arith, far.guests_are) in
          subst (IsRun schedule v 0 first.state (far.events ++ (went.event, went.chunk) ∷ []))
          (sym went.state)
          (IsRun-more schedule v 0 first.state far.events m.state went.event went.chunk far.made
          went.fits (subst (λ n. IsDue schedule n m.state went.event went.chunk) place due));
      all = let longer = length-append far.events ((went.event, went.chunk) ∷ []) in
          omega (arith, longer, far.all);
      guests_are = let more = guests_of-more far.events (went.event, went.chunk) in
          omega (arith, more, went.counts, far.guests_are);
      few = let one = guests_in-one went.event in omega (arith, one, far.few, went.counts);
      counted = ap (λ (r : Record). r.events) went.state ∙ on-events v m.state went.event went.chunk
          went.fits ∙ ap (λ n. n + 1) far.counted;
      turns = λ more.
          let place : count + suc more ≡ (count + 1) + more = omega arith in
          subst (λ (n : ℕ). IfSome (run_from v told schedule n 0 first.state k0)
          (λ r. run_from v told schedule more guests' m'.state k' ≡ Some r)) place
          (IfSome-then (run_from v told schedule (count + suc more) 0 first.state k0)
          (λ r. run_from v told schedule (suc more) guests m.state k ≡ Some r)
          (λ r. run_from v told schedule more guests' m'.state k' ≡ Some r)
          (λ r made.
          let step = next-turn guests m.state k went.event went.chunk k' more r
          (poke_at schedule.pokes (m.state.events + 1)) went.next
          (sym (run-one more guests m.state k going) ∙ made) in
          subst (λ (n : ℕ). run_from v told schedule more n m'.state k' ≡ Some r) (sym went.counts)
          (subst (λ (s : Record). run_from v told schedule more (guests + guests_in went.event) s
          k' ≡ Some r) (sym went.state) step))
          (far.turns (suc more)));
      room = omega (arith, far.room, went.room);
    }

    Some-same : (r s : Record) → Some r ≡ Some s → r ≡ s
    Some-same r s same = cc

    -- where the kernel tells its turns, the record is the one to which so many events lead
    pub told_so_far : (first : WholeMachine) (k0 : K) (count guests : ℕ) (m : WholeMachine) (k : K)
        → SoFar told schedule v first k0 count guests m k
        → IfSome (run_from v told schedule count 0 first.state k0) (λ r. m.state ≡ r)
    told_so_far first k0 count guests m k far =
        let place : count + 0 ≡ count = omega arith in
        subst (λ (n : ℕ). IfSome (run_from v told schedule n 0 first.state k0) (λ r. m.state ≡ r))
        place
        (IfSome-then (run_from v told schedule (count + 0) 0 first.state k0)
        (λ r. run_from v told schedule 0 guests m.state k ≡ Some r) (λ r. m.state ≡ r)
        (λ r made. Some-same m.state r (sym (run-none guests m.state k) ∙ made))
        (far.turns 0))

    -- nor do more events lead to another one, once it is over
    over_so_far : (budget : ℕ) (first : WholeMachine) (k0 : K) (count guests : ℕ) (m : WholeMachine) (k : K)
        → SoFar told schedule v first k0 count guests m k → count ≤ budget → m.state.halted ≡ true
        → IfSome (run_from v told schedule budget 0 first.state k0) (λ r. m.state ≡ r)
    over_so_far budget first k0 count guests m k far below over =
        let place : count + (budget - count) ≡ budget = omega (arith, below) in
        subst (λ (n : ℕ). IfSome (run_from v told schedule n 0 first.state k0) (λ r. m.state ≡ r))
        place
        (IfSome-then (run_from v told schedule (count + (budget - count)) 0 first.state k0)
        (λ r. run_from v told schedule (budget - count) guests m.state k ≡ Some r)
        (λ r. m.state ≡ r)
        (λ r made. Some-same m.state r (sym (run-over (budget - count) guests m.state k over)
        ∙ made))
        (far.turns (budget - count)))

    -- and so many as the budget allows lead to no other
    whole-at : (budget : ℕ) (first : WholeMachine) (k0 : K) (count guests : ℕ) (m : WholeMachine) (k : K)
        (end : RunEnd)
        → SoFar told schedule v first k0 count guests m k
        → EndsBy told schedule v budget count m end → ¬ (end ≡ NoMemory)
        → IfSome (run_from v told schedule budget 0 first.state k0) (λ r. m.state ≡ r)
    whole-at budget first k0 count guests m k Halted far ends found =
        over_so_far budget first k0 count guests m k far ends.0 ends.1
    whole-at budget first k0 count guests m k (KernelFault at why) far ends found =
        over_so_far budget first k0 count guests m k far ends.0 ends.1
    whole-at budget first k0 count guests m k Budget far ends found =
        subst (λ (n : ℕ). IfSome (run_from v told schedule n 0 first.state k0) (λ r. m.state ≡ r))
        ends.0 (told_so_far first k0 count guests m k far)
    whole-at budget first k0 count guests m k NoMemory far ends found = absurd (found refl)

    pub told_whole : (budget : ℕ) (first : WholeMachine) (k0 : K) (end : RunEnd) (last : WholeMachine)
        → Ran told schedule v budget first k0 end last → ¬ (end ≡ NoMemory)
        → IfSome (run_from v told schedule budget 0 first.state k0) (λ r. last.state ≡ r)
    told_whole budget first k0 end last ran found =
        whole-at budget first k0 last.state.events ran.guests last ran.kernel end ran.so_far
        ran.ends found
