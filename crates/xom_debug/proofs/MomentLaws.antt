-- Moments of runs that go on.
use Rattle.std.proofs.Common.{◌≡◌, ℕ, zero, suc, ◌+◌, ◌≤◌, Bool, true, false, cond, List, [], ◌∷◌, ◌++◌, length, Option, Some, None, refl, sym, ap, subst, ◌∙◌, arith}
use Rattle.std.specs.Prelude.{IfSome, option_map}
use Rattle.std.proofs.lemmas.Bool.{cond-false, cond-true}
use Rattle.std.proofs.lemmas.List.{take_all}
use Rattle.xom_base.specs.declared.event.Event.{Event}
use Rattle.xom_base.specs.declared.event.Event.TheVariants as event
use Rattle.xom_base.specs.declared.schedule.Poke.{Poke}
use Rattle.xom_base.specs.declared.schedule.Schedule.{Schedule}
use Rattle.xom_versions.specs.Versions.{Versions}
use Rattle.xom_model.specs.declared.outcome.Outcome.{Outcome}
use Rattle.xom_model.specs.declared.outcome.Turn.{Turn}
use Rattle.xom_model.specs.Event.{on, running_slot}
use Rattle.xom_model.specs.Run.{event_of, is_flagged, poke_at}
use Rattle.xom_model.specs.Seen.{View, view_of}
use Rattle.xom_model.specs.State.{Record}
use Rattle.xom_machine.specs.Runs.{IsNextWhere, IsRun, Made, bytes_of_event, guest_events_in, guests_in}
use Rattle.xom_machine.proofs.Events.{on-bytes}
use Rattle.xom_debug.specs.Moments.{Moment, made_of_turn, moments, moments_from, next_made, own_next, with_made}
use Rattle.xom_debug.specs.Sessions.{GoesOn}

-- ---- Events one after another

pub guests_of-append : (a b : List Made) → guest_events_in (a ++ b) ≡ guest_events_in a + guest_events_in b
guests_of-append [] b = omega arith
guests_of-append (first ∷ a) b = let more = guests_of-append a b in omega (arith, more)

module _ (schedule : Schedule) (v : Versions) where
  pub IsRun-append : (g : ℕ) (r : Record) (a : List Made) (mid : Record) (b : List Made)
      (last : Record)
      → IsRun schedule v g r a mid → IsRun schedule v (g + guest_events_in a) mid b last
      → IsRun schedule v g r (a ++ b) last
  IsRun-append g r [] mid b last run behind =
      let place : g + 0 ≡ g = omega arith in
      subst (λ n. IsRun schedule v n r b last) place (subst (λ s. IsRun schedule v (g + 0) s b last)
      run behind)
  IsRun-append g r (first ∷ a) mid b last run behind =
      let place : g + (guests_in first.0 + guest_events_in a) ≡ (g + guests_in first.0) + guest_events_in a =
      omega arith in (
        run.0,
        run.1,
        IsRun-append (g + guests_in first.0) (on v r first.0 first.1).0 a mid b last
            run.2 (subst (λ n. IsRun schedule v n mid b last) place behind),
      )

  pub moments-append : (g : ℕ) (r : Record) (a : List Made) (mid : Record) (b : List Made)
      → IsRun schedule v g r a mid → moments v r (a ++ b) ≡ moments v r a ++ moments v mid b
  moments-append g r [] mid b run = ap (λ s. moments v s b) (sym run)
  moments-append g r (first ∷ a) mid b run =
      ap (λ more. record { event = first.0; view = view_of (on v r first.0 first.1).0 } ∷ more)
      (moments-append (g + guests_in first.0) (on v r first.0 first.1).0 a mid b run.2)

-- ---- Where the kernel tells its turns

pub IfSome-itself : {A : Type 0} (o : Option A) → IfSome o (λ x. o ≡ Some x)
IfSome-itself None = tt
IfSome-itself (Some x) = refl

pub IfSome-then : {A : Type 0} (o : Option A) (P Q : A → Type 0) → ((x : A) → P x → Q x)
    → IfSome o P → IfSome o Q
IfSome-then None P Q f h = h
IfSome-then (Some x) P Q f h = f x h

-- what holds of the value that an option has
pub IfSome-at : {A : Type 0} (o : Option A) (P : A → Type 0) (x : A) → o ≡ Some x → IfSome o P → P x
IfSome-at None P x is h = absurd (cc)
IfSome-at (Some y) P x is h = let same : y ≡ x = cc in subst P same h

module _ {K : Type 0} (told : K → View → Option (Turn × (List ℕ × K))) (schedule : Schedule)
    (v : Versions) (more : ℕ) where
  abbrev later : ℕ → Record → K → Option (List Moment)
  later = moments_from v told schedule more

  -- the moments from an event on are its own and those behind it
  behind : (g : ℕ) (r : Record) (e : Event) (after : Record × Outcome) (k : K)
      (o : Option (List Moment))
      → later (g + guests_in e) after.0 k ≡ o
      → IfSome (option_map (λ rest. record { event = e; view = view_of after.0 } ∷ rest) o)
      (λ run. (rest : List Moment) × (later (g + guests_in e) after.0 k ≡ Some rest)
      × (run ≡ record { event = e; view = view_of after.0 } ∷ rest))
  behind g r e after k None is = tt
  behind g r e after k (Some rest) is = (rest, is, refl)

  -- so it is of an event that is the one that was told
  alike : (g : ℕ) (r : Record) (e other : Event) (chunk its : List ℕ) (k' k1 : K) → e ≡ other
      → bytes_of_event e chunk ≡ bytes_of_event e its → k' ≡ k1
      → IfSome (with_made v told schedule later g r (Some ((other, its), k1)))
      (GoesOn told schedule v r ((e, chunk) ∷ []) (later (g + guests_in e) (on v r e chunk).0 k'))
  alike g r e other chunk its k' k1 is bytes same =
      let on_is : on v r e chunk ≡ on v r other its = on-bytes v r e chunk its bytes
      ∙ ap (λ x. on v r x its) is in
      subst (λ (y : K). IfSome (with_made v told schedule later g r (Some ((other, its), k1)))
      (GoesOn told schedule v r ((e, chunk) ∷ []) (later (g + guests_in e) (on v r e chunk).0 y)))
      (sym same)
      (subst (λ (x : Record × Outcome). IfSome (with_made v told schedule later g r
      (Some ((other, its), k1)))
      (λ run. (rest : List Moment) × (later (g + guests_in e) x.0 k1 ≡ Some rest)
      × (run ≡ record { event = e; view = view_of x.0 } ∷ rest))) (sym on_is)
      (subst (λ (x : Event). IfSome (with_made v told schedule later g r (Some ((other, its), k1)))
      (λ run. (rest : List Moment) × (later (g + guests_in x) (on v r other its).0 k1 ≡ Some rest)
      × (run ≡ record { event = x; view = view_of (on v r other its).0 } ∷ rest))) (sym is)
      (behind g r other (on v r other its) k1 (later (g + guests_in other) (on v r other its).0 k1)
      refl)))

  -- the turn that a kernel told
  turn_told : (g : ℕ) (r : Record) (e : Event) (chunk : List ℕ) (k' : K)
      (o : Option (Turn × (List ℕ × K)))
      → IfSome o (λ t. (e ≡ event_of t.0) × (bytes_of_event e chunk ≡ bytes_of_event e t.1.0) × (k' ≡ t.1.1))
      → IfSome (with_made v told schedule later g r (option_map (made_of_turn v told schedule) o))
      (GoesOn told schedule v r ((e, chunk) ∷ []) (later (g + guests_in e) (on v r e chunk).0 k'))
  turn_told g r e chunk k' None next = tt
  turn_told g r e chunk k' (Some (t, (its, k1))) next =
      alike g r e (event_of t) chunk its k' k1 next.0 next.1 next.2

  own_told : (g : ℕ) (r : Record) (k : K) (e : Event) (chunk : List ℕ) (k' : K) (at : Option ℕ)
      → IsNextWhere told schedule g r k e chunk k' None at
      → IfSome (with_made v told schedule later g r (own_next v told schedule g r k at))
      (GoesOn told schedule v r ((e, chunk) ∷ []) (later (g + guests_in e) (on v r e chunk).0 k'))
  own_told g r k e chunk k' (Some slot) next =
      let is : e ≡ event.Guest (is_flagged schedule.interrupts (g + 1)) = next.0 in
      let nothing : bytes_of_event e chunk ≡ bytes_of_event e [] = subst (λ x. bytes_of_event x chunk ≡ bytes_of_event x [])
      (sym is) refl in
      alike g r e (event.Guest (is_flagged schedule.interrupts (g + 1))) chunk [] k' k is nothing
      next.1
  own_told g r k e chunk k' None next = turn_told g r e chunk k' (told k (view_of r)) next.1

  -- whatever comes next is the first of the moments that are told
  next_told : (g : ℕ) (r : Record) (k : K) (e : Event) (chunk : List ℕ) (k' : K)
      (poke : Option Poke)
      → IsNextWhere told schedule g r k e chunk k' poke (running_slot r)
      → IfSome (with_made v told schedule later g r (next_made v told schedule g r k poke))
      (GoesOn told schedule v r ((e, chunk) ∷ []) (later (g + guests_in e) (on v r e chunk).0 k'))
  next_told g r k e chunk k' (Some poke) next =
      let is : e ≡ event.Poke poke.address (length poke.bytes) = next.0.0 in
      let its : bytes_of_event e poke.bytes ≡ poke.bytes = subst (λ x. bytes_of_event x poke.bytes ≡ poke.bytes)
      (sym is) (take_all (length poke.bytes) poke.bytes (omega arith)) in
      alike g r e (event.Poke poke.address (length poke.bytes)) chunk poke.bytes k' k is
      (next.0.1 ∙ sym its) next.1
  next_told g r k e chunk k' None next = own_told g r k e chunk k' (running_slot r) next

  -- a run that goes on makes one event first
  from-one : (g : ℕ) (r : Record) (k : K) → r.halted ≡ false
      → moments_from v told schedule (suc more) g r k ≡ with_made v told schedule later g r
      (next_made v told schedule g r k (poke_at schedule.pokes (r.events + 1)))
  unfolding moments_from
  from-one g r k going =
      cond-false r.halted (Some [])
      (with_made v told schedule later g r
      (next_made v told schedule g r k (poke_at schedule.pokes (r.events + 1))))
      going

  pub one_told : (g : ℕ) (r : Record) (k : K) (e : Event) (chunk : List ℕ) (k' : K)
      → r.halted ≡ false
      → IsNextWhere told schedule g r k e chunk k' (poke_at schedule.pokes (r.events + 1))
      (running_slot r)
      → IfSome (moments_from v told schedule (suc more) g r k)
      (GoesOn told schedule v r ((e, chunk) ∷ []) (later (g + guests_in e) (on v r e chunk).0 k'))
  one_told g r k e chunk k' going next =
      subst (λ (o : Option (List Moment)). IfSome o (GoesOn told schedule v r ((e, chunk) ∷ [])
      (later (g + guests_in e) (on v r e chunk).0 k'))) (sym (from-one g r k going))
      (next_told g r k e chunk k' (poke_at schedule.pokes (r.events + 1)) next)

  halted_from : (n g : ℕ) (r : Record) (k : K) → r.halted ≡ true
      → moments_from v told schedule n g r k ≡ Some []
  unfolding moments_from
  halted_from zero g r k over = refl
  halted_from (suc n) g r k over =
      cond-true r.halted (Some [])
      (with_made v told schedule (moments_from v told schedule n) g r
      (next_made v told schedule g r k (poke_at schedule.pokes (r.events + 1))))
      over

  -- a run that is over has no further moments
  pub from-over : (g : ℕ) (r : Record) (k : K) → r.halted ≡ true → later g r k ≡ Some []
  from-over g r k over = halted_from more g r k over

pub from-none : {K : Type 0} (told : K → View → Option (Turn × (List ℕ × K))) (schedule : Schedule)
    (v : Versions) (g : ℕ) (r : Record) (k : K)
    → moments_from v told schedule zero g r k ≡ Some []
unfolding moments_from
from-none told schedule v g r k = refl
