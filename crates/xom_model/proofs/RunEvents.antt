-- A run under a kernel that tells its turns is events that may come, one after another.
use Rattle.std.proofs.Common.{◌≡◌, ℕ, zero, suc, ◌+◌, ◌≤◌, cond, min, Bool, true, false, List, [], ◌∷◌, Option, Some, None, length, All, refl, subst, arith}
use Rattle.std.specs.Prelude.{nat_le}
use Rattle.std.specs.List.{find}
use Rattle.std.proofs.Math.Nat.{min-le_right}
use Rattle.std.proofs.lemmas.List.Elements.{All-head, All-tail}
use Rattle.std.proofs.lemmas.Bool.Decides.{nat_tests}
use Rattle.xom_base.specs.declared.event.Event.{Event}
use Rattle.xom_base.specs.declared.event.Event.TheVariants as event
use Rattle.xom_base.specs.declared.schedule.Poke.{Poke}
use Rattle.xom_base.specs.declared.schedule.Schedule.{Schedule}
use Rattle.xom_model.specs.declared.outcome.Turn.{Turn}
use Rattle.xom_model.specs.declared.outcome.Turn.TheVariants as turn
use Rattle.xom_versions.specs.Versions.{Versions}
use Rattle.xom_model.specs.State.{Record}
use Rattle.xom_model.specs.Event.{chunk_size, fits, on, running_slot}
use Rattle.xom_model.specs.Seen.{View, view_of}
use Rattle.xom_model.specs.Run.{IsPoke, IsSchedule, after_turn, event_of, is_flagged, one_event, own_event, poke_at, run_from}
use Rattle.xom_model.specs.Sequence.{IsRunOf, RunsAreEvents}

-- what holds of each write of a list holds of one that is found there
pub found-keeps : (P : Poke → Type 0) (test : Poke → Bool) (pokes : List Poke) (poke : Poke)
    → All P pokes → find test pokes ≡ Some poke → P poke
found-keeps P test [] poke are is = absurd (cc)
found-keeps P test (first ∷ pokes) poke are is =
    elim (test first) as (λ b. cond b (Some first) (find test pokes) ≡ Some poke → P poke) [
      | true ↦ λ here. subst P (same here) (All-head P first pokes are)
      | false ↦ λ later. found-keeps P test pokes poke (All-tail P first pokes are) later
    ] is
  where
    same : {a b : Poke} → Some a ≡ Some b → a ≡ b
    same eq = cc

pub one_record : (a b : Record) → Some a ≡ Some b → b ≡ a
one_record a b is = cc

fits_in : (n : ℕ) → n ≤ chunk_size → nat_le n chunk_size ≡ true
fits_in n few = grind (arith, nat_tests)

module _ (v : Versions) {K : Type 0} (told : K → View → Option (Turn × (List ℕ × K)))
    (schedule : Schedule) (keeps : IsSchedule schedule) where
  -- one event comes first
  first : (n : ℕ) (r last : Record) (e : Event) (chunk : List ℕ) → fits r e ≡ true
      → IsRunOf v n (on v r e chunk).0 last → IsRunOf v (suc n) r last
  first n r last e chunk fit rest = record {
    events = (e, chunk) ∷ rest.events;
    few = let few : length rest.events ≤ n = rest.few in omega arith;
    fit = (fit, rest.fit);
    made = rest.made;
  }

  module _ (n : ℕ) (next : (guests : ℕ) (r : Record) (k : K) (last : Record) → run_from v told
      schedule n guests r k ≡ Some last → IsRunOf v n r last)
      (guests : ℕ) (r last : Record) (k : K) (going : r.halted ≡ false) where
    by_turn : running_slot r ≡ None → (t : Turn) (chunk : List ℕ) (k' : K)
        → run_from v told schedule n guests (on v r (event_of t) chunk).0 k' ≡ Some last
        → IsRunOf v (suc n) r last
    by_turn none (turn.Do op) chunk k' is =
        first n r last (event.Do op) chunk (rw (going, none) refl) (next guests _ k' last is)
    by_turn none (turn.Write address count) chunk k' is =
        first n r last (event.Write address (min count chunk_size)) chunk
        (rw (going, none) (fits_in (min count chunk_size) (min-le_right count chunk_size)))
        (next guests _ k' last is)
    by_turn none turn.Null chunk k' is =
        first n r last event.Null chunk (rw (going, none) refl) (next guests _ k' last is)

    by_told : running_slot r ≡ None → (answer : Option (Turn × (List ℕ × K)))
        → after_turn v told schedule (run_from v told schedule n) guests r answer ≡ Some last
        → IsRunOf v (suc n) r last
    by_told none None is = absurd (cc)
    by_told none (Some (t, (chunk, k'))) is = by_turn none t chunk k' is

    by_running : (at : Option ℕ) → running_slot r ≡ at
        → own_event v told schedule (run_from v told schedule n) guests r k at ≡ Some last
        → IsRunOf v (suc n) r last
    by_running (Some slot) runs is =
        first n r last (event.Guest (is_flagged schedule.interrupts (guests + 1))) []
        (rw (going, runs) refl) (next (guests + 1) _ k last is)
    by_running None none is = by_told none (told k (view_of r)) is

    by_poke : (poke : Option Poke) → poke_at schedule.pokes (r.events + 1) ≡ poke
        → one_event v told schedule (run_from v told schedule n) guests r k poke ≡ Some last
        → IsRunOf v (suc n) r last
    by_poke (Some poke) listed is =
        let is_poke = found-keeps IsPoke _ schedule.pokes poke keeps.pokes listed in
        first n r last (event.Poke poke.address (length poke.bytes)) poke.bytes
        (rw going (fits_in (length poke.bytes) is_poke.few)) (next guests _ k last is)
    by_poke None none is = by_running (running_slot r) refl is

  pub run-IsRunOf : (n guests : ℕ) (r : Record) (k : K) (last : Record)
      → run_from v told schedule n guests r k ≡ Some last → IsRunOf v n r last
  unfolding run_from
  run-IsRunOf zero guests r k last is = record {
    events = [];
    few = omega arith;
    fit = tt;
    made =
        one_record r last is;
  }
  run-IsRunOf (suc n) guests r k last is =
      elim r.halted as (λ b. r.halted ≡ b → cond b (Some r)
      (one_event v told schedule (run_from v told schedule n) guests r k
      (poke_at schedule.pokes (r.events + 1))) ≡ Some last → IsRunOf v (suc n) r last) [
        | true ↦ λ _ done. record {
          events = [];
          few = omega arith;
          fit = tt;
          made =
              one_record r last done;
        }
        | false ↦ λ going more. by_poke n (run-IsRunOf n) guests r last k going
            (poke_at schedule.pokes (r.events + 1)) refl more
      ] refl is

pub runs_are_events : RunsAreEvents
runs_are_events v told schedule keeps n r last views is =
    run-IsRunOf v told schedule keeps n 0 r views last is
