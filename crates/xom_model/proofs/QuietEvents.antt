-- A guest leaves so only with its own event.
use Rattle.std.proofs.Common.{◌≡◌, ℕ, Bool, Option, Some, None, Ok, Err, refl, arith}
use Rattle.xom_base.specs.declared.event.Cause.{Cause}
use Rattle.xom_base.specs.declared.event.Event.TheVariants as event
use Rattle.xom_base.specs.declared.event.Op.{Op}
use Rattle.xom_base.specs.declared.event.Op.TheVariants.{Halt}
use Rattle.xom_model.specs.declared.outcome.Outcome.TheVariants as outcome
use Rattle.xom_versions.specs.Versions.{Versions}
use Rattle.xom_model.specs.State.{CoreState, Record}
use Rattle.xom_model.specs.Guest.{guest}
use Rattle.xom_model.specs.Null.{Answer, null_step}
use Rattle.xom_model.specs.Event.{guest_turn, null_turn, on, open_in, outcome_of, ran_on, running_slot, told_in}
use Rattle.xom_model.specs.Quiet.{EventsTrapQuietly, IsQuiet, TrapsQuietly}
use Rattle.xom_model.specs.Stops.{StopsHold}
use Rattle.xom_model.specs.Touched.{slot_or_none}
use Rattle.xom_model.proofs.QuietTraps.{traps_change_nothing}
use Rattle.xom_model.proofs.Turns.{running-runs, running-slot}

-- no guest leaves with an operation
not_left : (op : Op) (why : Cause) → ¬ (outcome_of op ≡ outcome.Left why)
not_left Halt why never = cc
not_left _ why never = cc

null_not_left : (v : Versions) (r : Record) (answer : Answer) (why : Cause)
    → ¬ ((null_turn v r answer).1 ≡ outcome.Left why)
null_not_left v r (s, Err fault) why never = cc
null_not_left v r (s, Ok None) why never = cc
null_not_left v r (s, Ok (Some op)) why never = not_left op why never

module _ (v : Versions) (r : Record) (why : Cause) (quiet : IsQuiet why) where
  ran_quietly : (slot : ℕ) (result : CoreState × Option Cause)
      → (result.1 ≡ Some why → TrapsQuietly r.core result.0 slot why)
      → (ran_on r slot result).1 ≡ outcome.Left why
      → TrapsQuietly r.core (ran_on r slot result).0.core slot why
  ran_quietly slot (core, None) so never = absurd (cc)
  ran_quietly slot (core, Some its) so is = so (cc)

  turn_quietly : (interrupt : Bool) (at : Option ℕ) → running_slot r ≡ at → StopsHold r.core
      → (guest_turn v r interrupt at).1 ≡ outcome.Left why
      → TrapsQuietly r.core (guest_turn v r interrupt at).0.core (slot_or_none at) why
  turn_quietly interrupt None none holds never = absurd (cc)
  turn_quietly interrupt (Some slot) runs holds is =
      let known = running-slot r.core slot runs holds.places holds.null in
      ran_quietly slot (guest v r.core slot interrupt)
      (λ left. traps_change_nothing v r.core slot interrupt why
      (λ none. absurd (let low = known.0 in omega (arith, none))) (running-runs r.core slot runs)
      left quiet) is

pub events_trap_quietly : EventsTrapQuietly
unfolding on
events_trap_quietly v r (event.Do op) bytes why holds is quiet = absurd (not_left op why is)
events_trap_quietly v r (event.Guest interrupt) bytes why holds is quiet =
    turn_quietly v r why quiet interrupt (running_slot r) refl holds is
events_trap_quietly v r event.Null bytes why holds is quiet =
    absurd (null_not_left v r (null_step (told_in r) (open_in r)) why is)
events_trap_quietly v r (event.Write address count) bytes why holds is quiet = absurd (cc)
events_trap_quietly v r (event.Poke address count) bytes why holds is quiet = absurd (cc)
