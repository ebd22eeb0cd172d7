-- Both kernels tell each of their turns, so their runs are told whole.
use Rattle.std.proofs.Common.{ℕ, zero, suc, ◌+◌, List, [], ◌∷◌, Option, Some, None, true, false, cond, refl}
use Rattle.std.specs.Prelude.{IsSome}
use Rattle.xom_base.specs.declared.schedule.Poke.{Poke}
use Rattle.xom_base.specs.declared.schedule.Schedule.{Schedule}
use Rattle.xom_script.specs.declared.script_line.ScriptLine.{ScriptLine}
use Rattle.xom_versions.specs.Versions.{Versions}
use Rattle.xom_model.specs.declared.outcome.Turn.{Turn}
use Rattle.xom_model.specs.State.{Record}
use Rattle.xom_model.specs.Event.{running_slot}
use Rattle.xom_model.specs.Seen.{View, view_of}
use Rattle.xom_model.specs.Run.{after_turn, one_event, own_event, poke_at, run_from}
use Rattle.kernels.specs.Turns.{image_told, script_told}

module _ (v : Versions) {K : Type 0} (told : K → View → Option (Turn × (List ℕ × K)))
    (schedule : Schedule) (next : ℕ → Record → K → Option Record)
    (some : (g : ℕ) (r : Record) (k : K) → IsSome (next g r k)) where
  turned-some : (g : ℕ) (r : Record) (turn : Option (Turn × (List ℕ × K))) → IsSome turn
      → IsSome (after_turn v told schedule next g r turn)
  turned-some g r None is = absurd (cc)
  turned-some g r (Some (t, (chunk, k))) is = some g _ k

  module _ (all : (k : K) (view : View) → IsSome (told k view)) where
    own_event-some : (g : ℕ) (r : Record) (k : K) (at : Option ℕ)
        → IsSome (own_event v told schedule next g r k at)
    own_event-some g r k (Some slot) = some (g + 1) _ k
    own_event-some g r k None = turned-some g r (told k (view_of r)) (all k (view_of r))

    one_event-some : (g : ℕ) (r : Record) (k : K) (poke : Option Poke)
        → IsSome (one_event v told schedule next g r k poke)
    one_event-some g r k (Some poke) = some g _ k
    one_event-some g r k None = own_event-some g r k (running_slot r)

-- a run of a kernel that tells each turn is told
pub run_from-some : (v : Versions) {K : Type 0} (told : K → View → Option (Turn × (List ℕ × K)))
    → ((k : K) (view : View) → IsSome (told k view))
    → (schedule : Schedule) (n g : ℕ) (r : Record) (k : K)
    → IsSome (run_from v told schedule n g r k)
unfolding run_from
run_from-some v told all schedule zero g r k = refl
run_from-some v told all schedule (suc n) g r k =
    elim r.halted as (λ b. IsSome
    (cond b (Some r) (one_event v told schedule (run_from v told schedule n) g r k
    (poke_at schedule.pokes (r.events + 1))))) [
      | true ↦ refl
      | false ↦ one_event-some v told schedule (run_from v told schedule n)
          (run_from-some v told all schedule n) all g r k (poke_at schedule.pokes (r.events + 1))
    ]

-- a script tells a turn under each view
pub script_told-some : (lines : List ScriptLine) (view : View) → IsSome (script_told lines view)
script_told-some [] view = refl
script_told-some (line ∷ lines) view = refl

-- the run of a script is told, whatever its record, its budget and its schedule
pub script_run-some : (v : Versions) (schedule : Schedule) (n g : ℕ) (r : Record)
    (lines : List ScriptLine)
    → IsSome (run_from v script_told schedule n g r lines)
script_run-some v schedule = run_from-some v script_told script_told-some schedule

-- and so is the run of null code
pub image_run-some : (v : Versions) (schedule : Schedule) (n g : ℕ) (r : Record) (k : Unit {0})
    → IsSome (run_from v image_told schedule n g r k)
image_run-some v schedule = run_from-some v image_told (λ k view. refl) schedule
