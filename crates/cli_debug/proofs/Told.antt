-- Both kernels tell each of their turns, so the moments of their runs are told whole.
use Rattle.std.proofs.Common.{◌≡◌, ℕ, zero, suc, ◌+◌, List, [], ◌∷◌, Option, Some, None, true, false, cond, refl}
use Rattle.std.specs.Prelude.{IfSome, IsSome, option_map, unwrap_or}
use Rattle.kernels.proofs.Told.{script_told-some}
use Rattle.kernels.specs.Turns.{image_told, script_told}
use Rattle.xom_base.specs.declared.schedule.Poke.{Poke}
use Rattle.xom_base.specs.declared.schedule.Schedule.{Schedule}
use Rattle.xom_debug.specs.DebugTexts.{debug_text}
use Rattle.xom_debug.specs.Moments.{Moment, made_of_turn, moments_from, next_made, own_next, with_made}
use Rattle.xom_debug.specs.declared.command.Command.{Command}
use Rattle.xom_machine.specs.Runs.{Made}
use Rattle.xom_model.specs.Event.{running_slot}
use Rattle.xom_model.specs.Run.{poke_at}
use Rattle.xom_model.specs.Seen.{View, view_of}
use Rattle.xom_model.specs.State.{Record}
use Rattle.xom_model.specs.declared.outcome.Turn.{Turn}
use Rattle.xom_script.specs.declared.script_line.ScriptLine.{ScriptLine}
use Rattle.xom_versions.specs.Versions.{Versions}

mapped-some : {A B : Type 0} (f : A → B) (o : Option A) → IsSome o → IsSome (option_map f o)
mapped-some f (Some x) is = refl
mapped-some f None is = absurd (cc)

module _ (v : Versions) {K : Type 0} (told : K → View → Option (Turn × (List ℕ × K)))
    (all : (k : K) (view : View) → IsSome (told k view)) (schedule : Schedule) where
  own_next-some : (g : ℕ) (r : Record) (k : K) (at : Option ℕ)
      → IsSome (own_next v told schedule g r k at)
  own_next-some g r k (Some slot) = refl
  own_next-some g r k None =
      mapped-some (made_of_turn v told schedule) (told k (view_of r)) (all k (view_of r))

  next_made-some : (g : ℕ) (r : Record) (k : K) (poke : Option Poke)
      → IsSome (next_made v told schedule g r k poke)
  next_made-some g r k (Some poke) = refl
  next_made-some g r k None = own_next-some g r k (running_slot r)

  with_made-some : (next : ℕ → Record → K → Option (List Moment))
      → ((g : ℕ) (r : Record) (k : K) → IsSome (next g r k))
      → (g : ℕ) (r : Record) (made : Option (Made × K)) → IsSome made
      → IsSome (with_made v told schedule next g r made)
  with_made-some next some g r None is = absurd (cc)
  with_made-some next some g r (Some (made, k)) is = mapped-some _ (next _ _ k) (some _ _ k)

  pub moments_from-some : (n g : ℕ) (r : Record) (k : K)
      → IsSome (moments_from v told schedule n g r k)
  unfolding moments_from
  moments_from-some zero g r k = refl
  moments_from-some (suc n) g r k =
      elim r.halted as (λ b. IsSome
      (cond b (Some []) (with_made v told schedule (moments_from v told schedule n) g r
      (next_made v told schedule g r k (poke_at schedule.pokes (r.events + 1)))))) [
        | true ↦ refl
        | false ↦ with_made-some (moments_from v told schedule n) (moments_from-some n) g r
            (next_made v told schedule g r k (poke_at schedule.pokes (r.events + 1)))
            (next_made-some g r k (poke_at schedule.pokes (r.events + 1)))
      ]

-- the moments of a script are told, whatever its record, its budget and its schedule
pub script_moments-some : (v : Versions) (schedule : Schedule) (n g : ℕ) (r : Record)
    (lines : List ScriptLine)
    → IsSome (moments_from v script_told schedule n g r lines)
script_moments-some v schedule = moments_from-some v script_told script_told-some schedule

-- and so are those of null code
pub image_moments-some : (v : Versions) (schedule : Schedule) (n g : ℕ) (r : Record) (k : Unit {0})
    → IsSome (moments_from v image_told schedule n g r k)
image_moments-some v schedule = moments_from-some v image_told (λ k view. refl) schedule

-- the text over the moments that are told
pub text-whole : (commands : List Command) (view : View) (o : Option (List Moment)) (text : List ℕ)
    → IsSome o → IfSome o (λ run. text ≡ debug_text commands view run)
    → text ≡ debug_text commands view (unwrap_or o [])
text-whole commands view (Some run) text some is = is
text-whole commands view None text some is = absurd (cc)
