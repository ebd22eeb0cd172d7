-- Where an access makes a line ready, it stands at a place of its slot, and the slot's session is
-- as it was.
use Rattle.std.proofs.Common.{◌≡◌, ◌≢◌, inl, inr, ◌==◌, ℕ, ◌<◌, ◌^◌, Bool, List, Option, Some, None, Result, Ok, Err, length, replicate, refl, sym, ◌∙◌, ap, subst, arith}
use Rattle.std.proofs.lemmas.Bool.{cond_both}
use Rattle.std.proofs.lemmas.List.{get_or-set_same}
use Rattle.xom_base.specs.declared.event.Rule.{Rule}
use Rattle.xom_base.specs.declared.step.Step.{Step}
use Rattle.mips_effect.specs.declared.effects.Effect.{Effect}
use Rattle.session_table.specs.Sessions.{free}
use Rattle.xom_seal.specs.Sealing.{unsealed_line}
use Rattle.line_cache.specs.Ways.{place_for, place_of_line, way_at}
use Rattle.page_map.specs.Pages.{frame_of}
use Rattle.xom_versions.specs.declared.store.Torn.{Torn}
use Rattle.xom_versions.specs.Versions.{Versions}
use Rattle.xom_model.specs.declared.reach.Reach.{Reach}
use Rattle.xom_model.specs.declared.reach.Reach.TheVariants as reach
use Rattle.xom_model.specs.State.{CoreState, core_with_hashes, core_with_way, page_of, session_of, store_of, with_entry}
use Rattle.xom_model.specs.Lines.{accept_entry, ct_place, keys_of, line_name_of, sealed_at, who_of}
use Rattle.xom_model.specs.Access.{access, after_opening, brought, cleared_at, reach_after_placing, reach_after_victim, reach_by_cache, reach_by_frame, reach_in_frame, with_pointers}
use Rattle.xom_model.specs.Guest.{after_retirement, session_after_step}
use Rattle.xom_model.specs.Holds.{IsRunning}
use Rattle.xom_model.proofs.AccessKept.{found-low, place_for-low}
use Rattle.xom_model.proofs.Walk.{IsOwnPlace, Parts, Reached, running-within, walk_access}
use Rattle.xom_guest.specs.Places.{AccessComes, IsPlaceOf, RunsOn}

-- ---- The place is one of the cache

abbrev IsLow : Reach → Type 0
IsLow (reach.Ready place) = place < 128
IsLow (reach.PageFault page) = Unit {0}
IsLow (reach.Stopped why) = Unit {0}

module _ (v : Versions) (slot line : ℕ) where
  low_put : (victim place : ℕ) (bytes : List ℕ) (result : CoreState × Option Rule) → place < 128
      → IsLow (reach_after_victim v victim place slot line bytes result).1
  low_put victim place bytes (core, None) low = low
  low_put victim place bytes (core, Some why) low =
      cond_both (victim == slot) _ _ (λ (r : CoreState × Reach). IsLow r.1) (λ _. tt) (λ _. low)

  low_placed : (core : CoreState) (bytes : List ℕ)
      → IsLow (reach_after_placing v core slot line bytes).1
  unfolding reach_after_placing
  low_placed core bytes =
      let place = place_for core.ways core.pointers line in
      low_put (way_at core.ways place).slot place bytes (cleared_at v (with_pointers core line)
      place) (place_for-low core.ways core.pointers line)

  low_opened : (core : CoreState) (version at : ℕ) (ct : List ℕ) (bytes : Option (List ℕ))
      → IsLow (after_opening v core slot line version at ct bytes).1
  low_opened core version at ct None = tt
  low_opened core version at ct (Some bytes) =
      low_placed (with_entry core (accept_entry (who_of core slot) line version ct at)) bytes

  low_brought : (core : CoreState) (frame : ℕ) (answer : Result ℕ Torn)
      → IsLow (brought v core slot line frame answer).1
  low_brought core frame (Err torn) = tt
  low_brought core frame (Ok version) =
      cond_both (version == 0) (reach_after_placing v core slot line (replicate 32 0))
      (reach_by_frame v core slot line frame version) (λ (r : CoreState × Reach). IsLow r.1)
      (λ _. low_placed core (replicate 32 0))
      (λ _. low_opened core version (ct_place frame line) (sealed_at core.ram frame line).ct
      (unsealed_line (line_name_of (who_of core slot) line version)
      (keys_of (who_of core slot) line version) (sealed_at core.ram frame line)))

  low_looked : (core : CoreState) (frame : ℕ) (at : Option ℕ) → length core.ways ≡ 128
      → place_of_line core.ways slot line ≡ at → IsLow (reach_by_cache v core slot line frame at).1
  low_looked core frame (Some place) places is = found-low core.ways slot line place places is
  low_looked core frame None places is =
      low_brought (core_with_hashes core (v.texts_of_version (store_of core slot) line core.ram))
      frame (v.answer_of_version (store_of core slot) line core.ram)

  low_mapped : (core : CoreState) (frame : Option ℕ) → length core.ways ≡ 128
      → IsLow (reach_in_frame v core slot line frame).1
  low_mapped core None places = tt
  low_mapped core (Some frame) places =
      low_looked core frame (place_of_line core.ways slot line) places refl

  low_access : (core : CoreState) → length core.ways ≡ 128 → IsLow (access v core slot line).1
  unfolding access
  low_access core places = low_mapped core (frame_of core.pages slot (page_of line)) places

-- ---- The whole

-- any part of an event, where nothing is asked of it
any_part : (v : Versions) (slot : ℕ) → Parts v slot (λ _ _. Unit {0})
any_part v slot = record {
  none = λ _. tt;
  on = λ _ _ _ _ _. tt;
  hash = λ _ _. tt;
  accept = λ _ _ _ _ _ _. tt;
  point = λ _ _. tt;
  bring = λ _ _ _ _ _. tt;
  seal = λ _ _ _ _ _ _ _. tt;
  tear = λ _ _ _ _ _. tt;
  stop = λ _ _ _. tt;
  step = λ _ _ _ _ _ _ _. tt;
}

-- where its session is as it was, the guest runs on
same_runs : (core new : CoreState) (slot : ℕ) → session_of new slot ≡ session_of core slot
    → IsRunning core slot → RunsOn core new slot
same_runs core new slot same runs = record {
  runs = ap (λ s. s.state) same ∙ runs;
  epoch =
      ap (λ s. s.epoch) same;
}

comes : (core new : CoreState) (slot : ℕ) (answer : Reach) → IsRunning core slot
    → Reached core slot new answer → IsLow answer → AccessComes core new slot answer
comes core new slot (reach.Ready place) runs reached low = (
  same_runs core new slot reached.0 runs,
  record {
    low = low;
    own =
        λ within. elim reached.1 [ inl own ↦ own | inr past ↦ absurd (omega arith) ];
  },
)
comes core new slot (reach.PageFault page) runs reached low =
    same_runs core new slot (ap (λ c. session_of c slot) reached) runs
comes core new slot (reach.Stopped why) runs reached low = tt

access_comes : (v : Versions) (core : CoreState) (slot line : ℕ) → length core.ways ≡ 128
    → IsRunning core slot → AccessComes core (access v core slot line).0 slot (access v core slot line).1
access_comes v core slot line places runs =
    comes core (access v core slot line).0 slot (access v core slot line).1 runs
    (walk_access v slot (λ _ _. Unit {0}) (any_part v slot) core line runs).1
    (low_access v slot line core places)

-- the same of what the code has made and answered
pub made_comes : (v : Versions) (core new : CoreState) (slot line : ℕ) (answer : Reach)
    → length core.ways ≡ 128 → IsRunning core slot
    → new ≡ (access v core slot line).0 → answer ≡ (access v core slot line).1
    → AccessComes core new slot answer
made_comes v core new slot line answer places runs new_is answer_is =
    rw (new_is, answer_is) (access_comes v core slot line places runs)

-- the guest runs on where its instruction retired
pub retired_runs : (core new : CoreState) (slot place : ℕ) (effect : Effect) (step : Step)
    → new ≡ after_retirement core slot place effect step → IsRunning core slot
    → RunsOn core new slot
retired_runs core new slot place effect step is runs =
    let here : session_of (after_retirement core slot place effect step) slot ≡ session_after_step
    (session_of core slot) effect step = get_or-set_same core.sessions slot _ free
    (running-within core slot runs) in
    let now : session_of new slot ≡ session_after_step (session_of core slot) effect step =
    ap (λ c. session_of c slot) is ∙ here in
    record { runs = ap (λ s. s.state) now ∙ runs; epoch = ap (λ s. s.epoch) now }
