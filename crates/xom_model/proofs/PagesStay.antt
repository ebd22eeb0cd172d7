-- The page maps of slots that stay live change by Map and Unmap alone: not by a private access, an
-- event of a guest, lines that leave the cache, or another operation.
use Rattle.std.proofs.Common.{◌≡◌, ◌≢◌, inl, inr, ◌==◌, ℕ, zero, suc, ◌+◌, ◌/◌, Bool, true, false, List, Option, Some, None, replicate, Result, Ok, Err, length, set, refl, sym, ◌∙◌, ap, subst, arith, length-set, cond, [], ◌∷◌}
use Rattle.std.specs.Prelude.{nat_le}
use Rattle.std.proofs.lemmas.Bool.{cond_both}
use Rattle.std.proofs.lemmas.Bool.Decides.{eqb_tells}
use Rattle.std.proofs.lemmas.List.{get_or-set_same, get_or-set_other, get_or_past}
use Rattle.xom_base.specs.declared.event.Cause.{Cause}
use Rattle.xom_base.specs.declared.event.Cause.TheVariants as cause
use Rattle.xom_base.specs.declared.event.Op.TheVariants.{Install, Enter, Resume, Save, Restore, Map, Unmap, SetReg, Kill, Out, Halt}
use Rattle.xom_base.specs.declared.event.OwnFault.{OwnFault}
use Rattle.xom_base.specs.declared.event.OwnFault.TheVariants as own_fault
use Rattle.xom_base.specs.declared.event.Rule.{Rule}
use Rattle.xom_base.specs.declared.event.Rule.TheVariants as rule
use Rattle.xom_base.specs.declared.step.Step.{Step}
use Rattle.xom_base.specs.declared.step.StepEnd.{StepEnd}
use Rattle.xom_base.specs.declared.step.StepEnd.TheVariants as ended
use Rattle.xom_seal.specs.Sealing.{unsealed_line, unsealed_register}
use Rattle.mips_effect.specs.declared.effects.Effect.{Effect}
use Rattle.mips_plain.specs.Instruction.{is_code, step_made}
use Rattle.session_table.specs.declared.session.Session.{Session}
use Rattle.session_table.specs.declared.session.SlotState.{SlotState}
use Rattle.session_table.specs.declared.session.SlotState.TheVariants as state
use Rattle.session_table.specs.Sessions.{free, is_live, session_after_enter, session_after_leaving, session_after_pause, session_after_resume}
use Rattle.xom_versions.specs.declared.store.Torn.{Torn}
use Rattle.xom_model.specs.declared.reach.Reach.{Reach}
use Rattle.xom_model.specs.declared.reach.Reach.TheVariants as reach
use Rattle.xom_versions.specs.Versions.{Versions}
use Rattle.line_cache.specs.declared.way.Way.{Way}
use Rattle.line_cache.specs.Ways.{place_for, place_of_line, way_at}
use Rattle.page_map.specs.Pages.{frame_of, no_pages}
use Rattle.xom_model.specs.State.{CoreState, core_with_hashes, core_with_session, page_of, session_of, store_of, with_cells, with_entry}
use Rattle.xom_model.specs.Lines.{accept_entry, ct_place, keys_of, line_name_of, sealed_at, who_of}
use Rattle.xom_model.specs.Guest.{address_in, after_delivery, after_effect, after_exit, after_retirement, after_step, after_trap, code_reached, data_of, data_reached, guest, received_by, retirement, session_after_signal, session_after_step, word_in, word_loaded, word_tried}
use Rattle.xom_model.specs.Access.{access, after_eviction, after_flush, after_leaving, after_opening, after_raise, after_seal, after_stop, after_victim, and_then, brought, cleared_at, or_stopped, reach_after_placing, reach_after_victim, reach_by_cache, reach_by_frame, reach_in_frame, sealed_by_raise, taken_out, with_pointers, without_guest}
use Rattle.xom_model.specs.declared.reach.Reach.TheVariants as reach
use Rattle.xom_model.specs.Operation.{after_kill, after_reopening, after_restore, after_save, enter, epoch_of, first_refusal_or, is_cell, is_slot, kill_tests, missing_cell, operation, reopening, restore_tests, resume, resume_or_stop, save_tests, slot_takes_signal}
use Rattle.xom_model.specs.Saves.{reg_keys, reg_name, saved_at}
use Rattle.xom_model.specs.Holds.{IsLive}
use Rattle.xom_model.specs.PageMaps.{GuestsKeepPages, OperationsKeepPages, PagesStay}
use Rattle.xom_model.proofs.Gone.{less, pages-other}

pub stay_none : (core : CoreState) → PagesStay core core
stay_none core slot live = (live, λ page. refl)

pub stay_on : (a b c : CoreState) → PagesStay a b → PagesStay b c → PagesStay a c
stay_on a b c first then slot live =
    let later = then slot live in
    let before = first slot later.0 in
    (before.0, λ page. later.1 page ∙ before.1 page)

-- one session is another, which isn't live, or was live before
module _ (core : CoreState) (slot : ℕ) (s : Session) (pages : List (List (Option ℕ)))
    (others : (k : ℕ) → k ≢ slot → (page : ℕ) → frame_of pages k page ≡ frame_of core.pages k page)
    (own : is_live s.state ≡ true → IsLive core slot
    × ((page : ℕ) → frame_of pages slot page ≡ frame_of core.pages slot page)) where
  abbrev changed : CoreState
  changed = record core { sessions = set core.sessions slot s; pages = pages }

  own_slot : is_live (session_of changed slot).state ≡ true
      → IsLive core slot × ((page : ℕ) → frame_of pages slot page ≡ frame_of core.pages slot page)
  own_slot live = elim (less slot (length core.sessions)) [
    | inl within ↦ own (sym (ap (λ t. is_live t.state) (get_or-set_same core.sessions slot s free
        within)) ∙ live)
    | inr past ↦ absurd (let none = ap (λ t. is_live t.state)
        (get_or_past (set core.sessions slot s) slot free
        (let same : length (set core.sessions slot s) ≡ length core.sessions =
        length-set core.sessions slot s in omega arith)) in cc)
  ]

  pub stay_changed : PagesStay core changed
  stay_changed k live = elim (eqb_tells k slot) [
    | inl is ↦
        subst (λ j. IsLive core j × ((page : ℕ) → frame_of pages j page ≡ frame_of core.pages j
        page)) (sym is.1)
        (own_slot (subst (λ j. is_live (session_of changed j).state ≡ true) is.1 live))
    | inr differs ↦ (
      sym (ap (λ t. is_live t.state) (get_or-set_other core.sessions slot k s free
          differs.1)) ∙ live,
      others k differs.1,
    )
  ]

stay_gone : (core : CoreState) (slot : ℕ) (final : SlotState) → is_live final ≡ false
    → PagesStay core (after_leaving core slot final)
unfolding without_guest
stay_gone core slot final dead =
    stay_changed core slot (session_after_leaving (session_of core slot) final) _
    (λ k differs page. pages-other core.pages slot k page differs) (λ live. absurd (cc))

pub stay_stopped : (core : CoreState) (slot : ℕ) (why : Rule)
    → PagesStay core (after_stop core slot why)
stay_stopped core slot why = stay_gone core slot (state.Stopped why) refl

-- where a line is reached, the slot's session is as it was
abbrev Calm : CoreState → ℕ → CoreState → Reach → Type 0
Calm core slot new (reach.Ready place) = session_of new slot ≡ session_of core slot
Calm core slot new (reach.PageFault page) = session_of new slot ≡ session_of core slot
Calm core slot new (reach.Stopped why) = Unit {0}

abbrev Arrives : CoreState → ℕ → CoreState × Reach → Type 0
Arrives core slot result = PagesStay core result.0 × Calm core slot result.0 result.1

module _ (v : Versions) where
  stay_raising : (core : CoreState) (slot line : ℕ) → PagesStay core (after_raise v core slot line)
  unfolding after_raise
  stay_raising core slot line = stay_none core

  stay_sealing : (core : CoreState) (slot line : ℕ) (bytes : List ℕ) (version : ℕ)
      → PagesStay core (after_seal v core slot line bytes version)
  unfolding after_seal
  stay_sealing core slot line bytes version = stay_none core

  stay_answer : (core : CoreState) (slot line : ℕ) (bytes : List ℕ) (answer : Result ℕ Torn)
      → PagesStay core (or_stopped v slot (sealed_by_raise v (after_raise v core slot line) slot
      line bytes answer)).0
  stay_answer core slot line bytes (Ok version) =
      stay_on core (after_raise v core slot line)
      (after_seal v (after_raise v core slot line) slot line bytes version)
      (stay_raising core slot line)
      (stay_sealing (after_raise v core slot line) slot line bytes version)
  stay_answer core slot line bytes (Err torn) =
      stay_on core (after_raise v core slot line)
      (after_stop (after_raise v core slot line) slot (rule.TreeNode torn.level))
      (stay_raising core slot line)
      (stay_stopped (after_raise v core slot line) slot (rule.TreeNode torn.level))

  stay_by : (core : CoreState) (way : Way) (dirty : Bool)
      → PagesStay core (after_victim v core way dirty).0
  stay_by core way false = stay_none core
  stay_by core way true =
      stay_answer core way.slot way.line way.bytes
      (v.answer_of_raise (store_of core way.slot) way.line core.ram)

  pub stay_cleared : (core : CoreState) (place : ℕ) → PagesStay core (cleared_at v core place).0
  unfolding cleared_at
  stay_cleared core place = stay_by core (way_at core.ways place) (way_at core.ways place).dirty

  -- sessions, where a place is cleared: those of other slots stay, and all do where no slot is
  -- stopped
  same_answer : (core : CoreState) (slot line : ℕ) (bytes : List ℕ) (answer : Result ℕ Torn) (k : ℕ)
      → k ≢ slot
      → session_of (or_stopped v slot (sealed_by_raise v (after_raise v core slot line) slot line
      bytes answer)).0 k ≡ session_of core k
  unfolding after_raise after_seal without_guest
  same_answer core slot line bytes (Ok version) k differs = refl
  same_answer core slot line bytes (Err torn) k differs =
      get_or-set_other core.sessions slot k _ free differs

  quiet_answer : (core : CoreState) (slot line : ℕ) (bytes : List ℕ) (answer : Result ℕ Torn)
      → (or_stopped v slot (sealed_by_raise v (after_raise v core slot line) slot line bytes
      answer)).1 ≡ None
      → (k : ℕ)
      → session_of (or_stopped v slot (sealed_by_raise v (after_raise v core slot line) slot line
      bytes answer)).0 k ≡ session_of core k
  unfolding after_raise after_seal
  quiet_answer core slot line bytes (Ok version) quiet k = refl
  quiet_answer core slot line bytes (Err torn) quiet k = absurd (cc)

  same_by : (core : CoreState) (way : Way) (dirty : Bool) (k : ℕ) → k ≢ way.slot
      → session_of (after_victim v core way dirty).0 k ≡ session_of core k
  same_by core way false k differs = refl
  same_by core way true k differs =
      same_answer core way.slot way.line way.bytes
      (v.answer_of_raise (store_of core way.slot) way.line core.ram) k differs

  quiet_by : (core : CoreState) (way : Way) (dirty : Bool)
      → (after_victim v core way dirty).1 ≡ None → (k : ℕ)
      → session_of (after_victim v core way dirty).0 k ≡ session_of core k
  quiet_by core way false quiet k = refl
  quiet_by core way true quiet k =
      quiet_answer core way.slot way.line way.bytes
      (v.answer_of_raise (store_of core way.slot) way.line core.ram) quiet k

  same_cleared : (core : CoreState) (place k : ℕ) → k ≢ (way_at core.ways place).slot
      → session_of (cleared_at v core place).0 k ≡ session_of core k
  unfolding cleared_at
  same_cleared core place k differs =
      same_by core (way_at core.ways place) (way_at core.ways place).dirty k differs

  quiet_cleared : (core : CoreState) (place : ℕ) → (cleared_at v core place).1 ≡ None → (k : ℕ)
      → session_of (cleared_at v core place).0 k ≡ session_of core k
  unfolding cleared_at
  quiet_cleared core place quiet k =
      quiet_by core (way_at core.ways place) (way_at core.ways place).dirty quiet k

  stay_put : (core : CoreState) (victim place slot line : ℕ) (bytes : List ℕ) (result : CoreState
      × Option Rule)
      → PagesStay core result.0
      → ((k : ℕ) → k ≢ victim → session_of result.0 k ≡ session_of core k)
      → (result.1 ≡ None → (k : ℕ) → session_of result.0 k ≡ session_of core k)
      → Arrives core slot (reach_after_victim v victim place slot line bytes result)
  stay_put core victim place slot line bytes (mid, None) stay others quiet = (stay, quiet refl slot)
  stay_put core victim place slot line bytes (mid, Some why) stay others quiet =
      elim (eqb_tells victim slot) [
        | inl is ↦ rw is.0 (stay, tt)
        | inr other ↦ rw other.0 (stay, others slot (λ same. other.1 (sym same)))
      ]

  stay_placed : (core : CoreState) (slot line : ℕ) (bytes : List ℕ)
      → Arrives core slot (reach_after_placing v core slot line bytes)
  unfolding reach_after_placing
  stay_placed core slot line bytes =
      let place = place_for core.ways core.pointers line in
      stay_put core (way_at core.ways place).slot place slot line bytes
      (cleared_at v (with_pointers core line) place)
      (stay_cleared (with_pointers core line) place) (same_cleared (with_pointers core line) place)
      (quiet_cleared (with_pointers core line) place)

  -- ---- An access

  stay_opened : (core : CoreState) (slot line version place : ℕ) (ct : List ℕ)
      (bytes : Option (List ℕ))
      → Arrives core slot (after_opening v core slot line version place ct bytes)
  stay_opened core slot line version place ct None =
      (stay_stopped core slot (rule.LineTag line), tt)
  stay_opened core slot line version place ct (Some bytes) =
      stay_placed (with_entry core (accept_entry (who_of core slot) line version ct place)) slot
      line bytes

  stay_brought : (core : CoreState) (slot line frame : ℕ) (answer : Result ℕ Torn)
      → Arrives core slot (brought v core slot line frame answer)
  stay_brought core slot line frame (Err torn) =
      (stay_stopped core slot (rule.TreeNode torn.level), tt)
  stay_brought core slot line frame (Ok version) =
      cond_both (version == 0) (reach_after_placing v core slot line (replicate 32 0))
      (reach_by_frame v core slot line frame version) (Arrives core slot)
      (λ _. stay_placed core slot line (replicate 32 0))
      (λ _. stay_opened core slot line version (ct_place frame line)
      (sealed_at core.ram frame line).ct
      (unsealed_line (line_name_of (who_of core slot) line version)
      (keys_of (who_of core slot) line version) (sealed_at core.ram frame line)))

  stay_looked : (core : CoreState) (slot line frame : ℕ) (at : Option ℕ)
      → Arrives core slot (reach_by_cache v core slot line frame at)
  stay_looked core slot line frame (Some place) = (stay_none core, refl)
  stay_looked core slot line frame None =
      stay_brought (core_with_hashes core (v.texts_of_version (store_of core slot) line core.ram))
      slot line frame (v.answer_of_version (store_of core slot) line core.ram)

  stay_mapped : (core : CoreState) (slot line : ℕ) (frame : Option ℕ)
      → Arrives core slot (reach_in_frame v core slot line frame)
  stay_mapped core slot line None = (stay_none core, refl)
  stay_mapped core slot line (Some frame) =
      stay_looked core slot line frame (place_of_line core.ways slot line)

  pub stay_access : (core : CoreState) (slot line : ℕ) → Arrives core slot (access v core slot line)
  unfolding access
  stay_access core slot line = stay_mapped core slot line (frame_of core.pages slot (page_of line))

-- ---- What follows it in an event of a guest. Its slot is live, as each slot that runs is.

module _ (slot : ℕ) (interrupt : Bool) where
  -- a session that is live as the one before it was
  stay_session : (core : CoreState) (s : Session) → (is_live s.state ≡ true → IsLive core slot)
      → PagesStay core (record core { sessions = set core.sessions slot s })
  stay_session core s lives =
      stay_changed core slot s core.pages (λ k differs page. refl)
      (λ live. (lives live, λ page. refl))

  stay_trapped : (core : CoreState) (why : Cause) → IsLive core slot
      → PagesStay core (after_trap core slot why).0
  stay_trapped core why live = stay_session core (session_after_pause (session_of core slot)) (λ _. live)

  stay_finished : (core : CoreState) → PagesStay core (after_exit core slot).0
  stay_finished core = stay_gone core slot state.Ended refl

  stay_after : (core : CoreState) (end : StepEnd) → IsLive core slot
      → PagesStay core (after_step core slot interrupt end).0
  stay_after core (ended.Call code) live = stay_trapped core (cause.Call code) live
  stay_after core ended.Exit live = stay_finished core
  stay_after core ended.Goes live =
      cond_both interrupt (after_trap core slot cause.Interrupt) (core, None)
      (λ (r : CoreState × Option Cause). PagesStay core r.0)
      (λ _. stay_trapped core cause.Interrupt live) (λ _. stay_none core)

  stay_retired : (core : CoreState) (effect : Effect) (step : Step) (place : ℕ)
      → PagesStay core (after_retirement core slot place effect step)
  stay_retired core effect step place =
      stay_session core (session_after_step (session_of core slot) effect step) (λ live. live)

  -- the slot is still live after the step, where it was
  live_retired : (core : CoreState) (effect : Effect) (step : Step) (place : ℕ) → IsLive core slot
      → IsLive (after_retirement core slot place effect step) slot
  live_retired core effect step place live = elim (less slot (length core.sessions)) [
    | inl within ↦ ap (λ t. is_live t.state) (get_or-set_same core.sessions slot
        (session_after_step (session_of core slot) effect step) free within) ∙ live
    | inr past ↦ absurd (let none = ap (λ t. is_live t.state) (get_or_past core.sessions slot free
        past) in cc)
  ]

  stay_retires : (core : CoreState) (effect : Effect) (word place : ℕ) → IsLive core slot
      → PagesStay core (retirement core slot interrupt effect word place).0
  stay_retires core effect word place live =
      let step = step_made (session_of core slot).pc (session_of core slot).npc effect word
      (received_by core.cells core.ram effect.wish) in
      let after = after_retirement core slot place effect step in
      stay_on core after (after_step after slot interrupt step.end).0
      (stay_retired core effect step place)
      (stay_after after step.end (live_retired core effect step place live))

  stay_data : (base : CoreState) (effect : Effect) (result : CoreState × Reach)
      → Arrives base slot result → IsLive base slot
      → PagesStay base (data_reached slot interrupt effect result).0
  stay_data base effect (new, reach.PageFault page) arrives live =
      stay_on base new (after_trap new slot (cause.Page page)).0 arrives.0
      (stay_trapped new (cause.Page page) (ap (λ s. is_live s.state) arrives.1 ∙ live))
  stay_data base effect (new, reach.Stopped why) arrives live = arrives.0
  stay_data base effect (new, reach.Ready place) arrives live =
      stay_on base new (retirement new slot interrupt effect
      (word_loaded (way_at new.ways place).bytes effect.wish) place).0 arrives.0
      (stay_retires new effect (word_loaded (way_at new.ways place).bytes effect.wish) place
      (ap (λ s. is_live s.state) arrives.1 ∙ live))

  module _ (v : Versions) where
    stay_wish : (core : CoreState) (effect : Effect) (address : Option ℕ) → IsLive core slot
        → PagesStay core (data_of v core slot interrupt effect address).0
    stay_wish core effect None live = stay_retires core effect 0 0 live
    stay_wish core effect (Some address) live =
        stay_data core effect (access v core slot (address / 32))
        (stay_access v core slot (address / 32)) live

    stay_ran : (core : CoreState) (result : Result Effect OwnFault) → IsLive core slot
        → PagesStay core (after_effect v core slot interrupt result).0
    stay_ran core (Err why) live = stay_trapped core (cause.Fault why) live
    stay_ran core (Ok effect) live = stay_wish core effect (address_in effect.wish) live

    stay_code : (base : CoreState) (result : CoreState × Reach) → Arrives base slot result
        → IsLive base slot → PagesStay base (code_reached v slot interrupt result).0
    stay_code base (new, reach.PageFault page) arrives live =
        stay_on base new (after_trap new slot (cause.Page page)).0 arrives.0
        (stay_trapped new (cause.Page page) (ap (λ s. is_live s.state) arrives.1 ∙ live))
    stay_code base (new, reach.Stopped why) arrives live = arrives.0
    stay_code base (new, reach.Ready place) arrives live =
        let word = word_tried v new slot (word_in (way_at new.ways place).bytes
        (session_of new slot).pc) in
        stay_on base new (after_effect v new slot interrupt word).0 arrives.0
        (stay_ran new word (ap (λ s. is_live s.state) arrives.1 ∙ live))

    pub stay_guest : (core : CoreState) → IsLive core slot
        → PagesStay core (guest v core slot interrupt).0
    unfolding guest
    stay_guest core live =
        let pc = (session_of core slot).pc in
        cond_both (is_code pc) (code_reached v slot interrupt (access v core slot (pc / 32)))
        (after_trap core slot (cause.Fault own_fault.Address))
        (λ (r : CoreState × Option Cause). PagesStay core r.0)
        (λ _. stay_code core (access v core slot (pc / 32)) (stay_access v core slot (pc / 32))
        live)
        (λ _. stay_trapped core (cause.Fault own_fault.Address) live)

-- ---- A flush

module _ (v : Versions) where
  stay_taken : (core : CoreState) (at : Option ℕ) → PagesStay core (taken_out v core at).0
  stay_taken core None = stay_none core
  stay_taken core (Some place) = by (cleared_at v core place) (stay_cleared v core place)
    where
      by : (result : CoreState × Option Rule) → PagesStay core result.0
          → PagesStay core (after_eviction place result).0
      by (mid, None) stay = stay
      by (mid, Some why) stay = stay

  stay_then : (core : CoreState) (first : CoreState × Option Rule) (rest : CoreState → CoreState
      × Option Rule)
      → PagesStay core first.0 → ((c : CoreState) → PagesStay c (rest c).0)
      → PagesStay core (and_then first rest).0
  stay_then core (mid, None) rest stay more = stay_on core mid (rest mid).0 stay (more mid)
  stay_then core (mid, Some why) rest stay more = stay

  pub stay_flushed : (slot count line : ℕ) (core : CoreState)
      → PagesStay core (after_flush v slot count line core).0
  unfolding after_flush
  stay_flushed slot zero line core = stay_none core
  stay_flushed slot (suc count) line core =
      stay_then core (taken_out v core (place_of_line core.ways slot line))
      (after_flush v slot count (line + 1)) (stay_taken core (place_of_line core.ways slot line))
      (λ c. stay_flushed slot count (line + 1) c)

-- ---- Operations that map and unmap no page

-- a live slot's session is another
stay_live : (core : CoreState) (slot : ℕ) (s : Session) → IsLive core slot
    → PagesStay core (record core { sessions = set core.sessions slot s })
stay_live core slot s live =
    stay_changed core slot s core.pages (λ k differs page. refl) (λ _. (live, λ page. refl))

stay_if : (core : CoreState) (b : Bool) (one other : CoreState × ℕ) → PagesStay core one.0
    → PagesStay core other.0 → PagesStay core (cond b one other).0
stay_if core true one other first second = first
stay_if core false one other first second = second

stay_tested : (core : CoreState) (tests : List (Bool × ℕ)) (deed : CoreState × ℕ)
    → PagesStay core deed.0 → PagesStay core (first_refusal_or core tests deed).0
stay_tested core [] deed stay = stay
stay_tested core (test ∷ tests) deed stay =
    stay_if core test.0 (core, test.1) (first_refusal_or core tests deed) (stay_none core)
    (stay_tested core tests deed stay)

stay_enter : (core : CoreState) (slot : ℕ) (at : SlotState) → (session_of core slot).state ≡ at
    → PagesStay core (enter core slot at).0
stay_enter core slot state.Free is = stay_none core
stay_enter core slot state.Fresh is =
    stay_live core slot (session_after_enter (session_of core slot)) (rw is refl)
stay_enter core slot _ is = stay_none core

stay_delivered : (core : CoreState) (slot signal : ℕ)
    → PagesStay core (after_delivery core slot signal)
stay_delivered core slot signal =
    stay_changed core slot (session_after_signal (session_of core slot) signal) core.pages
    (λ k differs page. refl) (λ live. (live, λ page. refl))

stay_go_on : (core : CoreState) (slot signal : ℕ) (lost : Option ℕ) → IsLive core slot
    → PagesStay core (resume_or_stop core slot signal lost).0
stay_go_on core slot signal None live =
    let now = core_with_session core slot (session_after_resume (session_of core slot)) in
    let first = stay_live core slot (session_after_resume (session_of core slot)) live in
    cond_both (signal == 0) now (after_delivery now slot signal) (PagesStay core) (λ _. first)
    (λ _. stay_on core now (after_delivery now slot signal) first
    (stay_delivered now slot signal))
stay_go_on core slot signal (Some reg) live = stay_stopped core slot (rule.RegisterMissing reg)

stay_resume : (core : CoreState) (slot signal : ℕ) (at : SlotState)
    → (session_of core slot).state ≡ at → PagesStay core (resume core slot signal at).0
stay_resume core slot signal state.Free is = stay_none core
stay_resume core slot signal state.Fresh is = stay_none core
stay_resume core slot signal state.Running is = stay_none core
stay_resume core slot signal state.Paused is =
    let goes = resume_or_stop core slot signal (missing_cell slot (session_of core slot).mask core.cells) in
    stay_if core (nat_le signal 63) (cond (slot_takes_signal (session_of core slot) signal) goes
    (core, 2)) (core, 7)
    (stay_if core (slot_takes_signal (session_of core slot) signal) goes (core, 2)
    (stay_go_on core slot signal (missing_cell slot (session_of core slot).mask core.cells)
    (rw is refl)) (stay_none core))
    (stay_none core)
stay_resume core slot signal state.Ended is = stay_none core
stay_resume core slot signal (state.Stopped why) is = stay_none core

stay_saved : (core : CoreState) (slot reg address : ℕ)
    → PagesStay core (after_save core slot reg address)
unfolding after_save
stay_saved core slot reg address = stay_none core

stay_reopened : (core : CoreState) (slot reg address : ℕ) (found : Option ℕ)
    → PagesStay core (after_reopening core slot reg address found).0
unfolding after_restore
stay_reopened core slot reg address None = stay_stopped core slot (rule.RegisterTag reg)
stay_reopened core slot reg address (Some value) = stay_none core

stay_killed : (v : Versions) (core : CoreState) (slot : ℕ) → PagesStay core (after_kill v core slot)
unfolding without_guest
stay_killed v core slot =
    stay_changed core slot free (set core.pages slot no_pages)
    (λ k differs page. pages-other core.pages slot k page differs) (λ live. absurd (cc))

pub operations_keep_pages : OperationsKeepPages
unfolding operation
operations_keep_pages v core (Enter slot) none =
    stay_if core (is_slot slot) (enter core slot (session_of core slot).state) (core, 1)
    (stay_enter core slot (session_of core slot).state refl) (stay_none core)
operations_keep_pages v core (Resume slot signal) none =
    stay_if core (is_slot slot) (resume core slot signal (session_of core slot).state) (core, 1)
    (stay_resume core slot signal (session_of core slot).state refl) (stay_none core)
operations_keep_pages v core (SetReg reg value) none =
    stay_if core (is_cell reg)
    (with_cells core (set core.cells reg (record { value = value; tag = 0 })), 0) (core, 7)
    (stay_none core) (stay_none core)
operations_keep_pages v core Halt none = stay_none core
operations_keep_pages v core (Install slot place area) none = absurd (cc)
operations_keep_pages v core (Save slot reg address) none =
    stay_tested core (save_tests core slot reg address) (after_save core slot reg address, 0)
    (stay_saved core slot reg address)
operations_keep_pages v core (Restore slot reg address) none =
    stay_tested core (restore_tests core slot reg address) (reopening core slot reg address)
    (stay_reopened core slot reg address
    (unsealed_register (reg_name (who_of core slot) (epoch_of core slot) reg)
    (reg_keys (who_of core slot) (epoch_of core slot)) (saved_at core.ram address)))
operations_keep_pages v core (Map slot page frame) none = absurd (cc)
operations_keep_pages v core (Unmap slot page) none = absurd (cc)
operations_keep_pages v core (Kill slot) none =
    stay_tested core (kill_tests core slot) (after_kill v core slot, 0) (stay_killed v core slot)
operations_keep_pages v core (Out byte) none = stay_none core

pub guests_keep_pages : GuestsKeepPages
guests_keep_pages v core slot interrupt live = stay_guest slot interrupt v core live
