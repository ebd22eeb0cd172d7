-- A journal only grows, also where nothing else is known.
use Rattle.std.proofs.Common.{◌≡◌, ℕ, zero, suc, ◌+◌, Bool, true, false, List, [], ◌++◌, Option, Some, None, ◌/◌, replicate, Result, Ok, Err, refl, sym, ◌∙◌, ap, append-nil, ◌==◌}
use Rattle.std.proofs.lemmas.Bool.{cond_both}
use Rattle.std.proofs.lemmas.List.{append_assoc}
use Rattle.xom_base.specs.declared.entry.Entry.{Entry}
use Rattle.xom_base.specs.declared.event.Rule.{Rule}
use Rattle.xom_base.specs.declared.event.Rule.TheVariants as rule
use Rattle.xom_model.specs.declared.reach.Reach.{Reach}
use Rattle.xom_model.specs.declared.reach.Reach.TheVariants as reach
use Rattle.xom_versions.specs.declared.store.Torn.{Torn}
use Rattle.xom_versions.specs.Versions.{Versions}
use Rattle.line_cache.specs.declared.way.Way.{Way}
use Rattle.line_cache.specs.Ways.{place_for, place_of_line, way_at}
use Rattle.page_map.specs.Pages.{frame_of}
use Rattle.xom_model.specs.State.{CoreState, core_with_hashes, page_of, session_of, store_of, with_entry}
use Rattle.xom_model.specs.Lines.{accept_entry, ct_place, keys_of, line_name_of, sealed_at, who_of}
use Rattle.xom_seal.specs.Sealing.{unsealed_line}
use Rattle.xom_base.specs.declared.event.Cause.{Cause}
use Rattle.xom_base.specs.declared.event.Cause.TheVariants as cause
use Rattle.xom_base.specs.declared.event.OwnFault.{OwnFault}
use Rattle.xom_base.specs.declared.step.StepEnd.{StepEnd}
use Rattle.xom_base.specs.declared.step.StepEnd.TheVariants as ended
use Rattle.mips_effect.specs.declared.effects.Effect.{Effect}
use Rattle.mips_plain.specs.Instruction.{step_made}
use Rattle.xom_model.specs.Guest.{address_in, after_effect, after_exit, after_retirement, after_step, after_trap, code_reached, data_of, data_reached, received_by, retirement, word_in, word_loaded, word_tried}
use Rattle.xom_model.specs.Access.{access, after_eviction, after_flush, after_opening, after_raise, after_seal, after_stop, after_victim, and_then, brought, cleared_at, or_stopped, reach_after_placing, reach_after_victim, reach_by_cache, reach_by_frame, reach_in_frame, sealed_by_raise, taken_out, with_pointers, without_guest}

abbrev pub Longer : List Entry → List Entry → Type 0
Longer entries new = (added : List Entry) × (new ≡ entries ++ added)

pub longer_none : (entries : List Entry) → Longer entries entries
longer_none entries = ([], sym (append-nil entries))

pub longer_on : (a b c : List Entry) → Longer a b → Longer b c → Longer a c
longer_on a b c first then =
    (first.0 ++ then.0, then.1 ∙ ap (λ l. l ++ then.0) first.1 ∙ append_assoc a first.0 then.0)

pub longer_stopped : (core : CoreState) (slot : ℕ) (why : Rule)
    → Longer core.entries (after_stop core slot why).entries
unfolding without_guest
longer_stopped core slot why = (_, refl)

module _ (v : Versions) where
  longer_raising : (core : CoreState) (slot line : ℕ)
      → Longer core.entries (after_raise v core slot line).entries
  unfolding after_raise
  longer_raising core slot line = (_, refl)

  longer_sealing : (core : CoreState) (slot line : ℕ) (bytes : List ℕ) (version : ℕ)
      → Longer core.entries (after_seal v core slot line bytes version).entries
  unfolding after_seal
  longer_sealing core slot line bytes version = (_, refl)

  longer_answer : (core : CoreState) (slot line : ℕ) (bytes : List ℕ) (answer : Result ℕ Torn)
      → Longer core.entries (or_stopped v slot (sealed_by_raise v (after_raise v core slot line)
      slot line bytes answer)).0.entries
  longer_answer core slot line bytes (Ok version) =
      longer_on _ _ _ (longer_raising core slot line)
      (longer_sealing (after_raise v core slot line) slot line bytes version)
  longer_answer core slot line bytes (Err torn) =
      longer_on _ _ _ (longer_raising core slot line)
      (longer_stopped (after_raise v core slot line) slot (rule.TreeNode torn.level))

  longer_by : (core : CoreState) (way : Way) (dirty : Bool)
      → Longer core.entries (after_victim v core way dirty).0.entries
  longer_by core way false = longer_none core.entries
  longer_by core way true =
      longer_answer core way.slot way.line way.bytes
      (v.answer_of_raise (store_of core way.slot) way.line core.ram)

  pub longer_cleared : (core : CoreState) (place : ℕ)
      → Longer core.entries (cleared_at v core place).0.entries
  unfolding cleared_at
  longer_cleared core place = longer_by core (way_at core.ways place) (way_at core.ways place).dirty

  pub longer_put : (entries : List Entry) (victim place slot line : ℕ) (bytes : List ℕ)
      (result : CoreState × Option Rule)
      → Longer entries result.0.entries
      → Longer entries (reach_after_victim v victim place slot line bytes result).0.entries
  longer_put entries victim place slot line bytes (mid, None) grows = grows
  longer_put entries victim place slot line bytes (mid, Some why) grows =
      cond_both (victim == slot) _ _ (λ (r : CoreState × Reach). Longer entries r.0.entries)
      (λ _. grows) (λ _. grows)

  pub longer_placed : (core : CoreState) (slot line : ℕ) (bytes : List ℕ)
      → Longer core.entries (reach_after_placing v core slot line bytes).0.entries
  unfolding reach_after_placing
  longer_placed core slot line bytes =
      longer_put core.entries _ _ slot line bytes _
      (longer_cleared (with_pointers core line) (place_for core.ways core.pointers line))

  -- ---- An access

  longer_opened : (core : CoreState) (slot line version place : ℕ) (ct : List ℕ)
      (bytes : Option (List ℕ))
      → Longer core.entries (after_opening v core slot line version place ct bytes).0.entries
  longer_opened core slot line version place ct None = longer_stopped core slot (rule.LineTag line)
  longer_opened core slot line version place ct (Some bytes) =
      let accept = with_entry core (accept_entry (who_of core slot) line version ct place) in
      longer_on core.entries accept.entries _ (_, refl) (longer_placed accept slot line bytes)

  longer_brought : (core : CoreState) (slot line frame : ℕ) (answer : Result ℕ Torn)
      → Longer core.entries (brought v core slot line frame answer).0.entries
  longer_brought core slot line frame (Err torn) =
      longer_stopped core slot (rule.TreeNode torn.level)
  longer_brought core slot line frame (Ok version) =
      cond_both (version == 0) (reach_after_placing v core slot line (replicate 32 0))
      (reach_by_frame v core slot line frame version) (λ (r : CoreState × Reach). Longer core.entries
      r.0.entries)
      (λ _. longer_placed core slot line (replicate 32 0))
      (λ _. longer_opened core slot line version (ct_place frame line)
      (sealed_at core.ram frame line).ct
      (unsealed_line (line_name_of (who_of core slot) line version)
      (keys_of (who_of core slot) line version) (sealed_at core.ram frame line)))

  longer_looked : (core : CoreState) (slot line frame : ℕ) (at : Option ℕ)
      → Longer core.entries (reach_by_cache v core slot line frame at).0.entries
  longer_looked core slot line frame (Some place) = longer_none core.entries
  longer_looked core slot line frame None =
      let asked = core_with_hashes core (v.texts_of_version (store_of core slot) line core.ram) in
      longer_on core.entries asked.entries _ (_, refl) (longer_brought asked slot line frame
      (v.answer_of_version (store_of core slot) line core.ram))

  longer_mapped : (core : CoreState) (slot line : ℕ) (frame : Option ℕ)
      → Longer core.entries (reach_in_frame v core slot line frame).0.entries
  longer_mapped core slot line None = longer_none core.entries
  longer_mapped core slot line (Some frame) =
      longer_looked core slot line frame (place_of_line core.ways slot line)

  pub longer_access : (core : CoreState) (slot line : ℕ)
      → Longer core.entries (access v core slot line).0.entries
  unfolding access
  longer_access core slot line =
      longer_mapped core slot line (frame_of core.pages slot (page_of line))

-- ---- What follows it in an event of a guest

pub longer_trapped : (core : CoreState) (slot : ℕ) (why : Cause)
    → Longer core.entries (after_trap core slot why).0.entries
longer_trapped core slot why = (_, refl)

longer_finished : (core : CoreState) (slot : ℕ)
    → Longer core.entries (after_exit core slot).0.entries
unfolding without_guest
longer_finished core slot = longer_none core.entries

longer_after : (core : CoreState) (slot : ℕ) (interrupt : Bool) (end : StepEnd)
    → Longer core.entries (after_step core slot interrupt end).0.entries
longer_after core slot interrupt (ended.Call code) = longer_trapped core slot (cause.Call code)
longer_after core slot interrupt ended.Exit = longer_finished core slot
longer_after core slot true ended.Goes = longer_trapped core slot cause.Interrupt
longer_after core slot false ended.Goes = longer_none core.entries

pub longer_retires : (core : CoreState) (slot : ℕ) (interrupt : Bool) (effect : Effect)
    (word place : ℕ)
    → Longer core.entries (retirement core slot interrupt effect word place).0.entries
longer_retires core slot interrupt effect word place =
    let step = step_made (session_of core slot).pc (session_of core slot).npc effect word
    (received_by core.cells core.ram effect.wish) in
    let after = after_retirement core slot place effect step in
    longer_on core.entries after.entries _ (_, refl) (longer_after after slot interrupt step.end)

module _ (v : Versions) where
  longer_data : (slot : ℕ) (interrupt : Bool) (effect : Effect) (result : CoreState × Reach)
      → Longer result.0.entries (data_reached slot interrupt effect result).0.entries
  longer_data slot interrupt effect (core, reach.PageFault page) =
      longer_trapped core slot (cause.Page page)
  longer_data slot interrupt effect (core, reach.Stopped why) = longer_none core.entries
  longer_data slot interrupt effect (core, reach.Ready place) =
      longer_retires core slot interrupt effect
      (word_loaded (way_at core.ways place).bytes effect.wish) place

  longer_wish : (core : CoreState) (slot : ℕ) (interrupt : Bool) (effect : Effect)
      (address : Option ℕ)
      → Longer core.entries (data_of v core slot interrupt effect address).0.entries
  longer_wish core slot interrupt effect None = longer_retires core slot interrupt effect 0 0
  longer_wish core slot interrupt effect (Some address) =
      longer_on core.entries (access v core slot (address / 32)).0.entries
      _ (longer_access v core slot (address / 32)) (longer_data slot interrupt effect
      (access v core slot (address / 32)))

  longer_ran : (core : CoreState) (slot : ℕ) (interrupt : Bool) (result : Result Effect OwnFault)
      → Longer core.entries (after_effect v core slot interrupt result).0.entries
  longer_ran core slot interrupt (Err why) = longer_trapped core slot (cause.Fault why)
  longer_ran core slot interrupt (Ok effect) =
      longer_wish core slot interrupt effect (address_in effect.wish)

  pub longer_code : (slot : ℕ) (interrupt : Bool) (result : CoreState × Reach)
      → Longer result.0.entries (code_reached v slot interrupt result).0.entries
  longer_code slot interrupt (core, reach.PageFault page) =
      longer_trapped core slot (cause.Page page)
  longer_code slot interrupt (core, reach.Stopped why) = longer_none core.entries
  longer_code slot interrupt (core, reach.Ready place) =
      longer_ran core slot interrupt
      (word_tried v core slot (word_in (way_at core.ways place).bytes (session_of core slot).pc))

-- ---- A flush

module _ (v : Versions) where
  longer_taken : (core : CoreState) (at : Option ℕ)
      → Longer core.entries (taken_out v core at).0.entries
  longer_taken core None = longer_none core.entries
  longer_taken core (Some place) = by (cleared_at v core place) (longer_cleared v core place)
    where
      by : (result : CoreState × Option Rule) → Longer core.entries result.0.entries
          → Longer core.entries (after_eviction place result).0.entries
      by (mid, None) grows = grows
      by (mid, Some why) grows = grows

  then_longer : (entries : List Entry) (first : CoreState × Option Rule) (rest : CoreState
      → CoreState × Option Rule)
      → Longer entries first.0.entries
      → ((core : CoreState) → Longer core.entries (rest core).0.entries)
      → Longer entries (and_then first rest).0.entries
  then_longer entries (mid, None) rest grows more =
      longer_on entries mid.entries (rest mid).0.entries grows (more mid)
  then_longer entries (mid, Some why) rest grows more = grows

  pub longer_flushed : (slot count line : ℕ) (core : CoreState)
      → Longer core.entries (after_flush v slot count line core).0.entries
  unfolding after_flush
  longer_flushed slot zero line core = longer_none core.entries
  longer_flushed slot (suc count) line core =
      then_longer core.entries (taken_out v core (place_of_line core.ways slot line))
      (after_flush v slot count (line + 1)) (longer_taken core (place_of_line core.ways slot line))
      (λ c. longer_flushed slot count (line + 1) c)
