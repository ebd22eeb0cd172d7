-- An event only appends to the journal, and never changes the machine key, also where nothing else
-- is known.
use Rattle.std.proofs.Common.{◌≡◌, ◌==◌, cond, ℕ, zero, suc, ◌+◌, ◌/◌, ◌*◌, Bool, true, false, List, [], ◌∷◌, ◌++◌, Option, Some, None, replicate, Result, Ok, Err, refl, sym, ◌∙◌, ap, append-nil}
use Rattle.std.specs.Prelude.{nat_le}
use Rattle.std.proofs.lemmas.Bool.{cond_both}
use Rattle.std.proofs.lemmas.List.{append_assoc}
use Rattle.xom_base.specs.declared.entry.Entry.{Entry}
use Rattle.xom_base.specs.declared.event.Cause.{Cause}
use Rattle.xom_base.specs.declared.event.Cause.TheVariants as cause
use Rattle.xom_base.specs.declared.event.Event.{Event}
use Rattle.xom_base.specs.declared.event.Event.TheVariants as event
use Rattle.xom_versions.specs.declared.store.Torn.{Torn}
use Rattle.xom_model.specs.declared.outcome.NullFault.{NullFault}
use Rattle.xom_base.specs.declared.event.Op.{Op}
use Rattle.xom_base.specs.declared.event.Op.TheVariants.{Install, Enter, Resume, Save, Restore, Map, Unmap, SetReg, Kill, Out, Halt}
use Rattle.xom_base.specs.declared.event.OwnFault.{OwnFault}
use Rattle.xom_base.specs.declared.event.OwnFault.TheVariants as own_fault
use Rattle.xom_base.specs.declared.event.Rule.{Rule}
use Rattle.xom_base.specs.declared.event.Rule.TheVariants as rule
use Rattle.xom_base.specs.declared.step.StepEnd.{StepEnd}
use Rattle.xom_base.specs.declared.step.StepEnd.TheVariants as ended
use Rattle.xom_seal.specs.declared.envelope.Unwrapped.{Unwrapped}
use Rattle.xom_seal.specs.Envelopes.{envelope_contents}
use Rattle.xom_seal.specs.Sealing.{unsealed_line, unsealed_register}
use Rattle.mips_effect.specs.declared.effects.Effect.{Effect}
use Rattle.mips_plain.specs.Instruction.{is_code, step_made}
use Rattle.session_table.specs.declared.session.SlotState.{SlotState}
use Rattle.session_table.specs.declared.session.SlotState.TheVariants as state
use Rattle.session_table.specs.Sessions.{session_after_resume}
use Rattle.xom_model.specs.declared.reach.Reach.{Reach}
use Rattle.xom_model.specs.declared.reach.Reach.TheVariants as reach
use Rattle.xom_versions.specs.Versions.{Versions}
use Rattle.line_cache.specs.declared.way.Way.{Way}
use Rattle.line_cache.specs.Ways.{place_for, place_of_line, way_at}
use Rattle.page_map.specs.Pages.{frame_of}
use Rattle.xom_model.specs.State.{CoreState, Record, core_with_hashes, core_with_session, page_of, session_of, store_of, with_entry}
use Rattle.xom_model.specs.Lines.{accept_entry, ct_place, keys_of, line_name_of, sealed_at, who_of}
use Rattle.xom_model.specs.Saves.{reg_keys, reg_name, saved_at}
use Rattle.xom_model.specs.Access.{access, after_eviction, after_flush, after_leaving, after_opening, after_raise, after_seal, after_stop, after_victim, and_then, brought, cleared_at, or_stopped, reach_after_placing, reach_after_victim, reach_by_cache, reach_by_frame, reach_in_frame, sealed_by_raise, taken_out, with_pointers, without_guest}
use Rattle.xom_model.specs.Guest.{address_in, after_delivery, after_effect, after_retirement, after_step, after_trap, code_reached, data_of, data_reached, guest, received_by, retirement, word_in, word_loaded, word_tried}
use Rattle.xom_model.specs.Operation.{after_install, after_reopening, after_restore, after_save, after_unmap, enter, envelope_in_ram, epoch_of, first_refusal_or, image_tests, install_tests, is_cell, is_slot, kill_tests, map_tests, missing_cell, operation, restore_tests, resume, resume_or_stop, save_tests, slot_takes_signal, unmap_tests, unwrap, with_signal}
use Rattle.xom_model.specs.Null.{Answer, null_step}
use Rattle.xom_model.specs.Event.{guest_turn, null_asked, null_turn, on, open_in, ran_on, running_slot, told_in}

-- the journal is the old one or longer, and the machine key the same
pub record Onward (core new : CoreState) : Type 0 where
  pub more : (added : List Entry) × (new.entries ≡ core.entries ++ added)
  pub machine : new.machine ≡ core.machine

pub onward_none : (core : CoreState) → Onward core core
onward_none core = record { more = ([], sym (append-nil core.entries)); machine = refl }

pub onward_on : (a b c : CoreState) → Onward a b → Onward b c → Onward a c
onward_on a b c first then = record {
  more = (
    first.more.0 ++ then.more.0,
    then.more.1 ∙ ap (λ l. l ++ then.more.0) first.more.1
        ∙ append_assoc a.entries first.more.0 then.more.0,
  );
  machine = then.machine ∙ first.machine;
}

onward_gone : (core : CoreState) (slot : ℕ) (final : SlotState)
    → Onward core (after_leaving core slot final)
unfolding without_guest
onward_gone core slot final = record { more = ([], sym (append-nil core.entries)); machine = refl }

onward_stopped : (core : CoreState) (slot : ℕ) (why : Rule) → Onward core (after_stop core slot why)
unfolding without_guest
onward_stopped core slot why = record { more = (_, refl); machine = refl }

-- ---- An access

module _ (v : Versions) where
  onward_raising : (core : CoreState) (slot line : ℕ) → Onward core (after_raise v core slot line)
  unfolding after_raise
  onward_raising core slot line = record { more = (_, refl); machine = refl }

  onward_sealing : (core : CoreState) (slot line : ℕ) (bytes : List ℕ) (version : ℕ)
      → Onward core (after_seal v core slot line bytes version)
  unfolding after_seal
  onward_sealing core slot line bytes version = record { more = (_, refl); machine = refl }

  onward_answer : (core : CoreState) (slot line : ℕ) (bytes : List ℕ) (answer : Result ℕ Torn)
      → Onward core (or_stopped v slot (sealed_by_raise v (after_raise v core slot line) slot line
      bytes answer)).0
  onward_answer core slot line bytes (Ok version) =
      onward_on _ _ _ (onward_raising core slot line)
      (onward_sealing (after_raise v core slot line) slot line bytes version)
  onward_answer core slot line bytes (Err torn) =
      onward_on _ _ _ (onward_raising core slot line)
      (onward_stopped (after_raise v core slot line) slot (rule.TreeNode torn.level))

  onward_by : (core : CoreState) (way : Way) (dirty : Bool)
      → Onward core (after_victim v core way dirty).0
  onward_by core way false = onward_none core
  onward_by core way true =
      onward_answer core way.slot way.line way.bytes
      (v.answer_of_raise (store_of core way.slot) way.line core.ram)

  onward_cleared : (core : CoreState) (place : ℕ) → Onward core (cleared_at v core place).0
  unfolding cleared_at
  onward_cleared core place = onward_by core (way_at core.ways place) (way_at core.ways place).dirty

  onward_put : (core : CoreState) (victim place slot line : ℕ) (bytes : List ℕ) (result : CoreState
      × Option Rule)
      → Onward core result.0
      → Onward core (reach_after_victim v victim place slot line bytes result).0
  onward_put core victim place slot line bytes (mid, None) far = record {
    more = far.more;
    machine =
        far.machine;
  }
  onward_put core victim place slot line bytes (mid, Some why) far =
      cond_both (victim == slot) _ _ (λ (r : CoreState × Reach). Onward core r.0) (λ _. far)
      (λ _. record { more = far.more; machine = far.machine })

  onward_placed : (core : CoreState) (slot line : ℕ) (bytes : List ℕ)
      → Onward core (reach_after_placing v core slot line bytes).0
  unfolding reach_after_placing
  onward_placed core slot line bytes =
      let place = place_for core.ways core.pointers line in
      let far = onward_cleared (with_pointers core line) place in
      onward_put core (way_at core.ways place).slot place slot line bytes
      (cleared_at v (with_pointers core line) place)
      (record { more = far.more; machine = far.machine })

  onward_opened : (core : CoreState) (slot line version place : ℕ) (ct : List ℕ)
      (bytes : Option (List ℕ))
      → Onward core (after_opening v core slot line version place ct bytes).0
  onward_opened core slot line version place ct None = onward_stopped core slot (rule.LineTag line)
  onward_opened core slot line version place ct (Some bytes) =
      let accept = with_entry core (accept_entry (who_of core slot) line version ct place) in
      onward_on core accept _ (record { more = (_, refl); machine = refl })
      (onward_placed accept slot line bytes)

  onward_brought : (core : CoreState) (slot line frame : ℕ) (answer : Result ℕ Torn)
      → Onward core (brought v core slot line frame answer).0
  onward_brought core slot line frame (Err torn) =
      onward_stopped core slot (rule.TreeNode torn.level)
  onward_brought core slot line frame (Ok version) =
      cond_both (version == 0) (reach_after_placing v core slot line (replicate 32 0))
      (reach_by_frame v core slot line frame version) (λ (r : CoreState × Reach). Onward core r.0)
      (λ _. onward_placed core slot line (replicate 32 0))
      (λ _. onward_opened core slot line version (ct_place frame line)
      (sealed_at core.ram frame line).ct
      (unsealed_line (line_name_of (who_of core slot) line version)
      (keys_of (who_of core slot) line version) (sealed_at core.ram frame line)))

  onward_looked : (core : CoreState) (slot line frame : ℕ) (at : Option ℕ)
      → Onward core (reach_by_cache v core slot line frame at).0
  onward_looked core slot line frame (Some place) = onward_none core
  onward_looked core slot line frame None =
      let asked = core_with_hashes core (v.texts_of_version (store_of core slot) line core.ram) in
      onward_on core asked _ (record { more = (_, refl); machine = refl })
      (onward_brought asked slot line frame (v.answer_of_version (store_of core slot) line
      core.ram))

  onward_mapped : (core : CoreState) (slot line : ℕ) (frame : Option ℕ)
      → Onward core (reach_in_frame v core slot line frame).0
  onward_mapped core slot line None = onward_none core
  onward_mapped core slot line (Some frame) =
      onward_looked core slot line frame (place_of_line core.ways slot line)

  onward_access : (core : CoreState) (slot line : ℕ) → Onward core (access v core slot line).0
  unfolding access
  onward_access core slot line =
      onward_mapped core slot line (frame_of core.pages slot (page_of line))

-- ---- An event of a guest

module _ (v : Versions) (slot : ℕ) (interrupt : Bool) where
  onward_trapped : (core : CoreState) (why : Cause) → Onward core (after_trap core slot why).0
  onward_trapped core why = record { more = (_, refl); machine = refl }

  onward_after : (core : CoreState) (end : StepEnd)
      → Onward core (after_step core slot interrupt end).0
  onward_after core (ended.Call code) = onward_trapped core (cause.Call code)
  onward_after core ended.Exit = onward_gone core slot state.Ended
  onward_after core ended.Goes =
      cond_both interrupt (after_trap core slot cause.Interrupt) (core, None)
      (λ (r : CoreState × Option Cause). Onward core r.0)
      (λ _. onward_trapped core cause.Interrupt) (λ _. onward_none core)

  onward_retires : (core : CoreState) (effect : Effect) (word place : ℕ)
      → Onward core (retirement core slot interrupt effect word place).0
  onward_retires core effect word place =
      let step = step_made (session_of core slot).pc (session_of core slot).npc effect word
      (received_by core.cells core.ram effect.wish) in
      let after = after_retirement core slot place effect step in
      onward_on core after _ (record { more = (_, refl); machine = refl })
      (onward_after after step.end)

  onward_data : (effect : Effect) (result : CoreState × Reach)
      → Onward result.0 (data_reached slot interrupt effect result).0
  onward_data effect (new, reach.PageFault page) = onward_trapped new (cause.Page page)
  onward_data effect (new, reach.Stopped why) = onward_none new
  onward_data effect (new, reach.Ready place) =
      onward_retires new effect (word_loaded (way_at new.ways place).bytes effect.wish) place

  onward_wish : (core : CoreState) (effect : Effect) (address : Option ℕ)
      → Onward core (data_of v core slot interrupt effect address).0
  onward_wish core effect None = onward_retires core effect 0 0
  onward_wish core effect (Some address) =
      onward_on core (access v core slot (address / 32)).0
      _ (onward_access v core slot (address / 32))
      (onward_data effect (access v core slot (address / 32)))

  onward_ran : (core : CoreState) (result : Result Effect OwnFault)
      → Onward core (after_effect v core slot interrupt result).0
  onward_ran core (Err why) = onward_trapped core (cause.Fault why)
  onward_ran core (Ok effect) = onward_wish core effect (address_in effect.wish)

  onward_code : (result : CoreState × Reach)
      → Onward result.0 (code_reached v slot interrupt result).0
  onward_code (new, reach.PageFault page) = onward_trapped new (cause.Page page)
  onward_code (new, reach.Stopped why) = onward_none new
  onward_code (new, reach.Ready place) =
      onward_ran new
      (word_tried v new slot (word_in (way_at new.ways place).bytes (session_of new slot).pc))

  onward_guest : (core : CoreState) → Onward core (guest v core slot interrupt).0
  unfolding guest
  onward_guest core =
      let pc = (session_of core slot).pc in
      let reached = access v core slot (pc / 32) in
      cond_both (is_code pc) (code_reached v slot interrupt reached)
      (after_trap core slot (cause.Fault own_fault.Address))
      (λ (r : CoreState × Option Cause). Onward core r.0)
      (λ _. onward_on core reached.0 _ (onward_access v core slot (pc / 32)) (onward_code reached))
      (λ _. onward_trapped core (cause.Fault own_fault.Address))

-- ---- An operation

onward_if : (core : CoreState) (b : Bool) (one other : CoreState × ℕ) → Onward core one.0
    → Onward core other.0 → Onward core (cond b one other).0
onward_if core true one other first second = first
onward_if core false one other first second = second

onward_tested : (core : CoreState) (tests : List (Bool × ℕ)) (deed : CoreState × ℕ)
    → Onward core deed.0 → Onward core (first_refusal_or core tests deed).0
onward_tested core [] deed far = far
onward_tested core (test ∷ tests) deed far =
    onward_if core test.0 (core, test.1) (first_refusal_or core tests deed) (onward_none core)
    (onward_tested core tests deed far)

onward_enter : (core : CoreState) (slot : ℕ) (at : SlotState) → Onward core (enter core slot at).0
onward_enter core slot state.Free = onward_none core
onward_enter core slot state.Fresh = record {
  more = ([], sym (append-nil core.entries));
  machine =
      refl;
}
onward_enter core slot state.Running = onward_none core
onward_enter core slot state.Paused = onward_none core
onward_enter core slot state.Ended = onward_none core
onward_enter core slot (state.Stopped why) = onward_none core

onward_signal : (core now : CoreState) (slot signal : ℕ) → Onward core now
    → Onward core (with_signal now slot signal)
onward_signal core now slot signal far =
    cond_both (signal == 0) now (after_delivery now slot signal) (Onward core) (λ _. far)
    (λ _. onward_on core now (after_delivery now slot signal) far
    (record { more = (_, refl); machine = refl }))

onward_go_on : (core : CoreState) (slot signal : ℕ) (lost : Option ℕ)
    → Onward core (resume_or_stop core slot signal lost).0
onward_go_on core slot signal None =
    onward_signal core (core_with_session core slot (session_after_resume (session_of core slot))) slot signal
    (record { more = ([], sym (append-nil core.entries)); machine = refl })
onward_go_on core slot signal (Some reg) = onward_stopped core slot (rule.RegisterMissing reg)

onward_resume : (core : CoreState) (slot signal : ℕ) (at : SlotState)
    → Onward core (resume core slot signal at).0
onward_resume core slot signal state.Free = onward_none core
onward_resume core slot signal state.Fresh = onward_none core
onward_resume core slot signal state.Running = onward_none core
onward_resume core slot signal state.Paused =
    let goes = resume_or_stop core slot signal (missing_cell slot (session_of core slot).mask core.cells) in
    onward_if core (nat_le signal 63) (cond (slot_takes_signal (session_of core slot) signal) goes
    (core, 2)) (core, 7)
    (onward_if core (slot_takes_signal (session_of core slot) signal) goes (core, 2)
    (onward_go_on core slot signal _) (onward_none core))
    (onward_none core)
onward_resume core slot signal state.Ended = onward_none core
onward_resume core slot signal (state.Stopped why) = onward_none core

onward_saved : (core : CoreState) (slot reg address : ℕ)
    → Onward core (after_save core slot reg address)
unfolding after_save
onward_saved core slot reg address = record { more = (_, refl); machine = refl }

onward_restored : (core : CoreState) (slot reg address value : ℕ)
    → Onward core (after_restore core slot reg address value)
unfolding after_restore
onward_restored core slot reg address value = record { more = (_, refl); machine = refl }

onward_reopened : (core : CoreState) (slot reg address : ℕ) (found : Option ℕ)
    → Onward core (after_reopening core slot reg address found).0
onward_reopened core slot reg address None = onward_stopped core slot (rule.RegisterTag reg)
onward_reopened core slot reg address (Some value) = onward_restored core slot reg address value

module _ (v : Versions) where
  onward_installed : (core : CoreState) (slot place area : ℕ) (plain : Unwrapped)
      → Onward core (after_install v core slot place area plain)
  unfolding after_install
  onward_installed core slot place area plain =
      record { more = (_, append_assoc core.entries _ _); machine = refl }

  onward_unwrap : (core : CoreState) (slot place area : ℕ) (found : Option Unwrapped)
      → Onward core (unwrap v core slot place area found).0
  onward_unwrap core slot place area None = onward_none core
  onward_unwrap core slot place area (Some plain) =
      onward_tested core (image_tests core plain) _ (onward_installed core slot place area plain)

  onward_taken : (core : CoreState) (at : Option ℕ) → Onward core (taken_out v core at).0
  onward_taken core None = onward_none core
  onward_taken core (Some place) = by (cleared_at v core place) (onward_cleared v core place)
    where
      by : (result : CoreState × Option Rule) → Onward core result.0
          → Onward core (after_eviction place result).0
      by (mid, None) far = record { more = far.more; machine = far.machine }
      by (mid, Some why) far = far

  onward_then : (core : CoreState) (first : CoreState × Option Rule) (rest : CoreState → CoreState
      × Option Rule)
      → Onward core first.0 → ((c : CoreState) → Onward c (rest c).0)
      → Onward core (and_then first rest).0
  onward_then core (mid, None) rest far more = onward_on core mid (rest mid).0 far (more mid)
  onward_then core (mid, Some why) rest far more = far

  onward_flushed : (slot count line : ℕ) (core : CoreState)
      → Onward core (after_flush v slot count line core).0
  unfolding after_flush
  onward_flushed slot zero line core = onward_none core
  onward_flushed slot (suc count) line core =
      onward_then core (taken_out v core (place_of_line core.ways slot line))
      (after_flush v slot count (line + 1)) (onward_taken core (place_of_line core.ways slot line))
      (λ c. onward_flushed slot count (line + 1) c)

  onward_unmapped : (core : CoreState) (slot page : ℕ) (result : CoreState × Option Rule)
      → Onward core result.0 → Onward core (after_unmap v slot page result).0
  onward_unmapped core slot page (new, None) far = record { more = far.more; machine = far.machine }
  onward_unmapped core slot page (new, Some why) far = far

  onward_operation : (core : CoreState) (op : Op) → Onward core (operation v core op).0
  unfolding operation without_guest
  onward_operation core (Enter slot) =
      onward_if core (is_slot slot) _ (core, 1) (onward_enter core slot _) (onward_none core)
  onward_operation core (Resume slot signal) =
      onward_if core (is_slot slot) _ (core, 1) (onward_resume core slot signal _)
      (onward_none core)
  onward_operation core (SetReg reg value) =
      onward_if core (is_cell reg) _ (core, 7)
      (record { more = ([], sym (append-nil core.entries)); machine = refl }) (onward_none core)
  onward_operation core Halt = onward_none core
  onward_operation core (Install slot place area) =
      onward_tested core (install_tests core slot place area) _ (onward_unwrap core slot place area
      (envelope_contents core.machine (envelope_in_ram core place)))
  onward_operation core (Save slot reg address) =
      onward_tested core (save_tests core slot reg address) _ (onward_saved core slot reg address)
  onward_operation core (Restore slot reg address) =
      onward_tested core (restore_tests core slot reg address) _
      (onward_reopened core slot reg address
      (unsealed_register (reg_name (who_of core slot) (epoch_of core slot) reg)
      (reg_keys (who_of core slot) (epoch_of core slot)) (saved_at core.ram address)))
  onward_operation core (Map slot page frame) =
      onward_tested core (map_tests core slot page frame) _
      (record { more = ([], sym (append-nil core.entries)); machine = refl })
  onward_operation core (Unmap slot page) =
      onward_tested core (unmap_tests core slot page)
      _ (onward_unmapped core slot page (after_flush v slot 128 (128 * page) core)
      (onward_flushed slot 128 (128 * page) core))
  onward_operation core (Kill slot) =
      onward_tested core (kill_tests core slot) _ (record { more = (_, refl); machine = refl })
  onward_operation core (Out byte) = record { more = (_, refl); machine = refl }

  -- ---- Any event

  onward_ran_on : (r : Record) (slot : ℕ) (result : CoreState × Option Cause)
      → Onward r.core result.0 → Onward r.core (ran_on r slot result).0.core
  onward_ran_on r slot (new, None) far = far
  onward_ran_on r slot (new, Some why) far = far

  onward_turn : (r : Record) (interrupt : Bool) (at : Option ℕ)
      → Onward r.core (guest_turn v r interrupt at).0.core
  onward_turn r interrupt None = onward_none r.core
  onward_turn r interrupt (Some slot) =
      onward_ran_on r slot (guest v r.core slot interrupt) (onward_guest v slot interrupt r.core)

  onward_asked : (r : Record) (at : ℕ) (asked : Result (Option Op) NullFault)
      → Onward r.core (null_asked v r at asked).0.core
  onward_asked r at (Err why) = onward_none r.core
  onward_asked r at (Ok None) = onward_none r.core
  onward_asked r at (Ok (Some op)) = onward_operation r.core op

  onward_null : (r : Record) (answer : Answer) → Onward r.core (null_turn v r answer).0.core
  onward_null r (s, asked) =
      let far = onward_asked (record r {
        core = record r.core { cells = s.cells; ram = s.ram };
        pc =
            s.pc;
        npc = s.npc;
      }) r.pc asked in
      record { more = far.more; machine = far.machine }

  pub onward_event : (r : Record) (e : Event) (bytes : List ℕ)
      → Onward r.core (on v r e bytes).0.core
  unfolding on
  onward_event r (event.Do op) bytes = onward_operation r.core op
  onward_event r (event.Guest interrupt) bytes = onward_turn r interrupt (running_slot r)
  onward_event r event.Null bytes = onward_null r (null_step (told_in r) (open_in r))
  onward_event r (event.Write address count) bytes =
      record { more = ([], sym (append-nil r.core.entries)); machine = refl }
  onward_event r (event.Poke address count) bytes =
      record { more = ([], sym (append-nil r.core.entries)); machine = refl }
