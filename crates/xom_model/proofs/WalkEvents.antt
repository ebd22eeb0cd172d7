-- The same of operations, of null code and of every event of the machine.
use Rattle.std.proofs.Common.{◌≡◌, ◌⊎◌, inl, inr, cond, ℕ, zero, suc, ◌+◌, ◌*◌, ◌<◌, ◌≤◌, Bool, true, false, not, ◌||◌, List, [], ◌∷◌, Option, Some, None, Result, Ok, Err, length, set, refl, sym, ap, subst, arith, ◌==◌}
use Rattle.std.specs.Prelude.{nat_le}
use Rattle.std.proofs.lemmas.List.{get_or-set_same, get_or_past}
use Rattle.std.proofs.lemmas.Bool.{cond_both}
use Rattle.std.proofs.lemmas.Bool.Decides.{nat_tests}
use Rattle.xom_base.specs.declared.entry.Entry.TheVariants as entry
use Rattle.xom_base.specs.declared.event.Event.{Event}
use Rattle.xom_base.specs.declared.event.Event.TheVariants as event
use Rattle.xom_base.specs.declared.event.Op.{Op}
use Rattle.xom_base.specs.declared.event.Op.TheVariants.{Install, Enter, Resume, Save, Restore, Map, Unmap, SetReg, Kill, Out, Halt}
use Rattle.xom_base.specs.declared.event.Rule.{Rule}
use Rattle.xom_base.specs.declared.event.Rule.TheVariants as rule
use Rattle.xom_base.specs.declared.step.Writes.{Writes}
use Rattle.xom_base.specs.declared.step.Writes.TheVariants as writes
use Rattle.xom_seal.specs.declared.envelope.Unwrapped.{Unwrapped}
use Rattle.xom_seal.specs.declared.names.RegName.{RegName}
use Rattle.xom_seal.specs.Envelopes.{envelope_contents}
use Rattle.xom_seal.specs.Messages.{register_message}
use Rattle.tag_regs.specs.declared.cell.Cell.{Cell}
use Rattle.session_table.specs.declared.session.SlotState.{SlotState}
use Rattle.session_table.specs.declared.session.SlotState.TheVariants as state
use Rattle.session_table.specs.Sessions.{free, is_live, session_after_enter, session_after_resume}
use Rattle.xom_versions.specs.declared.store.Torn.{Torn}
use Rattle.xom_versions.specs.Versions.{Versions}
use Rattle.line_cache.specs.declared.way.Way.{Way}
use Rattle.line_cache.specs.Ways.{free_way, place_of_line, way_at}
use Rattle.page_map.specs.Pages.{with_page}
use Rattle.tag_regs.specs.TaggedCells.{cell_at}
use Rattle.xom_model.specs.State.{CoreState, Record, core_with_session, session_of, with_cells, with_entry}
use Rattle.xom_model.specs.Access.{after_eviction, after_flush, after_raise, after_victim, and_then, cleared_at, or_stopped, sealed_by_raise, taken_out}
use Rattle.xom_model.specs.Guest.{after_delivery, guest, session_after_signal, signal_of}
use Rattle.xom_model.specs.Operation.{after_install, after_kill, after_reopening, after_restore, after_save, after_unmap, can_come_back, enter, envelope_in_ram, epoch_of, first_refusal_or, image_tests, install, install_tests, is_bad_image, is_bad_slot, is_cell, is_free_state, is_paused, is_slot, kill, kill_tests, map_page, map_tests, missing_cell, operation, refusal_of, reopening, restore_register, restore_tests, resume, resume_or_stop, resume_paused, save_register, save_tests, session_for, set_register, slot_takes_signal, unmap_page, unmap_tests, unwrap, with_signal}
use Rattle.xom_model.specs.Lines.{who_of}
use Rattle.xom_model.specs.Saves.{reg_accept_entry, reg_keys, reg_name, reg_pair, saved_at, sealed_reg}
use Rattle.xom_model.specs.Null.{Answer, null_step, with_null_writes}
use Rattle.xom_model.specs.Event.{guest_turn, null_turn, on, open_in, running_slot, told_in, with_open}
use Rattle.xom_model.specs.Holds.{IsLive}
use Rattle.xom_model.specs.Touched.{named_in, slot_of_event, slot_of_op, slot_or_none}
use Rattle.xom_model.proofs.Opened.{Opens, opens_null}
use Rattle.xom_model.proofs.Turns.{ran_on-core, running-runs}
use Rattle.xom_model.proofs.Gone.{less}
use Rattle.xom_model.proofs.Walk.{Ends, Parts, raised_for, walk_guest}

-- The parts that operations, null code and writes add. The last three are of a register that is
-- saved, and of one that comes back.
pub record Deeds (v : Versions) (slot : ℕ) (R T : CoreState → CoreState → Type 0) : Type 0 where
  pub sets_register : (core : CoreState) (reg value : ℕ)
      → R core (with_cells core (set core.cells reg (record { value = value; tag = 0 })))
  pub sets_ram : (core : CoreState) (ram : List ℕ) → R core (record core { ram = ram })
  pub enters : (core : CoreState) → (session_of core slot).state ≡ state.Fresh
      → R core (core_with_session core slot (session_after_enter (session_of core slot)))
  pub resumes : (core : CoreState) → (session_of core slot).state ≡ state.Paused
      → R core (core_with_session core slot (session_after_resume (session_of core slot)))
  pub maps : (core : CoreState) (page : ℕ) (frame : Option ℕ) → IsLive core slot ⊎ (frame ≡ None)
      → R core (record core { pages = with_page core.pages slot page frame })
  pub kills : (core : CoreState) → 1 ≤ slot → slot ≤ 16
      → is_free_state (session_of core slot).state ≡ false → R core (after_kill v core slot)
  pub outs : (core : CoreState) (byte : ℕ) → R core (with_entry core (entry.Out byte))
  pub installs : (core : CoreState) (place area : ℕ) (plain : Unwrapped) → 1 ≤ slot → slot ≤ 16
      → (session_of core slot).state ≡ state.Free
      → envelope_contents core.machine (envelope_in_ram core place) ≡ Some plain
      → is_bad_image (session_for core plain) ≡ false
      → T core (after_install v core slot place area plain)
  pub saves : (core : CoreState) (key ct : List ℕ) (name : RegName) → IsLive core slot
      → name.install ≡ (session_of core slot).install
      → R core (with_entry core (entry.Seal key (register_message name ct)))
  pub restores : (core : CoreState) (key ct : List ℕ) (name : RegName) (place : ℕ)
      → IsLive core slot → name.install ≡ (session_of core slot).install
      → R core (with_entry core (entry.Accept key (register_message name ct) place))
  pub takes_back : (core : CoreState) (reg value : ℕ) → IsLive core slot
      → R core (with_cells core (set core.cells reg (record { value = value; tag = slot })))

-- a slot that is paused is one of the table's
paused-within : (core : CoreState) (slot : ℕ) → (session_of core slot).state ≡ state.Paused
    → slot < length core.sessions
paused-within core slot waits_there = elim (less slot (length core.sessions)) [
  | inl within ↦ within
  | inr past ↦ absurd (let its = ap (λ s. s.state) (get_or_past core.sessions slot free past) in cc)
]

-- ---- Rows of tests

-- none of the tests holds
abbrev Passes : List (Bool × ℕ) → Type 0
Passes [] = Unit {0}
Passes (test ∷ tests) = (test.0 ≡ false) × Passes tests

pub slot_from : (slot : ℕ) → not (is_slot slot) ≡ false → (1 ≤ slot) × (slot ≤ 16)
slot_from slot good = elim (is_slot slot) as (λ b. is_slot slot ≡ b → not b ≡ false → (1 ≤ slot)
    × (slot ≤ 16)) [
      | true ↦ λ is _. (grind (arith, nat_tests), grind (arith, nat_tests))
      | false ↦ λ _ bad. absurd (cc)
    ] refl good

-- no bad slot is a slot, and is taken
pub good_slot : (core : CoreState) (slot : ℕ) → is_bad_slot core slot ≡ false
    → ((1 ≤ slot) × (slot ≤ 16)) × (is_free_state (session_of core slot).state ≡ false)
good_slot core slot good = elim (is_slot slot) as (λ b. is_slot slot ≡ b
    → (not b || is_free_state (session_of core slot).state) ≡ false → ((1 ≤ slot) × (slot ≤ 16))
    × (is_free_state (session_of core slot).state ≡ false)) [
      | true ↦ λ is taken_so. ((grind (arith, nat_tests), grind (arith, nat_tests)), taken_so)
      | false ↦ λ _ bad. absurd (cc)
    ] refl good

pub waits_live : (s : SlotState) → not (can_come_back s) ≡ false → is_live s ≡ true
waits_live state.Fresh is = refl
waits_live state.Paused is = refl
waits_live _ is = absurd (cc)

pub paused_live : (s : SlotState) → not (is_paused s) ≡ false → is_live s ≡ true
paused_live state.Paused is = refl
paused_live _ is = absurd (cc)

pub free_of : (s : SlotState) → not (is_free_state s) ≡ false → s ≡ state.Free
free_of state.Free is = refl
free_of _ is = absurd (cc)

module _ (v : Versions) (slot : ℕ) (R T : CoreState → CoreState → Type 0) (parts : Parts v slot R)
    (ends : Ends slot R T) (deeds : Deeds v slot R T) where
  -- what was walked is an end
  by_parts : (core new : CoreState) → R core new → T core new
  by_parts core new walked = ends.after core new new walked (ends.went new)

  -- ---- A flush

  module _ (core : CoreState) (place : ℕ) where
    abbrev its_way : Way
    its_way = way_at core.ways place

    taken_answer : its_way.dirty ≡ true → (answer : Result ℕ Torn)
        → raised_for v core its_way ≡ answer
        → R core (after_eviction place
        (or_stopped v its_way.slot
        (sealed_by_raise v (after_raise v core its_way.slot its_way.line) its_way.slot
        its_way.line its_way.bytes answer))).0
    taken_answer dirty (Ok version) is = parts.seal core place version free_way dirty is (inl refl)
    taken_answer dirty (Err torn) is = parts.tear core place torn dirty is

    taken_dirty : (dirty : Bool) → its_way.dirty ≡ dirty
        → R core (after_eviction place (after_victim v core its_way dirty)).0
    taken_dirty false clean = parts.bring core place free_way clean (inl refl)
    taken_dirty true dirty = taken_answer dirty (raised_for v core its_way) refl

    walk_taken_at : R core (after_eviction place (cleared_at v core place)).0
    unfolding cleared_at
    walk_taken_at = taken_dirty its_way.dirty refl

  walk_taken : (core : CoreState) (at : Option ℕ) → R core (taken_out v core at).0
  walk_taken core None = parts.none core
  walk_taken core (Some place) = walk_taken_at core place

  then_walks : (core : CoreState) (first : CoreState × Option Rule) (rest : CoreState → CoreState
      × Option Rule)
      → R core first.0 → ((mid : CoreState) → R mid (rest mid).0) → R core (and_then first rest).0
  then_walks core (mid, None) rest walked more = parts.on core mid (rest mid).0 walked (more mid)
  then_walks core (mid, Some why) rest walked more = walked

  walk_flushed : (count line : ℕ) (core : CoreState) → R core (after_flush v slot count line core).0
  unfolding after_flush
  walk_flushed zero line core = parts.none core
  walk_flushed (suc count) line core =
      then_walks core (taken_out v core (place_of_line core.ways slot line))
      (after_flush v slot count (line + 1)) (walk_taken core (place_of_line core.ways slot line))
      (λ mid. walk_flushed count (line + 1) mid)

  -- ---- Operations

  -- by a test
  either : (core : CoreState) (b : Bool) (one other : CoreState × ℕ) → (b ≡ true → T core one.0)
      → T core other.0 → T core (cond b one other).0
  either core true one other first second = first refl
  either core false one other first second = second

  walk_enter : (core : CoreState) (at : SlotState) → (session_of core slot).state ≡ at
      → T core (enter core slot at).0
  walk_enter core state.Free is = ends.went core
  walk_enter core state.Fresh is = by_parts core _ (deeds.enters core is)
  walk_enter core _ is = ends.went core

  module _ (core : CoreState) (is : (session_of core slot).state ≡ state.Paused) (signal : ℕ) where
    abbrev now : CoreState
    now = core_with_session core slot (session_after_resume (session_of core slot))

    here : session_of now slot ≡ session_after_resume (session_of core slot)
    here = get_or-set_same core.sessions slot _ free (paused-within core slot is)

    -- a signal is a step
    walk_signal : R now (with_signal now slot signal)
    walk_signal =
        cond_both (signal == 0) now (after_delivery now slot signal) (λ new. R now new)
        (λ _. parts.none now)
        (λ _. parts.step now 0 (session_after_signal (session_of now slot) signal)
        (signal_of (session_of now slot) signal) (ap (λ s. s.state) here)
        (record { install = refl; id = refl; key = refl; lines = refl; epoch = refl; state = refl })
        tt)

    walk_go_on : (lost : Option ℕ) → T core (resume_or_stop core slot signal lost).0
    walk_go_on None = by_parts core _ (parts.on core now _ (deeds.resumes core is) walk_signal)
    walk_go_on (Some reg) =
        by_parts core _ (parts.stop core (rule.RegisterMissing reg) (ap is_live is))

    walk_paused : T core (resume_paused core slot signal).0
    walk_paused =
        either core (nat_le signal 63) (cond (slot_takes_signal (session_of core slot) signal)
        (resume_or_stop core slot signal (missing_cell slot (session_of core slot).mask core.cells))
        (core, 2)) (core, 7)
        (λ _. either core (slot_takes_signal (session_of core slot) signal)
        (resume_or_stop core slot signal (missing_cell slot (session_of core slot).mask core.cells))
        (core, 2)
        (λ _. walk_go_on (missing_cell slot (session_of core slot).mask core.cells))
        (ends.went core))
        (ends.went core)

  walk_resume : (core : CoreState) (signal : ℕ) (at : SlotState) → (session_of core slot).state ≡ at
      → T core (resume core slot signal at).0
  walk_resume core signal state.Free is = ends.went core
  walk_resume core signal state.Fresh is = ends.went core
  walk_resume core signal state.Running is = ends.went core
  walk_resume core signal state.Paused is = walk_paused core is signal
  walk_resume core signal state.Ended is = ends.went core
  walk_resume core signal (state.Stopped why) is = ends.went core

  walk_tested : (core : CoreState) (tests : List (Bool × ℕ)) (deed : CoreState × ℕ)
      → (Passes tests → T core deed.0) → T core (first_refusal_or core tests deed).0
  walk_tested core [] deed does = does tt
  walk_tested core (test ∷ tests) deed does =
      cond_both test.0 (refusal_of core test.1) (first_refusal_or core tests deed)
      (λ (a : CoreState × ℕ). T core a.0)
      (λ _. ends.went core) (λ passed. walk_tested core tests deed (λ rest. does (passed, rest)))

  walk_unwrap : (core : CoreState) (place area : ℕ) → (1 ≤ slot) × (slot ≤ 16)
      → (session_of core slot).state ≡ state.Free
      → (opens : Option Unwrapped) → envelope_contents core.machine (envelope_in_ram core place) ≡ opens
      → T core (unwrap v core slot place area opens).0
  walk_unwrap core place area slots is_free None is = ends.went core
  walk_unwrap core place area slots is_free (Some plain) is =
      walk_tested core (image_tests core plain) (after_install v core slot place area plain, 0)
      (λ (p : Passes (image_tests core plain)). deeds.installs core place area plain slots.0
      slots.1 is_free is p.0)

  walk_install : (core : CoreState) (place area : ℕ) → T core (install v core slot place area).0
  walk_install core place area = walk_tested core (install_tests core slot place area)
      (unwrap v core slot place area (envelope_contents core.machine (envelope_in_ram core place)))
      (λ (p : Passes (install_tests core slot place area)).
      walk_unwrap core place area (slot_from slot p.0) (free_of (session_of core slot).state p.1.0)
      (envelope_contents core.machine (envelope_in_ram core place)) refl)

  walk_map : (core : CoreState) (page frame : ℕ) → T core (map_page v core slot page frame).0
  walk_map core page frame = walk_tested core (map_tests core slot page frame)
      (record core { pages = with_page core.pages slot page (Some frame) }, 0)
      (λ (p : Passes (map_tests core slot page frame)). by_parts core
      _ (deeds.maps core page (Some frame) (inl (waits_live (session_of core slot).state p.1.0))))

  walk_unmapped : (core : CoreState) (page : ℕ) (result : CoreState × Option Rule) → R core result.0
      → T core (after_unmap v slot page result).0
  walk_unmapped core page (mid, None) walked =
      by_parts core _ (parts.on core mid _ walked (deeds.maps mid page None (inr refl)))
  walk_unmapped core page (mid, Some why) walked = by_parts core mid walked

  walk_unmap : (core : CoreState) (page : ℕ) → T core (unmap_page v core slot page).0
  walk_unmap core page = walk_tested core (unmap_tests core slot page)
      (after_unmap v slot page (after_flush v slot 128 (128 * page) core))
      (λ _. walk_unmapped core page (after_flush v slot 128 (128 * page) core)
      (walk_flushed 128 (128 * page) core))

  walk_kill : (core : CoreState) → T core (kill v core slot).0
  walk_kill core = walk_tested core (kill_tests core slot) (after_kill v core slot, 0)
      (λ (p : Passes (kill_tests core slot)). let good = good_slot core slot p.0 in
      by_parts core _ (deeds.kills core good.0.0 good.0.1 good.1))

  -- a register is sealed and written to RAM
  walk_save : (core : CoreState) (reg address : ℕ) → T core (save_register core slot reg address).0
  unfolding after_save
  walk_save core reg address = walk_tested core (save_tests core slot reg address)
      (after_save core slot reg address, 0) (λ (p : Passes (save_tests core slot reg address)).
      let who = who_of core slot in
      let epoch = epoch_of core slot in
      let pair = reg_pair who epoch reg (cell_at core.cells reg).value in
      let sealed = with_entry core (entry.Seal pair.0 pair.1) in
      by_parts core _ (parts.on core sealed
      _ (deeds.saves core pair.0 (sealed_reg who epoch reg (cell_at core.cells reg).value).ct
      (reg_name who epoch reg) (paused_live (session_of core slot).state p.1.0) refl)
      (deeds.sets_ram sealed _)))

  -- it comes back, or stops its slot
  walk_reopened : (core : CoreState) (reg address : ℕ) → IsLive core slot → (found : Option ℕ)
      → T core (after_reopening core slot reg address found).0
  unfolding after_restore
  walk_reopened core reg address alive None =
      by_parts core _ (parts.stop core (rule.RegisterTag reg) alive)
  walk_reopened core reg address alive (Some value) =
      let who = who_of core slot in
      let accepted = with_entry core (reg_accept_entry who (epoch_of core slot) reg
      (saved_at core.ram address).ct address) in
      by_parts core _ (parts.on core accepted
      _ (deeds.restores core (reg_keys who (epoch_of core slot)).tag.0
      (saved_at core.ram address).ct (reg_name who (epoch_of core slot) reg) address alive refl)
      (deeds.takes_back accepted reg value alive))

  walk_restore : (core : CoreState) (reg address : ℕ)
      → T core (restore_register core slot reg address).0
  walk_restore core reg address = walk_tested core (restore_tests core slot reg address)
      (reopening core slot reg address)
      (λ (p : Passes (restore_tests core slot reg address)). walk_reopened core reg address
      (paused_live (session_of core slot).state p.1.0) _)

  walk_register : (core : CoreState) (reg value : ℕ) → T core (set_register core reg value).0
  walk_register core reg value =
      either core (is_cell reg)
      (with_cells core (set core.cells reg (record { value = value; tag = 0 })), 0) (core, 7)
      (λ _. by_parts core _ (deeds.sets_register core reg value)) (ends.went core)

-- an operation, over relations about the slot that it names
pub walk_operation : (v : Versions) (op : Op) (R T : CoreState → CoreState → Type 0)
    → Parts v (slot_of_op op) R → Ends (slot_of_op op) R T → Deeds v (slot_of_op op) R T
    → (core : CoreState) → T core (operation v core op).0
unfolding operation
walk_operation v (Enter slot) R T parts ends deeds core =
    either v slot R T parts ends deeds core (is_slot slot)
    (enter core slot (session_of core slot).state) (core, 1)
    (λ _. walk_enter v slot R T parts ends deeds core (session_of core slot).state refl)
    (ends.went core)
walk_operation v (Resume slot signal) R T parts ends deeds core =
    either v slot R T parts ends deeds core (is_slot slot)
    (resume core slot signal (session_of core slot).state) (core, 1)
    (λ _. walk_resume v slot R T parts ends deeds core signal (session_of core slot).state refl)
    (ends.went core)
walk_operation v (SetReg reg value) R T parts ends deeds core =
    walk_register v 0 R T parts ends deeds core reg value
walk_operation v Halt R T parts ends deeds core = ends.went core
walk_operation v (Install slot place area) R T parts ends deeds core =
    walk_install v slot R T parts ends deeds core place area
walk_operation v (Save slot reg address) R T parts ends deeds core =
    walk_save v slot R T parts ends deeds core reg address
walk_operation v (Restore slot reg address) R T parts ends deeds core =
    walk_restore v slot R T parts ends deeds core reg address
walk_operation v (Map slot page frame) R T parts ends deeds core =
    walk_map v slot R T parts ends deeds core page frame
walk_operation v (Unmap slot page) R T parts ends deeds core =
    walk_unmap v slot R T parts ends deeds core page
walk_operation v (Kill slot) R T parts ends deeds core = walk_kill v slot R T parts ends deeds core
walk_operation v (Out byte) R T parts ends deeds core =
    ends.after core _ _ (deeds.outs core byte) (ends.went _)

-- ---- Null code, writes and every event

module _ (v : Versions) (slot : ℕ) (R T : CoreState → CoreState → Type 0) (parts : Parts v slot R)
    (ends : Ends slot R T) (deeds : Deeds v slot R T) where
  walk_written : (core : CoreState) (written : Writes)
      → R core (with_cells core (with_null_writes core.cells written))
  walk_written core writes.Nothing = parts.none core
  walk_written core (writes.One reg value) = deeds.sets_register core reg value
  walk_written core (writes.Pair hi lo) =
      let first = with_cells core (set core.cells 32 (record { value = hi; tag = 0 })) in
      parts.on core first _ (deeds.sets_register core 32 hi) (deeds.sets_register first 33 lo)

  walk_opened_cells : (core : CoreState) (cells : List Cell) (ram : List ℕ) → Opens core.cells cells
      → R core (record core { cells = cells; ram = ram })
  walk_opened_cells core cells ram opens =
      parts.on core (with_cells core cells) _ (subst (λ cs. R core (with_cells core cs))
      (sym opens.1) (walk_written core opens.0)) (deeds.sets_ram (with_cells core cells) ram)

walk_null : (v : Versions) (R T : CoreState → CoreState → Type 0) (r : Record) (answer : Answer)
    → Opens r.core.cells answer.0.cells
    → Parts v (named_in answer.1) R → Ends (named_in answer.1) R T → Deeds v (named_in answer.1) R T
    → T r.core (null_turn v r answer).0.core
walk_null v R T r (s, Err why) opens parts ends deeds =
    ends.after _ _ _ (walk_opened_cells v 0 R T parts ends deeds r.core s.cells s.ram opens)
    (ends.went _)
walk_null v R T r (s, Ok None) opens parts ends deeds =
    ends.after _ _ _ (walk_opened_cells v 0 R T parts ends deeds r.core s.cells s.ram opens)
    (ends.went _)
walk_null v R T r (s, Ok (Some op)) opens parts ends deeds =
    ends.after _ _ _ (walk_opened_cells v (slot_of_op op) R T parts ends deeds r.core s.cells s.ram
    opens) (walk_operation v op R T parts ends deeds (with_open r s).core)

walk_turn : (v : Versions) (R T : CoreState → CoreState → Type 0) (r : Record) (interrupt : Bool)
    (at : Option ℕ)
    → running_slot r ≡ at
    → Parts v (slot_or_none at) R → Ends (slot_or_none at) R T
    → T r.core (guest_turn v r interrupt at).0.core
walk_turn v R T r interrupt None is parts ends = ends.went r.core
walk_turn v R T r interrupt (Some slot) is parts ends =
    let result = guest v r.core slot interrupt in
    subst (λ c. T r.core c) (sym (ran_on-core r slot result.0 result.1))
    (walk_guest v slot R parts T ends interrupt r.core (running-runs r.core slot is))

-- an event, over relations about the slot that it runs or names
pub walk_event : (v : Versions) (R T : CoreState → CoreState → Type 0) (r : Record) (e : Event)
    (bytes : List ℕ)
    → Parts v (slot_of_event r e) R → Ends (slot_of_event r e) R T → Deeds v (slot_of_event r e) R T
    → T r.core (on v r e bytes).0.core
unfolding on
walk_event v R T r (event.Do op) bytes parts ends deeds =
    walk_operation v op R T parts ends deeds r.core
walk_event v R T r (event.Guest interrupt) bytes parts ends deeds =
    walk_turn v R T r interrupt (running_slot r) refl parts ends
walk_event v R T r event.Null bytes parts ends deeds =
    walk_null v R T r (null_step (told_in r) (open_in r)) (opens_null (told_in r) (open_in r)) parts
    ends deeds
walk_event v R T r (event.Write address count) bytes parts ends deeds =
    ends.after _ _ _ (deeds.sets_ram r.core _) (ends.went _)
walk_event v R T r (event.Poke address count) bytes parts ends deeds =
    ends.after _ _ _ (deeds.sets_ram r.core _) (ends.went _)
