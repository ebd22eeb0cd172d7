-- An operation, where no guest runs, keeps what the machine keeps.
use Rattle.std.proofs.Common.{◌≡◌, ◌≢◌, inl, inr, ℕ, zero, suc, ◌+◌, ◌*◌, ◌<◌, ◌≤◌, Bool, List, [], ◌∷◌, ◌++◌, Option, Some, None, length, set, refl, sym, ◌∙◌, ap, subst, arith, true, false, cond, length-set, not, ◌||◌}
use Rattle.std.specs.Prelude.{nat_le, nat_lt, ◌==◌, ◌&&◌, ◌^◌, is_some}
use Rattle.std.proofs.lemmas.List.{get_or-set_same, get_or-set_other}
use Rattle.std.proofs.lemmas.Bool.{cond_both, eqb-false, eqb-true, le-leb}
use Rattle.std.proofs.lemmas.Bool.Decides.{eqb_tells, nat_tests}
use Rattle.std.specs.Int.{bit_at}
use Rattle.xom_base.specs.declared.entry.Entry.TheVariants as entry
use Rattle.xom_base.specs.declared.event.Op.{Op}
use Rattle.xom_base.specs.declared.event.Op.TheVariants.{Install, Enter, Resume, Save, Restore, Map, Unmap, SetReg, Kill, Out, Halt}
use Rattle.xom_base.specs.declared.event.Rule.{Rule}
use Rattle.xom_base.specs.declared.event.Rule.TheVariants as rule
use Rattle.xom_seal.specs.declared.envelope.Unwrapped.{Unwrapped}
use Rattle.xom_seal.specs.Envelopes.{envelope_contents}
use Rattle.xom_owners.specs.declared.owner.Owner.{Owner}
use Rattle.mips_plain.specs.Instruction.{is_signal, is_signal_ready}
use Rattle.tag_regs.specs.declared.cell.Cell.{Cell}
use Rattle.tag_regs.specs.TaggedCells.{cell_at, empty_cell}
use Rattle.session_table.specs.declared.session.Session.{Session}
use Rattle.session_table.specs.declared.session.SlotState.{SlotState}
use Rattle.session_table.specs.declared.session.SlotState.TheVariants as state
use Rattle.session_table.specs.Sessions.{free, is_live, session_after_resume}
use Rattle.journal_findings.specs.Findings.{sealed_by}
use Rattle.xom_model.specs.Honest.{Sealing}
use Rattle.xom_versions.specs.Versions.{VersionLaw, Versions}
use Rattle.xom_model.specs.Versions.{StandsFor}
use Rattle.xom_model.specs.State.{CoreState, core_with_session, ram_holds_range as fits_ram, session_of, with_entry}
use Rattle.xom_model.specs.Access.{after_flush}
use Rattle.xom_model.specs.Guest.{after_delivery}
use Rattle.xom_seal.specs.Sealing.{unsealed_register}
use Rattle.xom_model.specs.Lines.{who_of}
use Rattle.xom_model.specs.Saves.{reg_keys, reg_name, reg_seal_entry, saved_at, sealed_reg}
use Rattle.xom_seal.proofs.SealLaws.{length-register_masked}
use Rattle.xom_model.proofs.RamSize.{length-register_tag, length-with_saved}
use Rattle.xom_model.specs.Operation.{after_install, after_reopening, after_restore, after_save, after_unmap, can_come_back, enter, envelope_in_ram, envelope_size, epoch_of, first_refusal_or, image_tests, install, install_tests, is_bad_slot, is_cell, is_free_state, is_missing, is_own_cell, is_paused, is_slot, kill, kill_tests, map_page, map_tests, missing_cell, missing_from, operation, refusal_of, register_tests, restore_register, restore_tests, resume, resume_or_stop, resume_paused, save_register, save_tests, set_register, slot_takes_signal, unmap_page, unmap_tests, unwrap}
use Rattle.xom_model.specs.Holds.{Holds, IsHeld, IsLive, IsRunning, line_of_bytes}
use Rattle.xom_model.proofs.InstallKept.{install_keeps}
use Rattle.xom_model.proofs.Growth.{IsTrusted, goes_entry, goes_none, seals_none, honest_before}
use Rattle.xom_model.proofs.RestoreKept.{restored_out}
use Rattle.xom_model.proofs.SavesKept.{saved_out}
use Rattle.xom_model.proofs.KeptLaws.{aside_private, aside_shape, kept_holds, kept_rest}
use Rattle.xom_model.proofs.Gone.{killed_kept, stopped_kept}
use Rattle.xom_model.proofs.Frame.{Agrees-same}
use Rattle.xom_model.proofs.Steps.{delivered_holds}
use Rattle.xom_model.proofs.ChangeKept.{entered_holds, resumed_holds}
use Rattle.xom_model.proofs.GuestKept.{sound_of}
use Rattle.xom_model.proofs.PagesKept.{map_kept, unmap_kept}
use Rattle.xom_versions.specs.Store.{area_size}
use Rattle.line_ram.specs.Bytes.{HoldsRange}
use Rattle.xom_model.proofs.Opening.{OwnersTell}

-- no cell from this one on is missing
none_missing : (slot mask : ℕ) (cells : List Cell) (count from reg : ℕ)
    → missing_from slot mask cells count from ≡ None → from ≤ reg → reg < from + count
    → is_missing slot mask cells reg ≡ false
none_missing slot mask cells zero from reg none low high = absurd (omega arith)
none_missing slot mask cells (suc count) from reg none low high =
    elim (is_missing slot mask cells from) as (λ b. is_missing slot mask cells from ≡ b
    → cond b (Some from) (missing_from slot mask cells count (from + 1)) ≡ None → is_missing slot
    mask cells reg ≡ false) [
      | true ↦ λ _ found. absurd (cc)
      | false ↦ λ here rest. elim (eqb_tells reg from) [
        | inl is ↦ ap (is_missing slot mask cells) is.1 ∙ here
        | inr differs ↦ none_missing slot mask cells count (from + 1) reg rest
            (let apart : reg ≢ from = differs.1 in omega arith) (omega arith)
      ]
    ] refl none

-- a cell of the mask that isn't missing has the slot's tag
tag-of_mask : (slot mask : ℕ) (cells : List Cell) (reg : ℕ) → is_missing slot mask cells reg ≡ false
    → bit_at mask reg ≡ 1 → (cell_at cells reg).tag ≡ slot
tag-of_mask slot mask cells reg here bit = elim (eqb_tells (cell_at cells reg).tag slot) [
  | inl is ↦ is.1
  | inr other ↦ absurd (let found = rw (bit, other.0) at here in cc)
]

pub missing-none : (slot mask : ℕ) (cells : List Cell) (reg : ℕ)
    → missing_cell slot mask cells ≡ None → 1 ≤ reg → reg < 34 → bit_at mask reg ≡ 1
    → (cell_at cells reg).tag ≡ slot
unfolding missing_cell
missing-none slot mask cells reg none low high bit =
    tag-of_mask slot mask cells reg (none_missing slot mask cells 33 1 reg none low (omega arith))
    bit

-- the cell of a register is of the null compartment
module _ (Stands : StandsFor) (owners : List Owner) (v : Versions) (law : VersionLaw v Stands)
    (core : CoreState) (reg value : ℕ) (none : (other : ℕ) → ¬ IsRunning core other)
    (holds : Holds Stands owners core) where
  abbrev opened : Cell
  opened = record { value = value; tag = 0 }

  abbrev cleared : CoreState
  cleared = record core { cells = set core.cells reg opened }

  -- a cell that has a tag still is as it was
  tag_kept : (r : ℕ) → r < 34 → (cell_at cleared.cells r).tag ≢ 0
      → cell_at cleared.cells r ≡ cell_at core.cells r
  tag_kept r to some = elim (eqb_tells r reg) [
    | inl is ↦ absurd (some
        (rw is.1 (ap (λ c. c.tag) (get_or-set_same core.cells reg opened empty_cell
        (let places : length core.cells ≡ 34 = holds.slots.cell_places in let same : r ≡ reg =
        is.1 in omega arith)))))
    | inr differs ↦ get_or-set_other core.cells reg r opened empty_cell differs.1
  ]

  live_some : (slot : ℕ) → IsLive core slot → slot ≢ 0
  live_some slot live null =
      absurd (cc (ap (λ k. is_live (session_of core k).state) null, live, holds.slots.shape.null))

  held_cleared : (slot : ℕ) → IsLive core slot → IsHeld Stands owners cleared slot
  held_cleared slot live =
      let held = holds.slots.held slot live in (
        held.0,
        held.1,
        held.2,
        Agrees-same (session_of core slot) core.cells cleared.cells core.entries core.entries slot
            held.0 held.1 (λ r from to tag. tag_kept r to
            (λ null. live_some slot live (sym tag ∙ null))) refl held.3,
        aside_private Stands owners v law core cleared.cells core.pointers core.ram core.entries
            (goes_none core.entries).more refl slot held.0 (line_of_bytes held.1.bytes) held.4,
        held.5,
      )

  pub cleared_holds : Holds Stands owners cleared
  cleared_holds = record {
    slots = record {
      alone = holds.slots.alone;
      held = held_cleared;
      tags = λ r from to some.
          let same = tag_kept r to some in
          subst (λ c. IsLive core c.tag) (sym same)
          (holds.slots.tags r from to (λ null. some (ap (λ c. c.tag) same ∙ null)));
      ids = holds.slots.ids;
      steps = holds.slots.steps;
      installs = holds.slots.installs;
      shape = aside_shape Stands owners v law core cleared.cells core.pointers core.ram core.entries
          (goes_none core.entries).more refl holds.slots.shape;
      fits = record { frames = holds.slots.fits.frames; areas = holds.slots.fits.areas };
      seals = holds.slots.seals;
      cell_places = length-set core.cells reg _ ∙ holds.slots.cell_places;
      session_places = holds.slots.session_places;
    };
    running = record {
      one = λ slot other runs runs'. absurd (none slot runs);
      tagged = λ slot r runs from to bit. absurd (none slot runs);
    };
  }

module _ (Stands : StandsFor) (owners : List Owner) (v : Versions) (law : VersionLaw v Stands)
    (core : CoreState) (none : (other : ℕ) → ¬ IsRunning core other)
    (holds : Holds Stands owners core) where
  some_slot : (slot : ℕ) → 1 ≤ slot → slot ≢ 0
  some_slot slot some null = absurd (omega arith)

  enter_holds : (slot : ℕ) → 1 ≤ slot → slot ≤ 16 → (at : SlotState)
      → (session_of core slot).state ≡ at → Holds Stands owners (enter core slot at).0
  enter_holds slot some known state.Free is = holds
  enter_holds slot some known state.Fresh is =
      entered_holds Stands owners v law core slot (some_slot slot some) known holds none is
  enter_holds slot some known _ is = holds

  go_on_holds : (slot signal : ℕ) → 1 ≤ slot → slot ≤ 16
      → (session_of core slot).state ≡ state.Paused
      → slot_takes_signal (session_of core slot) signal ≡ true → nat_le signal 63 ≡ true
      → (lost : Option ℕ) → missing_cell slot (session_of core slot).mask core.cells ≡ lost
      → Holds Stands owners (resume_or_stop core slot signal lost).0
  go_on_holds slot signal some known is fit small None whole =
      let now = core_with_session core slot (session_after_resume (session_of core slot)) in
      let first : Holds Stands owners now = resumed_holds Stands owners v law core slot
      (some_slot slot some) known holds none is (λ reg from to bit. missing-none slot
      (session_of core slot).mask core.cells reg whole from to bit) in
      let here : session_of now slot ≡ session_after_resume (session_of core slot) =
      get_or-set_same core.sessions slot _ free (let places : length core.sessions ≡ 17 =
      holds.slots.session_places in omega arith) in
      let runs : IsRunning now slot = ap (λ s. s.state) here in
      let held = first.slots.held slot (rw runs refl) in
      cond_both (signal == 0) now (after_delivery now slot signal) (Holds Stands owners)
      (λ _. first)
      (λ real. delivered_holds Stands owners v law now slot some known runs first held.0 held.1
      held.2 held.3 held.4 signal
      (subst (λ (s : Session). (is_signal signal && is_signal_ready s.handler s.saved) ≡ true)
      (sym here) (taken_so (session_of core slot) signal real small fit)))
    where
      taken_so : (s : Session) (signal : ℕ) → (signal == 0) ≡ false → nat_le signal 63 ≡ true
          → slot_takes_signal s signal ≡ true
          → (is_signal signal && is_signal_ready s.handler s.saved) ≡ true
      taken_so s signal real small fit =
          let differs = eqb-false signal 0 real in
          let from : nat_le 1 signal ≡ true = le-leb 1 signal (let it : signal ≢ 0 = differs in
          omega arith) in
          let ready : is_signal_ready s.handler s.saved ≡ true = rw real at fit in
          rw (from, small, ready) refl
  go_on_holds slot signal some known is fit small (Some reg) found =
      kept_holds Stands owners core _
      (stopped_kept Stands owners v law core slot (some_slot slot some) holds.slots.session_places
      known holds.slots.cell_places holds.slots.shape (rule.RegisterMissing reg))
      holds

  resume_paused_holds : (slot signal : ℕ) → 1 ≤ slot → slot ≤ 16
      → (session_of core slot).state ≡ state.Paused
      → Holds Stands owners (resume_paused core slot signal).0
  resume_paused_holds slot signal some known is =
      cond_both (nat_le signal 63) (cond (slot_takes_signal (session_of core slot) signal)
      (resume_or_stop core slot signal (missing_cell slot (session_of core slot).mask core.cells))
      (core, 2)) (core, 7) (λ (a : CoreState × ℕ). Holds Stands owners a.0)
      (λ small. cond_both (slot_takes_signal (session_of core slot) signal)
      (resume_or_stop core slot signal (missing_cell slot (session_of core slot).mask core.cells))
      (core, 2) (λ (a : CoreState × ℕ). Holds Stands owners a.0)
      (λ fit. go_on_holds slot signal some known is fit small _ refl) (λ _. holds))
      (λ _. holds)

  resume_holds : (slot signal : ℕ) → 1 ≤ slot → slot ≤ 16 → (at : SlotState)
      → (session_of core slot).state ≡ at → Holds Stands owners (resume core slot signal at).0
  resume_holds slot signal some known state.Free is = holds
  resume_holds slot signal some known state.Fresh is = holds
  resume_holds slot signal some known state.Running is = holds
  resume_holds slot signal some known state.Paused is =
      resume_paused_holds slot signal some known is
  resume_holds slot signal some known state.Ended is = holds
  resume_holds slot signal some known (state.Stopped why) is = holds

  -- where the number names a slot
  if_slot : (slot : ℕ) (result : CoreState × ℕ)
      → (1 ≤ slot → slot ≤ 16 → Holds Stands owners result.0)
      → Holds Stands owners (cond (is_slot slot) result (core, 1)).0
  if_slot slot result then_holds =
      elim (is_slot slot) as (λ b. is_slot slot ≡ b → Holds Stands owners
      (cond b result (core, 1)).0) [
        | true ↦ λ is. then_holds (grind (arith, nat_tests)) (grind (arith, nat_tests))
        | false ↦ λ _. holds
      ] refl

  set_register_holds : (reg value : ℕ) → Holds Stands owners (set_register core reg value).0
  set_register_holds reg value =
      elim (is_cell reg) as
      (λ b. Holds Stands owners
      (cond {A = CoreState × ℕ} b
      (record core { cells = set core.cells reg (record { value = value; tag = 0 }) }, 0)
      (core, 7)).0) [
        | true ↦ cleared_holds Stands owners v law core reg value none holds
        | false ↦ holds
      ]

  -- ---- Rows of tests

  -- an operation keeps what holds where its deed does, if none of its tests holds
  abbrev Passes : List (Bool × ℕ) → Type 0
  Passes [] = Unit {0}
  Passes (test ∷ tests) = (test.0 ≡ false) × Passes tests

  tested_holds : (tests : List (Bool × ℕ)) (deed : CoreState × ℕ)
      → (Passes tests → Holds Stands owners deed.0)
      → Holds Stands owners (first_refusal_or core tests deed).0
  tested_holds [] deed does = does tt
  tested_holds (test ∷ tests) deed does =
      cond_both test.0 (refusal_of core test.1) (first_refusal_or core tests deed)
      (λ (a : CoreState × ℕ). Holds Stands owners a.0)
      (λ _. holds) (λ passed. tested_holds tests deed (λ rest. does (passed, rest)))

  -- no bad slot is a slot
  good_slot : (slot : ℕ) → is_bad_slot core slot ≡ false → (1 ≤ slot) × (slot ≤ 16)
  good_slot slot good = elim (is_slot slot) as (λ b. is_slot slot ≡ b
      → (not b || is_free_state (session_of core slot).state) ≡ false → (1 ≤ slot) × (slot ≤ 16)) [
        | true ↦ λ is _. (grind (arith, nat_tests), grind (arith, nat_tests))
        | false ↦ λ _ bad. absurd (cc)
      ] refl good

  slot_from : (slot : ℕ) → not (is_slot slot) ≡ false → (1 ≤ slot) × (slot ≤ 16)
  slot_from slot good = elim (is_slot slot) as (λ b. is_slot slot ≡ b → not b ≡ false → (1 ≤ slot)
      × (slot ≤ 16)) [
        | true ↦ λ is _. (grind (arith, nat_tests), grind (arith, nat_tests))
        | false ↦ λ _ bad. absurd (cc)
      ] refl good

  -- a slot that waits is live
  waits_live : (s : SlotState) → not (can_come_back s) ≡ false → is_live s ≡ true
  waits_live state.Fresh is = refl
  waits_live state.Paused is = refl
  waits_live _ is = absurd (cc)

  none_of_some : (o : Option ℕ) → is_some o ≡ false → o ≡ None
  none_of_some None is = refl
  none_of_some (Some x) is = absurd (cc)

  fits_from : (address count : ℕ) → not (fits_ram core.ram address count) ≡ false
      → address + count ≤ length core.ram
  fits_from address count good = elim (fits_ram core.ram address count) as
      (λ b. fits_ram core.ram address count ≡ b → not b ≡ false → address + count ≤ length core.ram) [
        | true ↦ λ is _. grind (arith, nat_tests)
        | false ↦ λ _ bad. absurd (cc)
      ] refl good

  both_fit : (first second : Bool) → not (first && second) ≡ false → not second ≡ false
  both_fit true second good = good
  both_fit false second good = absurd (cc)

  free_of : (s : SlotState) → not (is_free_state s) ≡ false → s ≡ state.Free
  free_of state.Free is = refl
  free_of _ is = absurd (cc)

  map_holds : (slot page frame : ℕ) → Holds Stands owners (map_page v core slot page frame).0
  map_holds slot page frame = tested_holds (map_tests core slot page frame)
      _ (λ (p : Passes (map_tests core slot page frame)).
      let slots = good_slot slot p.0 in
      kept_holds Stands owners core _ (map_kept Stands owners core slot page frame
      (some_slot slot slots.0) slots.1 (waits_live (session_of core slot).state p.1.0)
      holds.slots.shape (none_of_some _ p.1.1.1.1.0) (fits_from (frame * 8192) 8192 p.1.1.1.0))
      holds)

  kill_holds : (slot : ℕ) → Holds Stands owners (kill v core slot).0
  kill_holds slot = tested_holds (kill_tests core slot) _ (λ (p : Passes (kill_tests core slot)).
      let slots = good_slot slot p.0 in
      kept_holds Stands owners core _ (killed_kept Stands owners v law core slot
      (some_slot slot slots.0) holds.slots.session_places slots.1 holds.slots.cell_places
      holds.slots.shape) holds)

  out_holds : (byte : ℕ) → Holds Stands owners (with_entry core (entry.Out byte))
  out_holds byte =
      let out = entry.Out byte in
      kept_holds Stands owners core _ (kept_rest Stands owners v law core core.pointers core.ram
      (core.entries ++ out ∷ [])
      (goes_entry core.entries out (record { step = λ n. refl; install = λ n id no. no }))
      (seals_none core.entries out refl) refl) holds

  module _ (sealed : List Sealing) where
    -- where the tests let the deed pass, what is said of its journal
    tested_honest : (tests : List (Bool × ℕ)) (deed : CoreState × ℕ) → Passes tests
        → IsTrusted sealed (first_refusal_or core tests deed).0.entries
        → IsTrusted sealed deed.0.entries
    tested_honest [] deed passes honest = honest
    tested_honest (test ∷ tests) deed passes honest =
        tested_honest tests deed passes.1 (rw passes.0 at honest)

    tested_holds_if : (tests : List (Bool × ℕ)) (deed : CoreState × ℕ)
        → IsTrusted sealed (first_refusal_or core tests deed).0.entries
        → (Passes tests → IsTrusted sealed deed.0.entries → Holds Stands owners deed.0)
        → Holds Stands owners (first_refusal_or core tests deed).0
    tested_holds_if tests deed honest does =
        tested_holds tests deed (λ p. does p (tested_honest tests deed p honest))

    unmapped_holds : (slot page : ℕ) (slots : (1 ≤ slot) × (slot ≤ 16)) → IsLive core slot
        → (result : CoreState × Option Rule) → after_flush v slot 128 (128 * page) core ≡ result
        → IsTrusted sealed (after_unmap v slot page result).0.entries
        → Holds Stands owners (after_unmap v slot page result).0
    unmapped_holds slot page slots live result is honest =
        kept_holds Stands owners core _ (unmap_kept Stands owners v law sealed slot page
        (some_slot slot slots.0) slots.1 core (sound_of Stands owners core holds) live result is
        honest) holds

    unmap_holds : (slot page : ℕ) → IsTrusted sealed (unmap_page v core slot page).0.entries
        → Holds Stands owners (unmap_page v core slot page).0
    unmap_holds slot page honest = tested_holds_if (unmap_tests core slot page) _ honest
        (λ (p : Passes (unmap_tests core slot page)) good.
        unmapped_holds slot page (good_slot slot p.0) (waits_live (session_of core slot).state
        p.1.0) (after_flush v slot 128 (128 * page) core) refl good)

    install_holds : OwnersTell core.machine owners → sealed ≡ sealed_by core.machine owners
        → (slot place area : ℕ) → IsTrusted sealed (install v core slot place area).0.entries
        → Holds Stands owners (install v core slot place area).0
    install_holds tell sealings slot place area honest =
        tested_holds_if (install_tests core slot place area) _ honest
        (λ (p : Passes (install_tests core slot place area)) good.
        unwrap_holds (slot_from slot p.0) (free_of (session_of core slot).state p.1.0)
        (area_from p.1.1.0) (envelope_contents core.machine (envelope_in_ram core place)) refl good)
      where
        area_from : not (fits_ram core.ram place envelope_size && fits_ram core.ram area area_size)
            ≡ false
            → HoldsRange core.ram area area_size
        area_from good =
            fits_from area area_size
            (both_fit (fits_ram core.ram place envelope_size) (fits_ram core.ram area area_size)
            good)

        unwrap_holds : (1 ≤ slot) × (slot ≤ 16) → (session_of core slot).state ≡ state.Free
            → HoldsRange core.ram area area_size → (found : Option Unwrapped)
            → envelope_contents core.machine (envelope_in_ram core place) ≡ found
            → IsTrusted sealed (unwrap v core slot place area found).0.entries
            → Holds Stands owners (unwrap v core slot place area found).0
        unwrap_holds slots is_free room None is good = holds
        unwrap_holds slots is_free room (Some plain) is good =
            tested_holds_if (image_tests core plain) _ good
            (λ (p : Passes (image_tests core plain)) fine.
            install_keeps Stands owners v law core tell holds slot place area plain slots.0 slots.1
            none is_free room is (subst
            (λ l. IsTrusted l (after_install v core slot place area plain).entries) sealings
            fine))

-- ---- Save and Restore

-- what their tests have let through
record MaySeal (core : CoreState) (slot reg : ℕ) : Type 0 where
  slot_from : 1 ≤ slot
  slot_to : slot ≤ 16
  paused : (session_of core slot).state ≡ state.Paused
  reg_from : 1 ≤ reg
  reg_to : reg < 34

pub paused_of : (s : SlotState) → not (is_paused s) ≡ false → s ≡ state.Paused
paused_of state.Paused is = refl
paused_of _ is = absurd (cc)

pub cell_from : (reg : ℕ) → not (is_cell reg) ≡ false → (1 ≤ reg) × (reg < 34)
cell_from reg good = elim (is_cell reg) as (λ b. is_cell reg ≡ b → not b ≡ false → (1 ≤ reg)
    × (reg < 34)) [
      | true ↦ λ is _. (grind (arith, nat_tests), grind (arith, nat_tests))
      | false ↦ λ _ bad. absurd (cc)
    ] refl good

both_of : (a b : Bool) → not (a && b) ≡ false → (a ≡ true) × (b ≡ true)
both_of true true is = (refl, refl)
both_of true false is = absurd (cc)
both_of false b is = absurd (cc)

pub own_from : (slot : ℕ) (cell : Cell) → not (is_own_cell slot cell) ≡ false
    → (cell.tag ≡ slot) × (cell.value < 2 ^ 32)
own_from slot cell good =
    let parts = both_of (cell.tag == slot) (nat_lt cell.value (2 ^ 32)) good in
    (eqb-true cell.tag slot parts.0, (let low = parts.1 in grind (arith, nat_tests)))

module _ (Stands : StandsFor) (owners : List Owner) (v : Versions) (law : VersionLaw v Stands)
    (core : CoreState) (none : (other : ℕ) → ¬ IsRunning core other)
    (holds : Holds Stands owners core) (sealed : List Sealing) where
  abbrev Tests : List (Bool × ℕ) → Type 0
  Tests tests = Passes Stands owners v law core none holds tests

  may_seal : (slot reg address : ℕ) (last : List (Bool × ℕ))
      → Tests (register_tests core slot reg address last) → MaySeal core slot reg
  may_seal slot reg address last p =
      let slots = good_slot Stands owners v law core none holds slot p.0 in
      let cell = cell_from reg p.1.1.0 in
      record {
        slot_from = slots.0;
        slot_to = slots.1;
        paused =
            paused_of (session_of core slot).state p.1.0;
        reg_from = cell.0;
        reg_to = cell.1;
      }

  save_holds : (slot reg address : ℕ)
      → IsTrusted sealed (save_register core slot reg address).0.entries
      → Holds Stands owners (save_register core slot reg address).0
  unfolding after_save
  save_holds slot reg address honest = tested_holds_if Stands owners v law core none holds sealed
      (save_tests core slot reg address) _ honest
      (λ (p : Tests (save_tests core slot reg address)) good.
      let may = may_seal slot reg address ((not (is_own_cell slot (cell_at core.cells reg)), 6)
      ∷ []) p in
      let own = own_from slot (cell_at core.cells reg) p.1.1.1.1.0 in
      let seal = reg_seal_entry (who_of core slot) (epoch_of core slot) reg
      (cell_at core.cells reg).value in
      saved_out Stands owners v law core none holds (honest_before core.entries (seal ∷ []) sealed
      good).room slot reg (rw may.paused refl) may.paused may.reg_from may.reg_to own.0 own.1 _
      (length-with_saved core.ram address (sealed_reg (who_of core slot) (epoch_of core slot) reg
      (cell_at core.cells reg).value) (length-register_masked _ _ _ refl)
      (length-register_tag _ _ _) (fits_from Stands owners v law core none holds address 36
      p.1.1.1.0)))

  restored_holds : sealed ≡ sealed_by core.machine owners → (slot reg address : ℕ)
      → MaySeal core slot reg → (value : ℕ)
      → unsealed_register (reg_name (who_of core slot) (epoch_of core slot) reg)
      (reg_keys (who_of core slot) (epoch_of core slot)) (saved_at core.ram address) ≡ Some value
      → IsTrusted sealed (after_restore core slot reg address value).entries
      → Holds Stands owners (after_restore core slot reg address value)
  unfolding after_restore
  restored_holds sealings slot reg address may value is good =
      restored_out Stands owners v law core none holds slot reg address value (rw may.paused refl)
      may.paused may.reg_from may.reg_to is
      (subst (λ l. IsTrusted l (after_restore core slot reg address value).entries) sealings good)

  restore_holds : OwnersTell core.machine owners → sealed ≡ sealed_by core.machine owners
      → (slot reg address : ℕ) → IsTrusted sealed (restore_register core slot reg address).0.entries
      → Holds Stands owners (restore_register core slot reg address).0
  restore_holds tell sealings slot reg address honest = tested_holds_if Stands owners v law core
      none holds sealed (restore_tests core slot reg address) _ honest
      (λ (p : Tests (restore_tests core slot reg address)) good.
      let may = may_seal slot reg address ((not (bit_at (session_of core slot).mask reg == 1), 6)
      ∷ []) p in
      reopened_holds may (unsealed_register (reg_name (who_of core slot) (epoch_of core slot) reg)
      (reg_keys (who_of core slot) (epoch_of core slot)) (saved_at core.ram address)) refl good)
    where
      reopened_holds : MaySeal core slot reg → (found : Option ℕ)
          → unsealed_register (reg_name (who_of core slot) (epoch_of core slot) reg)
          (reg_keys (who_of core slot) (epoch_of core slot)) (saved_at core.ram address) ≡ found
          → IsTrusted sealed (after_reopening core slot reg address found).0.entries
          → Holds Stands owners (after_reopening core slot reg address found).0
      reopened_holds may None is good =
          kept_holds Stands owners core _
          (stopped_kept Stands owners v law core slot (some_slot Stands owners v law core none
          holds slot may.slot_from) holds.slots.session_places may.slot_to
          holds.slots.cell_places holds.slots.shape (rule.RegisterTag reg))
          holds
      reopened_holds may (Some value) is good =
          restored_holds sealings slot reg address may value is good

-- an operation where no guest runs
pub operation_keeps : (Stands : StandsFor) (owners : List Owner) (v : Versions)
    → VersionLaw v Stands → (sealed : List Sealing) (core : CoreState) (op : Op)
    → OwnersTell core.machine owners → sealed ≡ sealed_by core.machine owners
    → ((slot : ℕ) → ¬ IsRunning core slot) → IsTrusted sealed (operation v core op).0.entries
    → Holds Stands owners core → Holds Stands owners (operation v core op).0
unfolding operation
operation_keeps Stands owners v law sealed core (Enter slot) tell sealings none honest holds =
    if_slot Stands owners v law core none holds slot (enter core slot (session_of core slot).state)
    (λ some known. enter_holds Stands owners v law core none holds slot some known _ refl)
operation_keeps Stands owners v law sealed core (Resume slot signal) tell sealings none honest
    holds = if_slot Stands owners v law core none holds slot
    (resume core slot signal (session_of core slot).state) (λ some known. resume_holds Stands owners v
    law core none holds slot signal some known _ refl)
operation_keeps Stands owners v law sealed core (SetReg reg value) tell sealings none honest holds =
    set_register_holds Stands owners v law core none holds reg value
operation_keeps Stands owners v law sealed core Halt tell sealings none honest holds = holds
operation_keeps Stands owners v law sealed core (Install slot place area) tell sealings none honest
    holds = install_holds Stands owners v law core none holds sealed tell sealings slot place area
    honest
operation_keeps Stands owners v law sealed core (Save slot reg address) tell sealings none honest
    holds = save_holds Stands owners v law core none holds sealed slot reg address honest
operation_keeps Stands owners v law sealed core (Restore slot reg address) tell sealings none honest
    holds = restore_holds Stands owners v law core none holds sealed tell sealings slot reg address
    honest
operation_keeps Stands owners v law sealed core (Map slot page frame) tell sealings none honest
    holds = map_holds Stands owners v law core none holds slot page frame
operation_keeps Stands owners v law sealed core (Unmap slot page) tell sealings none honest holds =
    unmap_holds Stands owners v law core none holds sealed slot page honest
operation_keeps Stands owners v law sealed core (Kill slot) tell sealings none honest holds =
    kill_holds Stands owners v law core none holds slot
operation_keeps Stands owners v law sealed core (Out byte) tell sealings none honest holds =
    out_holds Stands owners v law core none holds byte
