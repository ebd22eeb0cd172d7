-- The rules stay over each operation, and its status has 32 bits.
use Rattle.std.proofs.Common.{◌≡◌, ℕ, zero, suc, ◌+◌, ◌*◌, ◌^◌, ◌<◌, ◌≤◌, ◌==◌, ◌&&◌, Bool, true, false, cond, not, List, [], ◌∷◌, ◌++◌, Option, Some, None, IfSome, length, get_or, set, take, drop, lit<, lit≤, refl, sym, ◌∙◌, ap, subst, arith}
use Rattle.std.specs.Prelude.{nat_le}
use Rattle.std.specs.Int.{w32, from_be_bytes, to_be_bytes}
use Rattle.std.proofs.lemmas.Bool.{cond_both}
use Rattle.std.proofs.lemmas.Bool.Decides.{nat_tests}
use Rattle.std.proofs.lemmas.List.{append_assoc, get_or-set_same, length-drop, length-take-le}
use Rattle.std.proofs.lemmas.List.Elements.{All-set}
use Rattle.hex.specs.Hex.{IsBytes}
use Rattle.xom_base.specs.declared.entry.Entry.TheVariants as entry
use Rattle.xom_base.specs.declared.event.Op.{Op}
use Rattle.xom_base.specs.declared.event.Op.TheVariants.{Install, Enter, Resume, Save, Restore, Map, Unmap, SetReg, Kill, Out, Halt}
use Rattle.xom_base.specs.declared.event.Rule.{Rule}
use Rattle.xom_base.specs.declared.event.Rule.TheVariants as rule
use Rattle.xom_seal.specs.declared.envelope.Unwrapped.{Unwrapped}
use Rattle.xom_seal.specs.declared.register.SealedReg.{SealedReg}
use Rattle.xom_seal.specs.Envelopes.{contents_of, envelope_contents, envelope_tag, id_in, tag_in, wrapped_in}
use Rattle.xom_seal.specs.Messages.{envelope_message}
use Rattle.xom_seal.specs.Sealing.{register_masked, unsealed_register}
use Rattle.xom_seal.proofs.SealLaws.{let_through}
use Rattle.mips_plain.proofs.Stores.{length-written_at}
use Rattle.journal_round_trip.specs.KeepsRules.{Is32Bit}
use Rattle.line_ram.specs.Bytes.{HoldsFrame, HoldsRange, ram_with_bytes}
use Rattle.page_map.specs.Pages.{no_pages, pages_at, with_page}
use Rattle.tag_regs.specs.declared.cell.Cell.{Cell}
use Rattle.tag_regs.specs.TaggedCells.{cell_at}
use Rattle.session_table.specs.declared.session.Session.{Session}
use Rattle.session_table.specs.declared.session.SlotState.{SlotState}
use Rattle.session_table.specs.declared.session.SlotState.TheVariants as state
use Rattle.session_table.specs.Sessions.{free, is_live, session_after_enter, session_after_resume}
use Rattle.xom_versions.specs.Store.{area_size}
use Rattle.xom_versions.specs.Versions.{VersionLaw, Versions}
use Rattle.xom_model.specs.Versions.{StandsFor}
use Rattle.xom_model.specs.State.{CoreState, core_with_session, ram_holds_range, session_of, with_cells, with_entry}
use Rattle.xom_model.specs.Lines.{who_of}
use Rattle.xom_model.specs.Saves.{reg_accept_entry, reg_keys, reg_name, reg_seal_entry, saved_at, sealed_reg, with_saved}
use Rattle.xom_model.specs.Access.{after_flush, without_guest}
use Rattle.xom_model.specs.Guest.{after_delivery, session_after_signal, signal_of}
use Rattle.xom_model.specs.Holds.{FramesFit, IsLive}
use Rattle.xom_model.specs.Operation.{after_install, after_kill, after_reopening, after_restore, after_save, after_unmap, enter, envelope_in_ram, epoch_of, first_refusal_or, image_tests, install, install_tests, is_cell, is_missing, is_slot, kill, kill_tests, map_page, map_tests, missing_cell, missing_from, operation, reopening, restore_register, restore_tests, resume, resume_or_stop, save_register, save_tests, session_for, set_register, slot_takes_signal, unmap_page, unmap_tests, unwrap, with_signal}
use Rattle.xom_model.proofs.WalkEvents.{good_slot, paused_live, slot_from}
use Rattle.journal_laws.specs.RulesOfRecord.{StoresKeepRules, IsShortCell, IsShortOp, IsSoundSession, RulesHold}
use Rattle.journal_laws.proofs.PlainBytes.{bytes-number, bytes-take, bytes-drop, bytes-written, envelope_message-payload, from_be_bytes-short, key_masked-payload, register_aes-bytes, register_masked-bytes, register_masked-short, register_message-payload, register_tag-bytes, register_tag-payload, register_tag-size}
use Rattle.journal_laws.proofs.RuledAccess.{flushed-holds, part-bytes, stopped-holds, take-short}
use Rattle.journal_laws.proofs.RuledGuest.{stepped-holds}
use Rattle.journal_laws.proofs.RuledParts.{hashed-holds, install-holds, live-came, live-within, noted-holds, out-holds, free-IsSoundSession, session-on, session-sound, set-each, with_cells-holds, with_pages-holds, with_ram-holds, with_session-holds, with_store-holds}

-- the rules hold afterwards, and the status has 32 bits
abbrev pub DoesWell : CoreState × ℕ → Type 0
DoesWell result = RulesHold result.0 × Is32Bit result.1

-- ---- Tests

-- none of the tests holds
abbrev Passes : List (Bool × ℕ) → Type 0
Passes [] = Unit {0}
Passes (test ∷ tests) = (test.0 ≡ false) × Passes tests

-- their statuses have 32 bits
abbrev AreShort : List (Bool × ℕ) → Type 0
AreShort [] = Unit {0}
AreShort (test ∷ tests) = Is32Bit test.1 × AreShort tests

tested-well : (core : CoreState) (tests : List (Bool × ℕ)) (deed : CoreState × ℕ) → RulesHold core
    → AreShort tests → (Passes tests → DoesWell deed) → DoesWell (first_refusal_or core tests deed)
tested-well core [] deed rules short does = does tt
tested-well core (test ∷ tests) deed rules short does =
    cond_both test.0 (core, test.1) (first_refusal_or core tests deed) DoesWell
    (λ _. (rules, short.0)) (λ passed. tested-well core tests deed rules short.1
    (λ rest. does (passed, rest)))

not-false : (b : Bool) → not b ≡ false → b ≡ true
not-false true is = refl
not-false false is = absurd (cc)

cell-low : (reg : ℕ) → not (is_cell reg) ≡ false → reg < 34
cell-low reg is = elim (is_cell reg) as (λ b. is_cell reg ≡ b → not b ≡ false → reg < 34) [
  | true ↦ λ its _. grind (arith, nat_tests)
  | false ↦ λ _ bad. absurd (cc)
] refl is

range-held : (ram : List ℕ) (address count : ℕ) → ram_holds_range ram address count ≡ true
    → address + count ≤ length ram
range-held ram address count is = grind (arith, nat_tests)

both-held : (a b : Bool) → not (a && b) ≡ false → (a ≡ true) × (b ≡ true)
both-held true true is = (refl, refl)
both-held true false is = absurd (cc)
both-held false b is = absurd (cc)

-- ---- Enter, Resume, SetReg

-- a missing cell is one of those looked at
missing_from-below : (slot mask : ℕ) (cells : List Cell) (count reg lost : ℕ)
    → missing_from slot mask cells count reg ≡ Some lost → lost < reg + count
missing_from-below slot mask cells zero reg lost is = absurd (cc)
missing_from-below slot mask cells (suc count) reg lost is =
    elim (is_missing slot mask cells reg) as
    (λ b. cond b (Some reg) (missing_from slot mask cells count (reg + 1)) ≡ Some lost
    → lost < reg + suc count) [
      | true ↦ λ here. let same : reg ≡ lost = cc in omega arith
      | false ↦ λ later. let low = missing_from-below slot mask cells count (reg + 1) lost later in
          omega arith
    ] is

missing-short : (slot mask : ℕ) (cells : List Cell) (lost : ℕ)
    → missing_cell slot mask cells ≡ Some lost → lost < 2 ^ 8
unfolding missing_cell
missing-short slot mask cells lost is =
    let low = missing_from-below slot mask cells 33 1 lost is in omega arith

module _ (core : CoreState) (rules : RulesHold core) where
  either-well : (b : Bool) (one other : CoreState × ℕ) → (b ≡ true → DoesWell one) → DoesWell other
      → DoesWell (cond b one other)
  either-well true one other first second = first refl
  either-well false one other first second = second

  refused-well : (status : ℕ) → Is32Bit status → DoesWell (core, status)
  refused-well status short = (rules, short)

  entered-well : (slot : ℕ) → IsLive core slot
      → DoesWell (core_with_session core slot (session_after_enter (session_of core slot)), 0)
  entered-well slot live =
      let sound = session-sound core rules slot in (
        with_session-holds core rules slot (session_after_enter (session_of core slot)) (record {
          entry = sound.entry;
          pc = sound.entry;
          npc = omega arith;
          handler = sound.handler;
          saved = sound.saved;
          id = sound.id;
          id_length = sound.id_length;
          key = sound.key;
          install = λ _. live-came core rules slot live;
        }) (λ _. refl),
        lit< tt,
      )

  enter-well : (slot : ℕ) (at : SlotState) → (session_of core slot).state ≡ at
      → DoesWell (enter core slot at)
  enter-well slot state.Free is = refused-well 1 (lit< tt)
  enter-well slot state.Fresh is = entered-well slot (rw is refl)
  enter-well slot _ is = refused-well 2 (lit< tt)

  set_register-well : (reg value : ℕ) → Is32Bit value → DoesWell (set_register core reg value)
  set_register-well reg value short =
      let cells = set core.cells reg (record { value = value; tag = 0 }) in
      either-well (is_cell reg) (with_cells core cells, 0) (core, 7)
      (λ _. (
        with_cells-holds core rules cells (All-set IsShortCell core.cells reg
            (record { value = value; tag = 0 }) short rules.cells),
        lit< tt,
      )) (refused-well 7 (lit< tt))

-- a signal is a step
signal-holds : (core : CoreState) (slot signal : ℕ) → signal < 2 ^ 32 → IsLive core slot
    → RulesHold core → RulesHold (with_signal core slot signal)
signal-holds core slot signal short live rules =
    let s = session_of core slot in
    let sound = session-sound core rules slot in
    cond_both (signal == 0) core (after_delivery core slot signal) RulesHold (λ _. rules)
    (λ _. stepped-holds core slot live rules 0 (session_after_signal s signal) (signal_of s signal)
    (sound.pc, sound.npc, (lit≤ tt, lit< tt, short), tt, short, tt, tt) (record {
      entry = sound.entry;
      pc = sound.handler;
      npc = omega arith;
      handler = sound.handler;
      saved = (sound.pc, sound.npc);
      id = sound.id;
      id_length = sound.id_length;
      key = sound.key;
      install = λ _. live-came core rules slot live;
    }) live tt)

module _ (core : CoreState) (rules : RulesHold core) (slot signal : ℕ)
    (is : (session_of core slot).state ≡ state.Paused) (small : signal ≤ 63) where
  live-here : IsLive core slot
  live-here = ap is_live is

  now-holds : RulesHold (core_with_session core slot (session_after_resume (session_of core slot)))
  now-holds =
      with_session-holds core rules slot (session_after_resume (session_of core slot))
      (session-on core rules slot live-here state.Running (session_of core slot).epoch) (λ _. refl)

  go_on-well : (lost : Option ℕ) → missing_cell slot (session_of core slot).mask core.cells ≡ lost
      → DoesWell (resume_or_stop core slot signal lost)
  go_on-well None none =
      let now = core_with_session core slot (session_after_resume (session_of core slot)) in
      let alive : IsLive now slot = ap (λ (s : Session). is_live s.state)
      (get_or-set_same core.sessions slot (session_after_resume (session_of core slot)) free
      (live-within core.sessions slot live-here)) in
      (signal-holds now slot signal (omega arith) alive now-holds, lit< tt)
  go_on-well (Some reg) found = (
    stopped-holds core slot (rule.RegisterMissing reg)
        (missing-short slot (session_of core slot).mask core.cells reg found) live-here rules,
    lit<
        tt,
  )

resume-well : (core : CoreState) (rules : RulesHold core) (slot signal : ℕ) (at : SlotState)
    → (session_of core slot).state ≡ at → DoesWell (resume core slot signal at)
resume-well core rules slot signal state.Free is = refused-well core rules 1 (lit< tt)
resume-well core rules slot signal state.Fresh is = refused-well core rules 2 (lit< tt)
resume-well core rules slot signal state.Running is = refused-well core rules 2 (lit< tt)
resume-well core rules slot signal state.Paused is =
    let gap = missing_cell slot (session_of core slot).mask core.cells in
    either-well core rules (nat_le signal 63)
    (cond (slot_takes_signal (session_of core slot) signal) (resume_or_stop core slot signal gap)
    (core, 2)) (core, 7)
    (λ few. either-well core rules (slot_takes_signal (session_of core slot) signal)
    (resume_or_stop core slot signal gap) (core, 2)
    (λ _. go_on-well core rules slot signal is (grind (arith, nat_tests)) gap refl)
    (refused-well core rules 2 (lit< tt))) (refused-well core rules 7 (lit< tt))
resume-well core rules slot signal state.Ended is = refused-well core rules 2 (lit< tt)
resume-well core rules slot signal (state.Stopped why) is = refused-well core rules 2 (lit< tt)

-- ---- Save and Restore

with_saved-bytes : (ram : List ℕ) (address : ℕ) (sealed : SealedReg) → IsBytes ram
    → IsBytes sealed.ct → IsBytes sealed.tag → IsBytes (with_saved ram address sealed)
with_saved-bytes ram address sealed bytes ct tag =
    bytes-written (ram_with_bytes ram address sealed.ct) (address + 4) sealed.tag
    (bytes-written ram address sealed.ct bytes ct) tag

with_saved-size : (ram : List ℕ) (address : ℕ) (sealed : SealedReg) → length sealed.ct ≤ 4
    → length sealed.tag ≡ 32 → address + 36 ≤ length ram
    → length (with_saved ram address sealed) ≡ length ram
with_saved-size ram address sealed ct tag within =
    let once = ram_with_bytes ram address sealed.ct in
    let first : length once ≡ length ram = length-written_at ram address sealed.ct (omega arith) in
    length-written_at once (address + 4) sealed.tag (omega arith) ∙ first

saved-holds : (core : CoreState) (slot reg address : ℕ) → reg < 34 → address + 36 ≤ length core.ram
    → RulesHold core → RulesHold (after_save core slot reg address)
unfolding after_save
saved-holds core slot reg address low within rules =
    let who = who_of core slot in
    let epoch = epoch_of core slot in
    let name = reg_name who epoch reg in
    let keys = reg_keys who epoch in
    let value = (cell_at core.cells reg).value in
    let sealed = sealed_reg who epoch reg value in
    let cts = register_masked-bytes name keys (to_be_bytes w32 value)
    (register_aes-bytes who.key who.boot who.install epoch) (bytes-number value) in
    let few = register_masked-short name keys (to_be_bytes w32 value) in
    let e = reg_seal_entry who epoch reg value in
    let first = noted-holds core rules e (
      register_tag-payload who.key who.boot who.install epoch,
      register_message-payload name sealed.ct (omega arith) cts (omega arith),
    ) refl in
    with_ram-holds (with_entry core e) first (with_saved core.ram address sealed)
    (with_saved-bytes core.ram address sealed rules.ram cts
    (register_tag-bytes name keys sealed.ct)) (with_saved-size core.ram address sealed few
    (register_tag-size name keys sealed.ct) within)

save-well : (core : CoreState) (slot reg address : ℕ) → RulesHold core
    → DoesWell (save_register core slot reg address)
save-well core slot reg address rules =
    tested-well core (save_tests core slot reg address) (after_save core slot reg address, 0) rules
    (lit< tt, (lit< tt, (lit< tt, (lit< tt, (lit< tt, tt)))))
    (λ (p : Passes (save_tests core slot reg address)). (
      saved-holds core slot reg address (cell-low reg p.1.1.0)
          (range-held core.ram address 36 (not-false (ram_holds_range core.ram address 36) p.1.1.1.0)) rules,
      lit<
          tt,
    ))

module _ (core : CoreState) (slot reg address : ℕ) (rules : RulesHold core) (low : reg < 34)
    (within : address + 36 ≤ length core.ram) (live : IsLive core slot) where
  abbrev its_ct : List ℕ
  its_ct = (saved_at core.ram address).ct

  restored-holds : (value : ℕ) → Is32Bit value
      → RulesHold (after_restore core slot reg address value)
  unfolding after_restore
  restored-holds value short =
      let who = who_of core slot in
      let epoch = epoch_of core slot in
      let e = reg_accept_entry who epoch reg its_ct address in
      let small : length core.ram ≤ 2 ^ 32 = rules.size in
      let few = take-short 4 (drop address core.ram) in
      let first = noted-holds core rules e (
        register_tag-payload who.key who.boot who.install epoch,
        register_message-payload (reg_name who epoch reg) its_ct (omega arith)
            (part-bytes core.ram address 4 rules.ram) (omega arith),
        omega arith,
      ) refl in
      let cells = set core.cells reg (record { value = value; tag = slot }) in
      with_cells-holds (with_entry core e) first cells (All-set IsShortCell core.cells reg
      (record { value = value; tag = slot }) short rules.cells)

  reopened-well : (opens : Option ℕ) → IfSome opens Is32Bit
      → DoesWell (after_reopening core slot reg address opens)
  reopened-well None short =
      (stopped-holds core slot (rule.RegisterTag reg) (omega arith) live rules, lit< tt)
  reopened-well (Some value) short = (restored-holds value short, lit< tt)

  reopen-well : DoesWell (reopening core slot reg address)
  reopen-well =
      let who = who_of core slot in
      let epoch = epoch_of core slot in
      let name = reg_name who epoch reg in
      let keys = reg_keys who epoch in
      reopened-well (unsealed_register name keys (saved_at core.ram address))
      (cond_both _ (Some (from_be_bytes w32 (register_masked name keys its_ct))) None
      (λ o. IfSome o Is32Bit)
      (λ _. from_be_bytes-short (register_masked name keys its_ct)
      (register_masked-bytes name keys its_ct (register_aes-bytes who.key who.boot who.install
      epoch) (part-bytes core.ram address 4 rules.ram))) (λ _. tt))

restore-well : (core : CoreState) (slot reg address : ℕ) → RulesHold core
    → DoesWell (restore_register core slot reg address)
restore-well core slot reg address rules =
    tested-well core (restore_tests core slot reg address) (reopening core slot reg address) rules
    (lit< tt, (lit< tt, (lit< tt, (lit< tt, (lit< tt, tt)))))
    (λ (p : Passes (restore_tests core slot reg address)).
    reopen-well core slot reg address rules (cell-low reg p.1.1.0)
    (range-held core.ram address 36 (not-false (ram_holds_range core.ram address 36) p.1.1.1.0))
    (paused_live (session_of core slot).state p.1.0))

-- ---- Pages

-- a page has another frame, which lies in RAM
with_page-fits : (pages : List (List (Option ℕ))) (ram : List ℕ) (slot page : ℕ) (frame : Option ℕ)
    → ((f : ℕ) → frame ≡ Some f → HoldsFrame ram f) → FramesFit pages ram
    → FramesFit (with_page pages slot page frame) ram
with_page-fits pages ram slot page frame fits fit =
    set-each (λ (list : List (Option ℕ)). (at f : ℕ) → get_or list at None ≡ Some f
    → HoldsFrame ram f) pages slot (set (pages_at pages slot) page frame) no_pages
    (λ _. set-each (λ (o : Option ℕ). (f : ℕ) → o ≡ Some f → HoldsFrame ram f) (pages_at pages slot)
    page frame None (λ _. fits) (λ i f is. fit slot i f is))
    (λ k at f is. fit k at f is)

one_frame : (a b : ℕ) → Some a ≡ Some b → a ≡ b
one_frame a b is = cc

map-well : (v : Versions) (core : CoreState) (slot page frame : ℕ) → RulesHold core
    → DoesWell (map_page v core slot page frame)
map-well v core slot page frame rules =
    tested-well core (map_tests core slot page frame)
    (record core { pages = with_page core.pages slot page (Some frame) }, 0) rules
    (lit< tt, (lit< tt, (lit< tt, (lit< tt, (lit< tt, tt)))))
    (λ (p : Passes (map_tests core slot page frame)).
    let within = range-held core.ram (frame * 8192) 8192
    (not-false (ram_holds_range core.ram (frame * 8192) 8192) p.1.1.1.0) in (
      with_pages-holds core rules (with_page core.pages slot page (Some frame))
          (with_page-fits core.pages core.ram slot page (Some frame)
          (λ f is. subst (HoldsFrame core.ram) (one_frame frame f is) within) rules.frames),
      lit< tt,
    ))

module _ (v : Versions) (Stands : StandsFor) (law : VersionLaw v Stands)
    (hashes : StoresKeepRules v) where
  unmapped-well : (slot page : ℕ) (result : CoreState × Option Rule) → RulesHold result.0
      → DoesWell (after_unmap v slot page result)
  unmapped-well slot page (core, None) rules = (
    with_pages-holds core rules (with_page core.pages slot page None)
        (with_page-fits core.pages core.ram slot page None (λ f is. absurd (cc)) rules.frames),
    lit<
        tt,
  )
  unmapped-well slot page (core, Some why) rules = (rules, lit< tt)

  unmap-well : (core : CoreState) (slot page : ℕ) → RulesHold core
      → DoesWell (unmap_page v core slot page)
  unmap-well core slot page rules =
      tested-well core (unmap_tests core slot page)
      (after_unmap v slot page (after_flush v slot 128 (128 * page) core)) rules
      (lit< tt, (lit< tt, (lit< tt, (lit< tt, tt))))
      (λ _. unmapped-well slot page (after_flush v slot 128 (128 * page) core)
      (flushed-holds v Stands law hashes slot 128 (128 * page) core rules))

  -- ---- Kill

  kill-well : (core : CoreState) (slot : ℕ) → RulesHold core → DoesWell (kill v core slot)
  unfolding without_guest
  kill-well core slot rules =
      tested-well core (kill_tests core slot) (after_kill v core slot, 0) rules (lit< tt, tt)
      (λ (p : Passes (kill_tests core slot)).
      let came = (session-sound core rules slot).install (good_slot core slot p.0).1 in (
        noted-holds (core_with_session (without_guest core slot) slot free)
            (out-holds core rules slot free (free-IsSoundSession core.installs))
            (entry.Kill (session_of core slot).install) came refl,
        lit< tt,
      ))

  -- ---- Install

  -- what an envelope of bytes says
  module _ (core : CoreState) (rules : RulesHold core) (slot place area : ℕ) (from : 1 ≤ slot)
      (to : slot ≤ 16) (few : core.installs + 1 < 2 ^ 64)
      (fits : place + 88 ≤ length core.ram) (roomy : area + area_size ≤ length core.ram) where
    abbrev envelope : List ℕ
    envelope = envelope_in_ram core place

    envelope-bytes : IsBytes envelope
    envelope-bytes = part-bytes core.ram place 88 rules.ram

    envelope-size : length envelope ≡ 88
    envelope-size =
        length-take-le 88 (drop place core.ram)
        (let rest = length-drop place core.ram in omega arith)

    abbrev said : Unwrapped
    said = contents_of core.machine envelope

    said-session : IsSoundSession (core.installs + 1) (session_for core said)
    unfolding contents_of
    said-session = record {
      entry = from_be_bytes-short (take 4 (drop 16 envelope))
          (bytes-take 4 (drop 16 envelope) (bytes-drop 16 envelope envelope-bytes));
      pc = lit< tt;
      npc = lit< tt;
      handler = lit< tt;
      saved = tt;
      id = bytes-take 16 envelope envelope-bytes;
      id_length = take-short 16 envelope;
      key = key_masked-payload core.machine (id_in envelope) (wrapped_in envelope)
          (bytes-take 32 (drop 24 envelope) (bytes-drop 24 envelope envelope-bytes))
          (length-take-le 32 (drop 24 envelope) (let rest = length-drop 24 envelope in let whole =
          envelope-size in omega arith));
      install = λ _. (omega arith, omega arith);
    }

    said-lines : Is32Bit said.lines
    unfolding contents_of
    said-lines =
        from_be_bytes-short (take 4 (drop 20 envelope))
        (bytes-take 4 (drop 20 envelope) (bytes-drop 20 envelope envelope-bytes))

    said-id : length said.id.0 ≡ 16
    unfolding contents_of
    said-id = length-take-le 16 envelope (let whole = envelope-size in omega arith)

    short-place : Is32Bit place
    short-place = let small : length core.ram ≤ 2 ^ 32 = rules.size in omega arith

    -- the store's area is the given one
    area-fits : (o : Option ℕ) → ((kept : ℕ) → o ≡ Some kept → kept ≡ area)
        → IfSome o (λ a. HoldsRange core.ram a area_size)
    area-fits None is = tt
    area-fits (Some kept) is =
        subst (λ a. HoldsRange core.ram a area_size) (sym (is kept refl)) roomy

    said-installed : RulesHold (after_install v core slot place area said)
    unfolding after_install
    said-installed =
        let s = session_for core said in
        let accept = entry.Accept core.machine.0 (envelope_message envelope) place in
        let made = entry.Install (core.installs + 1) slot said.id place said.entry said.lines in
        let sound = said-session in
        let store = v.store_after_build area said.lines core.ram in
        let ram = v.ram_after_build area said.lines core.ram in
        let first = noted-holds core rules accept (
          rules.machine,
          envelope_message-payload envelope
              envelope-bytes,
          short-place,
        ) refl in
        let second = install-holds (with_entry core accept) first slot s made
        (refl, few, from, omega arith, sound.id, said-id, short-place, sound.entry, said-lines)
        refl sound refl in
        let c2 = record core {
          sessions = set core.sessions slot s;
          installs =
              core.installs + 1;
          entries = (core.entries ++ accept ∷ []) ++ made ∷ [];
        } in
        let third = with_store-holds c2 second slot store
        (area-fits store.area (λ kept is. law.area_after_build area said.lines kept core.ram
        is)) in
        let c3 = record c2 { stores = set core.stores slot store } in
        let fourth = with_ram-holds c3 third ram (hashes.ram_after_build area said.lines core.ram
        rules.ram) (law.size_after_build area said.lines core.ram roomy) in
        let c4 = record c3 { ram = ram } in
        let fifth = subst (λ es. RulesHold (record c4 { entries = es }))
        (append_assoc core.entries (accept ∷ []) (made ∷ [])) fourth in
        hashed-holds (record c4 { entries = core.entries ++ (accept ∷ made ∷ []) })
        (v.texts_of_build area said.lines core.ram) (hashes.texts_of_build area said.lines
        core.ram rules.ram) fifth

    unwrap-well : (opens : Option Unwrapped) → envelope_contents core.machine envelope ≡ opens
        → DoesWell (unwrap v core slot place area opens)
    unwrap-well None is = (rules, lit< tt)
    unwrap-well (Some plain) is =
        let same : said ≡ plain =
        (let_through (tag_in envelope) (envelope_tag core.machine envelope) said plain is).1 in
        subst (λ plain. DoesWell (unwrap v core slot place area (Some plain))) same
        (tested-well core (image_tests core said) (after_install v core slot place area said, 0)
        rules (lit< tt, tt) (λ _. (said-installed, lit< tt)))

  install-well : (core : CoreState) (slot place area : ℕ) → core.installs + 1 < 2 ^ 64
      → RulesHold core → DoesWell (install v core slot place area)
  install-well core slot place area few rules =
      tested-well core (install_tests core slot place area)
      (unwrap v core slot place area (envelope_contents core.machine (envelope_in_ram core place))) rules
      (lit< tt, (lit< tt, (lit< tt, tt))) (λ (p : Passes (install_tests core slot place area)).
      let slots = slot_from slot p.0 in
      let held = both-held (ram_holds_range core.ram place 88) (ram_holds_range core.ram area area_size) p.1.1.0 in
      unwrap-well core rules slot place area slots.0 slots.1 few
      (range-held core.ram place 88 held.0) (range-held core.ram area area_size held.1)
      (envelope_contents core.machine (envelope_in_ram core place)) refl)

  -- ---- Each operation

  pub operation-well : (core : CoreState) (op : Op) → IsShortOp op → core.installs + 1 < 2 ^ 64
      → RulesHold core → DoesWell (operation v core op)
  unfolding operation
  operation-well core (Enter slot) short few rules =
      either-well core rules (is_slot slot) (enter core slot (session_of core slot).state) (core, 1)
      (λ _. enter-well core rules slot _ refl) (rules, lit< tt)
  operation-well core (Resume slot signal) short few rules =
      either-well core rules (is_slot slot) (resume core slot signal (session_of core slot).state)
      (core, 1) (λ _. resume-well core rules slot signal _ refl) (rules, lit< tt)
  operation-well core (SetReg reg value) short few rules =
      set_register-well core rules reg value short.1
  operation-well core Halt short few rules = (rules, lit< tt)
  operation-well core (Install slot envelope area) short few rules =
      install-well core slot envelope area few rules
  operation-well core (Save slot reg address) short few rules =
      save-well core slot reg address rules
  operation-well core (Restore slot reg address) short few rules =
      restore-well core slot reg address rules
  operation-well core (Map slot page frame) short few rules = map-well v core slot page frame rules
  operation-well core (Unmap slot page) short few rules = unmap-well core slot page rules
  operation-well core (Kill slot) short few rules = kill-well core slot rules
  operation-well core (Out byte) short few rules =
      (noted-holds core rules (entry.Out byte) short refl, lit< tt)
