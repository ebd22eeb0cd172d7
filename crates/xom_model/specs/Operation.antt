-- The privileged operations: what each does, or the status with which it is refused.
use Rattle.std.specs.Prelude.{ℕ, zero, suc, ◌+◌, ◌*◌, ◌%◌, ◌^◌, ◌==◌, ◌&&◌, ◌||◌, not, nat_le, nat_lt, Bool, true, false, List, [], ◌∷◌, ◌++◌, Option, Some, None, is_some, is_none, slice_set, if◌then◌else◌}
use Rattle.std.specs.Int.{bit_at}
use Rattle.xom_base.specs.declared.entry.Entry.TheVariants as entry
use Rattle.xom_base.specs.declared.event.Op.{Op}
use Rattle.xom_base.specs.declared.event.Op.TheVariants.{Install, Enter, Resume, Save, Restore, Map, Unmap, SetReg, Kill, Out, Halt}
use Rattle.xom_base.specs.declared.event.Rule.{Rule}
use Rattle.xom_base.specs.declared.event.Rule.TheVariants as rule
use Rattle.xom_base.specs.Frames.{frame_size}
use Rattle.xom_base.specs.Sizes.{slot_limit}
use Rattle.xom_seal.specs.declared.envelope.Unwrapped.{Unwrapped}
use Rattle.xom_seal.specs.Envelopes.{envelope_contents}
use Rattle.xom_seal.specs.Messages.{envelope_message}
use Rattle.xom_seal.specs.Sealing.{unsealed_register}
use Rattle.mips_plain.specs.Instruction.{is_signal_ready}
use Rattle.tag_regs.specs.declared.cell.Cell.{Cell}
use Rattle.tag_regs.specs.TaggedCells.{cell_at, with_cell}
use Rattle.session_table.specs.declared.session.Session.{Session}
use Rattle.session_table.specs.declared.session.SlotState.{SlotState}
use Rattle.session_table.specs.declared.session.SlotState.TheVariants as state
use Rattle.session_table.specs.Sessions.{free, fresh_session, session_after_enter, session_after_resume}
use Rattle.xom_versions.specs.Store.{area_size}
use Rattle.xom_versions.specs.Versions.{Versions}
use Rattle.line_ram.specs.Bytes.{bytes_at, frame_lines}
use Rattle.page_map.specs.Pages.{frame_of, with_page}
use Rattle.xom_model.specs.State.{CoreState, core_with_hashes, core_with_session, lines_of_session, pages_of_session, ram_holds_range, session_of, window_of, with_cells, with_entry}
use Rattle.xom_model.specs.Lines.{who_of}
use Rattle.xom_model.specs.Saves.{reg_accept_entry, reg_keys, reg_name, reg_seal_entry, saved_at, saved_size, sealed_reg, with_saved}
use Rattle.xom_model.specs.Access.{after_flush, after_stop, without_guest}
use Rattle.xom_model.specs.Guest.{after_delivery}

-- an operation that is refused changes nothing
abbrev pub refusal_of : CoreState → ℕ → CoreState × ℕ
refusal_of core status = (core, status)

-- an operation that is done has status 0
abbrev pub success : CoreState → CoreState × ℕ
success core = (core, 0)

-- a number names a slot
abbrev pub is_slot : ℕ → Bool
is_slot slot = nat_le 1 slot && nat_le slot slot_limit

-- a number names a cell
abbrev pub is_cell : ℕ → Bool
is_cell reg = nat_le 1 reg && nat_le reg 33

-- Enter: only a fresh guest is started
abbrev pub enter : CoreState → ℕ → SlotState → CoreState × ℕ
enter core slot state.Free = refusal_of core 1
enter core slot state.Fresh = success (core_with_session core slot (session_after_enter (session_of core slot)))
enter core slot state.Running = refusal_of core 2
enter core slot state.Paused = refusal_of core 2
enter core slot state.Ended = refusal_of core 2
enter core slot (state.Stopped rule) = refusal_of core 2

-- the guest owns the cell, and the cell hasn't its tag
abbrev pub is_missing : ℕ → ℕ → List Cell → ℕ → Bool
is_missing slot mask cells reg = (bit_at mask reg == 1) && not ((cell_at cells reg).tag == slot)

-- the least cell from this one on, of so many, that is missing
abbrev pub missing_from : ℕ → ℕ → List Cell → ℕ → ℕ → Option ℕ
missing_from slot mask cells zero reg = None
missing_from slot mask cells (suc count) reg =
    if is_missing slot mask cells reg then Some reg else missing_from slot mask cells count
    (reg + 1)

-- the least cell that is missing
unfoldable pub missing_cell : ℕ → ℕ → List Cell → Option ℕ
missing_cell slot mask cells = missing_from slot mask cells 33 1

-- a signal, if there is one, is delivered to the guest that goes on
abbrev pub with_signal : CoreState → ℕ → ℕ → CoreState
with_signal core slot signal = if signal == 0 then core else after_delivery core slot signal

-- a guest goes on only where each cell that it owns has its tag; else it is stopped for good
abbrev pub resume_or_stop : CoreState → ℕ → ℕ → Option ℕ → CoreState × ℕ
resume_or_stop core slot signal None =
    success (with_signal (core_with_session core slot (session_after_resume (session_of core slot))) slot signal)
resume_or_stop core slot signal (Some reg) = (after_stop core slot (rule.RegisterMissing reg), 8)

-- the slot takes the signal: there is none, or the slot is ready for one
abbrev pub slot_takes_signal : Session → ℕ → Bool
slot_takes_signal s signal = (signal == 0) || is_signal_ready s.handler s.saved

-- Resume of a paused guest: a signal above 63 is no signal
abbrev pub resume_paused : CoreState → ℕ → ℕ → CoreState × ℕ
resume_paused core slot signal =
    if nat_le signal 63
    then (if slot_takes_signal (session_of core slot) signal then resume_or_stop core slot signal
    (missing_cell slot (session_of core slot).mask core.cells) else refusal_of core 2)
    else refusal_of core 7

-- Resume: only a paused guest goes on
abbrev pub resume : CoreState → ℕ → ℕ → SlotState → CoreState × ℕ
resume core slot signal state.Free = refusal_of core 1
resume core slot signal state.Fresh = refusal_of core 2
resume core slot signal state.Running = refusal_of core 2
resume core slot signal state.Paused = resume_paused core slot signal
resume core slot signal state.Ended = refusal_of core 2
resume core slot signal (state.Stopped rule) = refusal_of core 2

-- SetReg: the cell is of the null compartment, whatever it was
abbrev pub set_register : CoreState → ℕ → ℕ → CoreState × ℕ
set_register core reg value =
    if is_cell reg then success (with_cells core (with_cell core.cells reg value 0))
    else refusal_of core 7

-- ---- Operations with a row of tests

-- the first test that holds answers with its status; where none does, the deed is done
abbrev pub first_refusal_or : CoreState → List (Bool × ℕ) → CoreState × ℕ → CoreState × ℕ
first_refusal_or core [] deed = deed
first_refusal_or core (test ∷ tests) deed =
    if test.0 then refusal_of core test.1 else first_refusal_or core tests deed

-- the slot holds nothing
abbrev pub is_free_state : SlotState → Bool
is_free_state state.Free = true
is_free_state other = false

-- a guest may come back: pages are mapped and unmapped while it doesn't run
abbrev pub can_come_back : SlotState → Bool
can_come_back state.Fresh = true
can_come_back state.Paused = true
can_come_back other = false

-- no slot, or one that holds nothing
abbrev pub is_bad_slot : CoreState → ℕ → Bool
is_bad_slot core slot = not (is_slot slot) || is_free_state (session_of core slot).state

-- the slot's guest has left and may come back
abbrev pub is_paused : SlotState → Bool
is_paused state.Paused = true
is_paused other = false

-- how many bytes an envelope has
abbrev pub envelope_size : ℕ
envelope_size = 88

-- the bytes of the envelope at an address of RAM
abbrev pub envelope_in_ram : CoreState → ℕ → List ℕ
envelope_in_ram core place = bytes_at core.ram place envelope_size

-- the session that an envelope asks for, under the next install number
abbrev pub session_for : CoreState → Unwrapped → Session
session_for core plain = fresh_session (core.installs + 1) plain.id plain.key plain.entry plain.lines

-- what it says can't be: too many lines, or an entry that is no place of an instruction
abbrev pub is_bad_image : Session → Bool
is_bad_image s =
    nat_lt (lines_of_session s) s.lines || (not (s.entry % 4 == 0) || nat_le (window_of s) s.entry)

-- the tests of Install that come before the envelope is opened, each with the status of its refusal
abbrev pub install_tests : CoreState → ℕ → ℕ → ℕ → List (Bool × ℕ)
install_tests core slot place area =
    (not (is_slot slot), 1) ∷ (not (is_free_state (session_of core slot).state), 2)
    ∷ (not (ram_holds_range core.ram place envelope_size && ram_holds_range core.ram area area_size), 4) ∷ []

-- the test of Install of what the envelope says
abbrev pub image_tests : CoreState → Unwrapped → List (Bool × ℕ)
image_tests core plain = (is_bad_image (session_for core plain), 7) ∷ []

-- the tests of Map
abbrev pub map_tests : CoreState → ℕ → ℕ → ℕ → List (Bool × ℕ)
map_tests core slot page frame =
    (is_bad_slot core slot, 1) ∷ (not (can_come_back (session_of core slot).state), 2)
    ∷ (nat_le (pages_of_session (session_of core slot)) page, 7)
    ∷ (not (ram_holds_range core.ram (frame * frame_size) frame_size), 4)
    ∷ (is_some (frame_of core.pages slot page), 5) ∷ []

-- the tests of Unmap
abbrev pub unmap_tests : CoreState → ℕ → ℕ → List (Bool × ℕ)
unmap_tests core slot page =
    (is_bad_slot core slot, 1) ∷ (not (can_come_back (session_of core slot).state), 2)
    ∷ (nat_le (pages_of_session (session_of core slot)) page, 7)
    ∷ (is_none (frame_of core.pages slot page), 5) ∷ []

-- the test of Kill
abbrev pub kill_tests : CoreState → ℕ → List (Bool × ℕ)
kill_tests core slot = (is_bad_slot core slot, 1) ∷ []

-- the cell is the slot's own, and its value is one of a register, as in each cell there is
abbrev pub is_own_cell : ℕ → Cell → Bool
is_own_cell slot cell = (cell.tag == slot) && nat_lt cell.value (2 ^ 32)

-- the tests that Save and Restore have in common
abbrev pub register_tests : CoreState → ℕ → ℕ → ℕ → List (Bool × ℕ) → List (Bool × ℕ)
register_tests core slot reg address last =
    (is_bad_slot core slot, 1) ∷ (not (is_paused (session_of core slot).state), 2)
    ∷ (not (is_cell reg), 7)
    ∷ (not (ram_holds_range core.ram address saved_size), 4) ∷ last

-- the tests of Save: the last one, that the cell is the slot's own
abbrev pub save_tests : CoreState → ℕ → ℕ → ℕ → List (Bool × ℕ)
save_tests core slot reg address =
    register_tests core slot reg address ((not (is_own_cell slot (cell_at core.cells reg)), 6) ∷ [])

-- the tests of Restore: the last one, that the guest owns the cell
abbrev pub restore_tests : CoreState → ℕ → ℕ → ℕ → List (Bool × ℕ)
restore_tests core slot reg address =
    register_tests core slot reg address
    ((not (bit_at (session_of core slot).mask reg == 1), 6) ∷ [])

-- ---- Save and Restore

-- the epoch under which a slot's registers are sealed
abbrev pub epoch_of : CoreState → ℕ → ℕ
epoch_of core slot = (session_of core slot).epoch

-- Save: the cell's value is sealed under the epoch and written to RAM
unfoldable pub after_save : CoreState → ℕ → ℕ → ℕ → CoreState
after_save core slot reg address =
    let value = (cell_at core.cells reg).value in
    record (with_entry core (reg_seal_entry (who_of core slot) (epoch_of core slot) reg value)) {
      ram = with_saved core.ram address (sealed_reg (who_of core slot) (epoch_of core slot) reg
          value);
    }

-- Save, with its tests
abbrev pub save_register : CoreState → ℕ → ℕ → ℕ → CoreState × ℕ
save_register core slot reg address =
    first_refusal_or core (save_tests core slot reg address)
    (success (after_save core slot reg address))

-- Restore: the tag that was right is recorded, and the cell gets the value and the slot's tag
unfoldable pub after_restore : CoreState → ℕ → ℕ → ℕ → ℕ → CoreState
after_restore core slot reg address value =
    record (with_entry core (reg_accept_entry (who_of core slot) (epoch_of core slot) reg
    (saved_at core.ram address).ct address)) {
      cells = with_cell core.cells reg value slot;
    }

-- a tag that differs stops the guest
abbrev pub after_reopening : CoreState → ℕ → ℕ → ℕ → Option ℕ → CoreState × ℕ
after_reopening core slot reg address None = (after_stop core slot (rule.RegisterTag reg), 8)
after_reopening core slot reg address (Some value) =
    success (after_restore core slot reg address value)

-- the saved register in RAM is opened under the slot's epoch
abbrev pub reopening : CoreState → ℕ → ℕ → ℕ → CoreState × ℕ
reopening core slot reg address =
    after_reopening core slot reg address
    (unsealed_register (reg_name (who_of core slot) (epoch_of core slot) reg)
    (reg_keys (who_of core slot) (epoch_of core slot)) (saved_at core.ram address))

-- Restore, with its tests
abbrev pub restore_register : CoreState → ℕ → ℕ → ℕ → CoreState × ℕ
restore_register core slot reg address =
    first_refusal_or core (restore_tests core slot reg address) (reopening core slot reg address)

module _ (v : Versions) where
  -- Install: the tag that was right is recorded, then the guest, then what its version store hashes
  unfoldable pub after_install : CoreState → ℕ → ℕ → ℕ → Unwrapped → CoreState
  after_install core slot place area plain =
      core_with_hashes
      (record core {
        sessions = slice_set core.sessions slot (session_for core plain);
        stores = slice_set core.stores slot (v.store_after_build area plain.lines core.ram);
        ram = v.ram_after_build area plain.lines core.ram;
        installs = core.installs + 1;
        entries = core.entries
            ++ entry.Accept core.machine.0 (envelope_message (envelope_in_ram core place)) place
            ∷ entry.Install (core.installs + 1) slot plain.id place plain.entry plain.lines ∷ [];
      })
      (v.texts_of_build area plain.lines core.ram)

  -- Install, of what the envelope's tag lets know: status 3 where it isn't right
  abbrev pub unwrap : CoreState → ℕ → ℕ → ℕ → Option Unwrapped → CoreState × ℕ
  unwrap core slot place area None = refusal_of core 3
  unwrap core slot place area (Some plain) =
      first_refusal_or core (image_tests core plain)
      (success (after_install core slot place area plain))

  -- Install, with its tests
  abbrev pub install : CoreState → ℕ → ℕ → ℕ → CoreState × ℕ
  install core slot place area = first_refusal_or core (install_tests core slot place area)
      (unwrap core slot place area (envelope_contents core.machine (envelope_in_ram core place)))

  -- Map
  abbrev pub map_page : CoreState → ℕ → ℕ → ℕ → CoreState × ℕ
  map_page core slot page frame =
      first_refusal_or core (map_tests core slot page frame)
      (success (record core { pages = with_page core.pages slot page (Some frame) }))

  -- Unmap: the page's lines leave the cache, the dirty ones sealed, before it is unmapped
  abbrev pub after_unmap : ℕ → ℕ → CoreState × Option Rule → CoreState × ℕ
  after_unmap slot page (core, None) =
      success (record core { pages = with_page core.pages slot page None })
  after_unmap slot page (core, Some why) = (core, 8)

  -- Unmap, with its tests
  abbrev pub unmap_page : CoreState → ℕ → ℕ → CoreState × ℕ
  unmap_page core slot page =
      first_refusal_or core (unmap_tests core slot page)
      (after_unmap slot page (after_flush v slot frame_lines (frame_lines * page) core))

  -- Kill: the slot is free again, and its version store stays as it is
  abbrev pub after_kill : CoreState → ℕ → CoreState
  after_kill core slot =
      with_entry (core_with_session (without_guest core slot) slot free)
      (entry.Kill (session_of core slot).install)

  -- Kill, with its test
  abbrev pub kill : CoreState → ℕ → CoreState × ℕ
  kill core slot = first_refusal_or core (kill_tests core slot) (success (after_kill core slot))

  -- an operation, with its status
  unfoldable pub operation : CoreState → Op → CoreState × ℕ
  operation core (Enter slot) =
      if is_slot slot then enter core slot (session_of core slot).state else refusal_of core 1
  operation core (Resume slot signal) =
      if is_slot slot then resume core slot signal (session_of core slot).state else refusal_of core
      1
  operation core (SetReg reg value) = set_register core reg value
  operation core Halt = success core
  operation core (Install slot envelope area) = install core slot envelope area
  operation core (Save slot reg address) = save_register core slot reg address
  operation core (Restore slot reg address) = restore_register core slot reg address
  operation core (Map slot page frame) = map_page core slot page frame
  operation core (Unmap slot page) = unmap_page core slot page
  operation core (Kill slot) = kill core slot
  operation core (Out byte) = success (with_entry core (entry.Out byte))
