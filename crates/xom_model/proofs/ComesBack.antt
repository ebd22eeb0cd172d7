-- A register that was saved comes back under the same epoch.
use Rattle.std.proofs.Common.{◌≡◌, ◌≢◌, ◌==◌, ℕ, ◌+◌, ◌<◌, ◌≤◌, ◌^◌, Bool, List, [], ◌∷◌, ◌++◌, Some, length, take, drop, set, refl, sym, ◌∙◌, ap, arith, true, false, not}
use Rattle.std.specs.Prelude.{nat_le}
use Rattle.std.specs.Int.{bit_at}
use Rattle.std.proofs.Math.Seq.{drop-append_seam, take-append_seam}
use Rattle.std.proofs.lemmas.Bool.{eq-eqb}
use Rattle.std.proofs.lemmas.Bool.Decides.{nat_tests}
use Rattle.std.proofs.lemmas.List.{drop-append-le, drop-take, length-drop, length-take-le, set-get_or, take-append-le, take-take}
use Rattle.xom_seal.specs.declared.register.SealedReg.{SealedReg}
use Rattle.xom_seal.specs.Sealing.{unsealed_register}
use Rattle.xom_seal.proofs.SealLaws.{registers_open, length-register_masked}
use Rattle.xom_owners.specs.declared.owner.Owner.{Owner}
use Rattle.mips_plain.specs.Memory.{written_at}
use Rattle.mips_plain.proofs.Stores.{length-written_at}
use Rattle.tag_regs.specs.declared.cell.Cell.{Cell}
use Rattle.tag_regs.specs.TaggedCells.{cell_at, empty_cell}
use Rattle.session_table.specs.Sessions.{is_live}
use Rattle.xom_model.specs.Versions.{StandsFor}
use Rattle.line_ram.specs.Bytes.{bytes_at}
use Rattle.xom_model.specs.State.{CoreState, ram_holds_range as fits_ram, session_of}
use Rattle.xom_model.specs.Lines.{who_of}
use Rattle.xom_model.specs.Saves.{reg_keys, reg_name, saved_at, sealed_reg, with_saved}
use Rattle.xom_model.specs.Operation.{after_reopening, after_restore, after_save, epoch_of, first_refusal_or, is_bad_slot, is_cell, is_own_cell, is_paused, operation, restore_register, save_register}
use Rattle.xom_model.specs.Holds.{Holds, own_bit}
use Rattle.xom_model.specs.SavedBack.{SavedComesBack}
use Rattle.xom_model.proofs.OperationKept.{cell_from, own_from, paused_of}
use Rattle.xom_model.proofs.RamSize.{length-register_tag, length-with_saved}

-- ---- What was written is read

read_same : (ram part : List ℕ) (address : ℕ) → address + length part ≤ length ram
    → bytes_at (written_at ram address part) address (length part) ≡ part
read_same ram part address within =
    let front : length (take address ram) ≡ address = length-take-le address ram (omega arith) in
    let rest = part ++ drop (address + length part) ram in
    ap (λ n. take (length part) (drop n (take address ram ++ rest))) (sym front)
    ∙ ap (take (length part)) (drop-append_seam (take address ram) rest)
    ∙ take-append_seam part (drop (address + length part) ram)

read_before : (ram part : List ℕ) (address count : ℕ) → address + count ≤ length ram
    → bytes_at (written_at ram (address + count) part) address count ≡ bytes_at ram address count
read_before ram part address count within =
    let rest = part ++ drop (address + count + length part) ram in
    let front : length (take (address + count) ram) ≡ address + count =
    length-take-le (address + count) ram within in
    let here = drop-take address count ram in
    let size : length (take count (drop address ram)) ≡ count =
    length-take-le count (drop address ram) (let a = length-drop address ram in omega arith) in
    ap (take count) (drop-append-le address (take (address + count) ram) rest (omega arith)
    ∙ ap (λ l. l ++ rest) here)
    ∙ take-append-le count (take count (drop address ram)) rest (omega arith)
    ∙ take-take count count (drop address ram) (omega arith)

pub saved_reads : (ram : List ℕ) (address : ℕ) (sealed : SealedReg) → length sealed.ct ≡ 4
    → length sealed.tag ≡ 32 → address + 36 ≤ length ram
    → saved_at (with_saved ram address sealed) address ≡ sealed
saved_reads ram address sealed ct tag within =
    let first = written_at ram address sealed.ct in
    let size : length first ≡ length ram = length-written_at ram address sealed.ct (omega arith) in
    let its_ct : bytes_at (with_saved ram address sealed) address 4 ≡ sealed.ct =
    read_before first sealed.tag address 4 (omega arith)
    ∙ ap (bytes_at first address) (sym ct) ∙ read_same ram sealed.ct address (omega arith) in
    let its_tag : bytes_at (with_saved ram address sealed) (address + 4) 32 ≡ sealed.tag =
    ap (bytes_at (with_saved ram address sealed) (address + 4)) (sym tag) ∙ read_same first
    sealed.tag (address + 4) (omega arith) in
    ap (λ c. let s : SealedReg = record {
      ct = c;
      tag = bytes_at (with_saved ram address sealed)
          (address + 4) 32;
    } in s) its_ct
    ∙ ap (λ t. let s : SealedReg = record { ct = sealed.ct; tag = t } in s) its_tag

-- ---- Tests

-- a test that refuses with another status than 0 didn't hold
passed : (core : CoreState) (test : Bool) (status : ℕ) (tests : List (Bool × ℕ)) (deed : CoreState
    × ℕ)
    → status ≢ 0 → (first_refusal_or core ((test, status) ∷ tests) deed).1 ≡ 0
    → (test ≡ false) × ((first_refusal_or core tests deed).1 ≡ 0)
passed core true status tests deed some is = absurd (some is)
passed core false status tests deed some is = (refl, is)

-- where no test holds the deed is done
does : (core : CoreState) (test : Bool) (status : ℕ) (tests : List (Bool × ℕ)) (deed : CoreState
    × ℕ)
    → test ≡ false
    → first_refusal_or core ((test, status) ∷ tests) deed ≡ first_refusal_or core tests deed
does core test status tests deed none = rw none refl

module _ (Stands : StandsFor) (owners : List Owner) (core : CoreState) (slot reg address : ℕ)
    (holds : Holds Stands owners core) (is_done : (save_register core slot reg address).1 ≡ 0) where
  abbrev deed : CoreState × ℕ
  deed = (after_save core slot reg address, 0)

  abbrev cell : Cell
  cell = cell_at core.cells reg

  abbrev sealed : SealedReg
  sealed = sealed_reg (who_of core slot) (epoch_of core slot) reg cell.value

  abbrev own_test : List (Bool × ℕ)
  own_test = (not (is_own_cell slot cell), 6) ∷ []

  abbrev fits_test : List (Bool × ℕ)
  fits_test = (not (fits_ram core.ram address 36), 4) ∷ own_test

  abbrev cell_test : List (Bool × ℕ)
  cell_test = (not (is_cell reg), 7) ∷ fits_test

  abbrev paused_test : List (Bool × ℕ)
  paused_test = (not (is_paused (session_of core slot).state), 2) ∷ cell_test

  good_slot : (is_bad_slot core slot ≡ false) × ((first_refusal_or core paused_test deed).1 ≡ 0)
  good_slot = passed core (is_bad_slot core slot) 1 paused_test deed (omega arith) is_done

  is_waiting : (not (is_paused (session_of core slot).state) ≡ false)
      × ((first_refusal_or core cell_test deed).1 ≡ 0)
  is_waiting =
      passed core (not (is_paused (session_of core slot).state)) 2 cell_test deed (omega arith)
      good_slot.1

  good_cell : (not (is_cell reg) ≡ false) × ((first_refusal_or core fits_test deed).1 ≡ 0)
  good_cell = passed core (not (is_cell reg)) 7 fits_test deed (omega arith) is_waiting.1

  good_range : (not (fits_ram core.ram address 36) ≡ false)
      × ((first_refusal_or core own_test deed).1 ≡ 0)
  good_range =
      passed core (not (fits_ram core.ram address 36)) 4 own_test deed (omega arith) good_cell.1

  good_own : (not (is_own_cell slot cell) ≡ false) × (deed.1 ≡ 0)
  good_own = passed core (not (is_own_cell slot cell)) 6 [] deed (omega arith) good_range.1

  own : (cell.tag ≡ slot) × (cell.value < 2 ^ 32)
  own = own_from slot cell good_own.0

  within : address + 36 ≤ length core.ram
  within = elim (nat_le (address + 36) (length core.ram)) as
      (λ b. nat_le (address + 36) (length core.ram) ≡ b → not b ≡ false → address + 36 ≤ length
      core.ram) [
        | true ↦ λ is _. grind (arith, nat_tests)
        | false ↦ λ _ bad. absurd (cc)
      ] refl good_range.0

  -- the program owns the cell, so its bit is set
  bit : (not (bit_at (session_of core slot).mask reg == 1)) ≡ false
  bit =
      let live = is_live_of in
      let agrees = (holds.slots.held slot live).3 in
      let range = cell_from reg good_cell.0 in
      let set_bit : bit_at (session_of core slot).mask reg ≡ 1 = agrees.mask reg range.0 range.1
      ∙ ap own_bit (agrees.cells reg range.0 range.1 own.0) in
      ap not (eq-eqb (bit_at (session_of core slot).mask reg) 1 set_bit)
    where
      is_live_of : is_live (session_of core slot).state ≡ true
      is_live_of = rw (paused_of (session_of core slot).state is_waiting.0) refl

  size : length (with_saved core.ram address sealed) ≡ length core.ram
  size =
      length-with_saved core.ram address sealed (length-register_masked _ _ _ refl)
      (length-register_tag _ _ _) within

  -- what the machine reads is what it sealed
  opens : unsealed_register (reg_name (who_of core slot) (epoch_of core slot) reg)
      (reg_keys (who_of core slot) (epoch_of core slot))
      (saved_at (with_saved core.ram address sealed) address) ≡ Some cell.value
  opens =
      ap (unsealed_register (reg_name (who_of core slot) (epoch_of core slot) reg)
      (reg_keys (who_of core slot) (epoch_of core slot))) (saved_reads core.ram address sealed
      (length-register_masked _ _ _ refl) (length-register_tag _ _ _) within)
      ∙ registers_open (reg_name (who_of core slot) (epoch_of core slot) reg)
      (reg_keys (who_of core slot) (epoch_of core slot)) cell.value own.1

  abbrev new : CoreState
  new = after_save core slot reg address

  fits_new : not (fits_ram new.ram address 36) ≡ false
  unfolding after_save
  fits_new = ap (λ n. not (nat_le (address + 36) n)) size ∙ good_range.0

  is_restored : restore_register new slot reg address ≡ (
    after_restore new slot reg address
        cell.value,
    0,
  )
  unfolding after_save
  is_restored =
      let deed_back = after_reopening new slot reg address
      (unsealed_register (reg_name (who_of core slot) (epoch_of core slot) reg)
      (reg_keys (who_of core slot) (epoch_of core slot)) (saved_at new.ram address)) in
      rw (good_slot.0, is_waiting.0, good_cell.0, fits_new, bit)
      (ap (after_reopening new slot reg address) opens)

  -- the save was done
  is_saved : save_register core slot reg address ≡ deed
  is_saved = rw (good_slot.0, is_waiting.0, good_cell.0, good_range.0, good_own.0) refl

  cell_is : cell ≡ record { value = cell.value; tag = slot }
  cell_is = ap (λ t. let c : Cell = record { value = cell.value; tag = t } in c) own.0

  same_cells : (after_restore new slot reg address cell.value).cells ≡ core.cells
  unfolding after_restore after_save
  same_cells = ap (set core.cells reg) (sym cell_is) ∙ set-get_or core.cells reg empty_cell

  pub comes_back : ((restore_register (save_register core slot reg address).0 slot reg address).1
      ≡ 0) × ((restore_register (save_register core slot reg address).0 slot reg address).0.cells
      ≡ core.cells)
  comes_back =
      let moved = ap (λ (a : CoreState × ℕ). restore_register a.0 slot reg address) is_saved
      ∙ is_restored in (
        ap (λ (a : CoreState × ℕ). a.1) moved,
        ap (λ (a : CoreState × ℕ). a.0.cells) moved
            ∙ same_cells,
      )

pub saved_comes_back : (Stands : StandsFor) → SavedComesBack Stands
unfolding operation
saved_comes_back Stands v owners core slot reg address holds is_done =
    comes_back Stands owners core slot reg address holds is_done
