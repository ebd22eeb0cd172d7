-- An operation with a status other than 0 and 8 leaves the core as it was.
use Rattle.std.proofs.Common.{◌≡◌, ◌⊎◌, inl, inr, ℕ, ◌*◌, Bool, true, false, cond, List, [], ◌∷◌, Option, Some, None, refl}
use Rattle.std.specs.Prelude.{nat_le}
use Rattle.xom_base.specs.declared.event.Op.TheVariants.{Install, Enter, Resume, Save, Restore, Map, Unmap, SetReg, Kill, Out, Halt}
use Rattle.xom_base.specs.declared.event.Rule.{Rule}
use Rattle.xom_seal.specs.declared.envelope.Unwrapped.{Unwrapped}
use Rattle.xom_seal.specs.Envelopes.{envelope_contents}
use Rattle.session_table.specs.declared.session.SlotState.{SlotState}
use Rattle.session_table.specs.declared.session.SlotState.TheVariants as state
use Rattle.xom_versions.specs.Versions.{Versions}
use Rattle.xom_model.specs.State.{CoreState, session_of}
use Rattle.xom_model.specs.Access.{after_flush}
use Rattle.xom_model.specs.Operation.{after_reopening, after_unmap, enter, envelope_in_ram, first_refusal_or, image_tests, install_tests, is_cell, is_slot, kill_tests, map_tests, missing_cell, operation, refusal_of, restore_tests, resume, resume_or_stop, save_tests, slot_takes_signal, unmap_tests, unwrap}
use Rattle.xom_model.specs.Laws.{RefusalsChangeNothing}

-- each outcome of an operation
abbrev Outcome : CoreState → CoreState × ℕ → Type 0
Outcome core result = (result.1 ≡ 0) ⊎ (result.1 ≡ 8) ⊎ (result.0 ≡ core)

either : (core : CoreState) (b : Bool) (one other : CoreState × ℕ) → Outcome core one
    → Outcome core other → Outcome core (cond b one other)
either core true one other first second = first
either core false one other first second = second

enter_outcome : (core : CoreState) (slot : ℕ) (at : SlotState) → Outcome core (enter core slot at)
enter_outcome core slot state.Free = inr (inr refl)
enter_outcome core slot state.Fresh = inl refl
enter_outcome core slot _ = inr (inr refl)

go_on_outcome : (core : CoreState) (slot signal : ℕ) (lost : Option ℕ)
    → Outcome core (resume_or_stop core slot signal lost)
go_on_outcome core slot signal None = inl refl
go_on_outcome core slot signal (Some reg) = inr (inl refl)

resume_outcome : (core : CoreState) (slot signal : ℕ) (at : SlotState)
    → Outcome core (resume core slot signal at)
resume_outcome core slot signal state.Free = inr (inr refl)
resume_outcome core slot signal state.Fresh = inr (inr refl)
resume_outcome core slot signal state.Running = inr (inr refl)
resume_outcome core slot signal state.Paused =
    either core (nat_le signal 63) (cond (slot_takes_signal (session_of core slot) signal)
    (resume_or_stop core slot signal (missing_cell slot (session_of core slot).mask core.cells)) (core, 2))
    (core, 7)
    (either core (slot_takes_signal (session_of core slot) signal)
    (resume_or_stop core slot signal (missing_cell slot (session_of core slot).mask core.cells)) (core, 2)
    (go_on_outcome core slot signal _) (inr (inr refl)))
    (inr (inr refl))
resume_outcome core slot signal state.Ended = inr (inr refl)
resume_outcome core slot signal (state.Stopped why) = inr (inr refl)

tested_outcome : (core : CoreState) (tests : List (Bool × ℕ)) (deed : CoreState × ℕ)
    → Outcome core deed → Outcome core (first_refusal_or core tests deed)
tested_outcome core [] deed outcome = outcome
tested_outcome core (test ∷ tests) deed outcome =
    either core test.0 (refusal_of core test.1) (first_refusal_or core tests deed) (inr (inr refl))
    (tested_outcome core tests deed outcome)

unwrap_outcome : (v : Versions) (core : CoreState) (slot place area : ℕ) (found : Option Unwrapped)
    → Outcome core (unwrap v core slot place area found)
unwrap_outcome v core slot place area None = inr (inr refl)
unwrap_outcome v core slot place area (Some plain) =
    tested_outcome core (image_tests core plain) _ (inl refl)

unmapped_outcome : (v : Versions) (core : CoreState) (slot page : ℕ) (result : CoreState
    × Option Rule)
    → Outcome core (after_unmap v slot page result)
unmapped_outcome v core slot page (new, None) = inl refl
unmapped_outcome v core slot page (new, Some why) = inr (inl refl)

reopened_outcome : (core : CoreState) (slot reg address : ℕ) (found : Option ℕ)
    → Outcome core (after_reopening core slot reg address found)
reopened_outcome core slot reg address None = inr (inl refl)
reopened_outcome core slot reg address (Some value) = inl refl

pub refusals_change_nothing : RefusalsChangeNothing
unfolding operation
refusals_change_nothing v core (Enter slot) =
    either core (is_slot slot) _ (core, 1) (enter_outcome core slot _) (inr (inr refl))
refusals_change_nothing v core (Resume slot signal) =
    either core (is_slot slot) _ (core, 1) (resume_outcome core slot signal _) (inr (inr refl))
refusals_change_nothing v core (SetReg reg value) =
    either core (is_cell reg) _ (core, 7) (inl refl) (inr (inr refl))
refusals_change_nothing v core Halt = inl refl
refusals_change_nothing v core (Install slot place area) =
    tested_outcome core (install_tests core slot place area) _ (unwrap_outcome v core slot place
    area (envelope_contents core.machine (envelope_in_ram core place)))
refusals_change_nothing v core (Save slot reg address) =
    tested_outcome core (save_tests core slot reg address) _ (inl refl)
refusals_change_nothing v core (Restore slot reg address) =
    tested_outcome core (restore_tests core slot reg address) _
    (reopened_outcome core slot reg address _)
refusals_change_nothing v core (Map slot page frame) =
    tested_outcome core (map_tests core slot page frame) _ (inl refl)
refusals_change_nothing v core (Unmap slot page) =
    tested_outcome core (unmap_tests core slot page) _
    (unmapped_outcome v core slot page (after_flush v slot 128 (128 * page) core))
refusals_change_nothing v core (Kill slot) = tested_outcome core (kill_tests core slot) _ (inl refl)
refusals_change_nothing v core (Out byte) = inl refl
