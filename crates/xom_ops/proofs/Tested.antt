-- A row of tests in two parts.
use Rattle.std.proofs.Common.{◌≡◌, ℕ, Bool, true, false, List, [], ◌∷◌, ◌++◌, Option, Some, if◌then◌else◌, refl, ◌∙◌, ap, sym}
use Rattle.xom_model.specs.State.{CoreState}
use Rattle.xom_versions.specs.Versions.{Versions}
use Rattle.xom_model.specs.Operation.{after_save, first_refusal_or, map_page, refusal_of, register_tests, reopening, restore_register, save_register, success}
use Rattle.xom_ops.specs.Refusals.{frame_tests, mask_tests, or_refused, own_tests, page_tests, refusal, with_frame}

module _ (core : CoreState) (last : List (Bool × ℕ)) (deed : CoreState × ℕ) where
  -- the first part refuses, or the second one is tried
  split : (tests : List (Bool × ℕ))
      → first_refusal_or core (tests ++ last) deed ≡ or_refused core (refusal tests)
      (first_refusal_or core last deed)
  split [] = refl
  split (test ∷ tests) =
      elim test.0 as (λ b. (if b then refusal_of core test.1 else first_refusal_or core
      (tests ++ last) deed) ≡ or_refused core (if b then Some test.1 else refusal tests)
      (first_refusal_or core last deed)) [
        | true ↦ refl
        | false ↦ split tests
      ]

  -- so it is where the first part's status is known
  pub split_by : (tests : List (Bool × ℕ)) (status : Option ℕ) → status ≡ refusal tests
      → or_refused core status (first_refusal_or core last deed) ≡ first_refusal_or core
      (tests ++ last) deed
  split_by tests status is =
      ap (λ s. or_refused core s (first_refusal_or core last deed)) is ∙ sym (split tests)

-- ---- The rows of the operations

module _ (core : CoreState) (slot reg address : ℕ) (status : Option ℕ)
    (is : status ≡ refusal (register_tests core slot reg address [])) where
  pub save_parts : or_refused core status (first_refusal_or core (own_tests core slot reg)
      (success (after_save core slot reg address))) ≡ save_register core slot reg address
  save_parts =
      split_by core (own_tests core slot reg) (success (after_save core slot reg address))
      (register_tests core slot reg address []) status is

  pub restore_parts : or_refused core status (first_refusal_or core (mask_tests core slot reg)
      (reopening core slot reg address)) ≡ restore_register core slot reg address
  restore_parts =
      split_by core (mask_tests core slot reg) (reopening core slot reg address)
      (register_tests core slot reg address []) status is

pub map_parts : (v : Versions) (core : CoreState) (slot page frame : ℕ) (status : Option ℕ)
    → status ≡ refusal (page_tests core slot page)
    → or_refused core status (first_refusal_or core (frame_tests core slot page frame)
    (success (with_frame core slot page frame))) ≡ map_page v core slot page frame
map_parts v core slot page frame status is =
    split_by core (frame_tests core slot page frame) (success (with_frame core slot page frame))
    (page_tests core slot page) status is
