-- Which test of a row refuses an operation, and the rows of which the model's rows are made.
use Rattle.std.specs.Prelude.{ℕ, ◌*◌, ◌==◌, Bool, List, [], ◌∷◌, Option, Some, None, is_some, nat_le, not, if◌then◌else◌}
use Rattle.std.specs.Int.{bit_at}
use Rattle.xom_base.specs.Frames.{frame_size}
use Rattle.page_map.specs.Pages.{frame_of, with_page}
use Rattle.tag_regs.specs.TaggedCells.{cell_at}
use Rattle.xom_model.specs.Operation.{can_come_back, is_bad_slot, is_own_cell, refusal_of}
use Rattle.xom_model.specs.State.{CoreState, pages_of_session, ram_holds_range, session_of}

-- the status of the first test that holds, if one does
abbrev pub refusal : List (Bool × ℕ) → Option ℕ
refusal [] = None
refusal (test ∷ tests) = if test.0 then Some test.1 else refusal tests

-- an operation that is refused with a status, or goes on
abbrev pub or_refused : CoreState → Option ℕ → CoreState × ℕ → CoreState × ℕ
or_refused core None after = after
or_refused core (Some status) after = refusal_of core status

-- the tests that Map and Unmap have in common
abbrev pub page_tests : CoreState → ℕ → ℕ → List (Bool × ℕ)
page_tests core slot page =
    (is_bad_slot core slot, 1) ∷ (not (can_come_back (session_of core slot).state), 2)
    ∷ (nat_le (pages_of_session (session_of core slot)) page, 7) ∷ []

-- the tests that Map has behind them
abbrev pub frame_tests : CoreState → ℕ → ℕ → ℕ → List (Bool × ℕ)
frame_tests core slot page frame =
    (not (ram_holds_range core.ram (frame * frame_size) frame_size), 4)
    ∷ (is_some (frame_of core.pages slot page), 5) ∷ []

-- the core in which a page has a frame
abbrev pub with_frame : CoreState → ℕ → ℕ → ℕ → CoreState
with_frame core slot page frame = record core {
  pages = with_page core.pages slot page (Some frame);
}

-- the last test of Save: the cell is the slot's own
abbrev pub own_tests : CoreState → ℕ → ℕ → List (Bool × ℕ)
own_tests core slot reg = (not (is_own_cell slot (cell_at core.cells reg)), 6) ∷ []

-- the last test of Restore: the guest owns the cell
abbrev pub mask_tests : CoreState → ℕ → ℕ → List (Bool × ℕ)
mask_tests core slot reg = (not (bit_at (session_of core slot).mask reg == 1), 6) ∷ []
