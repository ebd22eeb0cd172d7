-- What Unmap does behind the tests that it has in common with Map.
use Rattle.std.specs.Prelude.{ℕ, ◌*◌, Bool, List, [], ◌∷◌, None, is_none}
use Rattle.line_ram.specs.Bytes.{frame_lines}
use Rattle.page_map.specs.Pages.{frame_of, with_page}
use Rattle.xom_versions.specs.Versions.{Versions}
use Rattle.xom_model.specs.Access.{after_flush}
use Rattle.xom_model.specs.Operation.{after_unmap}
use Rattle.xom_model.specs.State.{CoreState}

-- the last test: the page has a frame
abbrev pub mapped_tests : CoreState → ℕ → ℕ → List (Bool × ℕ)
mapped_tests core slot page = (is_none (frame_of core.pages slot page), 5) ∷ []

-- the page is flushed, and then it has no frame, unless its slot was stopped
abbrev pub frame_taken : Versions → CoreState → ℕ → ℕ → CoreState × ℕ
frame_taken v core slot page =
    after_unmap v slot page (after_flush v slot frame_lines (frame_lines * page) core)

-- the core in which a page has no frame
abbrev pub without_frame : CoreState → ℕ → ℕ → CoreState
without_frame core slot page = record core { pages = with_page core.pages slot page None }
