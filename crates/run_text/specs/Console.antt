-- The console of a run: what its kernel wrote there, as its journal has it.
use Rattle.std.specs.Prelude.{ℕ, ◌-◌, ◌==◌, List, [], ◌∷◌, ◌++◌, length, slice_get, Option, Some, None, if◌then◌else◌}
use Rattle.std.specs.List.{filter_map}
use Rattle.xom_base.specs.declared.entry.Entry.{Entry}
use Rattle.xom_journal.specs.EntryParts.{byte_in}

-- the bytes that the kernel wrote, in order
abbrev pub console_of : List Entry → List ℕ
console_of entries = filter_map byte_in entries

-- the line end that a console still wants behind its last byte: none where it has no byte, or ends
-- with one
abbrev pub line_end_behind : Option ℕ → List ℕ
line_end_behind None = []
line_end_behind (Some last) = if last == 10 then [] else 10 ∷ []

-- a console in whole lines
abbrev pub console_lines : List ℕ → List ℕ
console_lines bytes = bytes ++ line_end_behind (slice_get bytes (length bytes - 1))
