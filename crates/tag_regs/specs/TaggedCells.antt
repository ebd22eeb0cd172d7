-- The processor's registers, each with the compartment that it belongs to.
use Rattle.std.specs.Prelude.{ℕ, ◌==◌, List, map, replicate, slice_index_or, slice_set, if◌then◌else◌}
use Rattle.xom_base.specs.Sizes.{register_places}
use Rattle.tag_regs.specs.declared.cell.Cell.{Cell}

-- zero, of the null compartment
abbrev pub empty_cell : Cell
empty_cell = record { value = 0; tag = 0 }

-- all cells empty. There are 34 places: $1 to $31, HI at 32 and LO at 33; place 0 isn't used
unfoldable pub all_empty : List Cell
all_empty = replicate register_places empty_cell

-- the cell of a register
abbrev pub cell_at : List Cell → ℕ → Cell
cell_at cells reg = slice_index_or cells reg empty_cell

-- the cells with another value and tag in one
abbrev pub with_cell : List Cell → ℕ → ℕ → ℕ → List Cell
with_cell cells reg value tag = slice_set cells reg (record { value = value; tag = tag })

-- a cell without what belongs to a slot
abbrev pub scrubbed_cell : ℕ → Cell → Cell
scrubbed_cell slot cell = if cell.tag == slot then empty_cell else cell

-- nothing is left of a slot
abbrev pub cells_after_scrub : ℕ → List Cell → List Cell
cells_after_scrub slot cells = map (scrubbed_cell slot) cells
