-- What an instruction of MIPS I comes to where each cell that it reads has a value: what these laws
-- speak of.
use Rattle.std.specs.Prelude.{◌≡◌, ℕ, ◌==◌, false, if◌then◌else◌}
use Rattle.mips_instruction.specs.declared.instruction.Ins.{Ins}
use Rattle.mips_effect.specs.declared.seen.Mode.{Mode}
use Rattle.mips_effect.specs.declared.seen.Seen.TheVariants.{Value}
use Rattle.mips_effect.specs.Effects.{sources_of, is_guest_form, is_kernel_form, act, effect_of}

-- the value of a cell; $0 is zero
abbrev pub value_in_cell : (cell value : ℕ) → ℕ
value_in_cell cell value = if cell == 0 then 0 else value

-- a form of MIPS I, which guests and null code have: neither is it a guest's own, nor null code's
-- own
pub record IsMips1 (i : Ins) : Type 0 where
  pub no_guest_form : is_guest_form i ≡ false
  pub no_kernel_form : is_kernel_form i ≡ false

-- its effect on cells that have values is `act` of these
abbrev pub OwnedCellsAreActedOn : Type 0
OwnedCellsAreActedOn = (i : Ins) (mode : Mode) (s t d pc npc : ℕ) → IsMips1 i
    → effect_of i mode (Value s) (Value t) (Value d) pc npc ≡ act i mode
    (value_in_cell (sources_of i).0 s) (value_in_cell (sources_of i).1 t) (value_in_cell (sources_of i).2 d) npc
