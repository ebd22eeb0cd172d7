-- When a step touches nothing but the guest's own cells and private memory.
use Rattle.std.specs.Prelude.{◌+◌, ◌≤◌}
use Rattle.xom_base.specs.declared.step.Stored.{Stored}
use Rattle.xom_base.specs.declared.step.Stored.TheVariants as stored
use Rattle.xom_base.specs.declared.step.Released.{Released}
use Rattle.xom_base.specs.declared.step.Released.TheVariants as released
use Rattle.xom_base.specs.declared.step.Step.{Step}
use Rattle.mips_instruction.specs.Words.{IsMoved}
use Rattle.mips_effect.specs.Effects.{AreCells}
use Rattle.mips_plain.specs.Memory.{private_size}

-- 1 to 4 bytes are stored, within private memory
abbrev pub IsPrivate : Stored → Type 0
IsPrivate stored.Nothing = Unit {0}
IsPrivate (stored.Bytes address count value) =
    (1 ≤ count) × (count ≤ 4) × (address + count ≤ private_size)

-- a released cell is $1 to $31
abbrev pub IsLent : Released → Type 0
IsLent (released.Cell reg value) = IsMoved reg
IsLent other = Unit {0}

-- each place that the step names is in its range
pub record IsInside (step : Step) : Type 0 where
  pub writes : AreCells step.writes
  pub stored : IsPrivate step.stored
  pub released : IsLent step.released
