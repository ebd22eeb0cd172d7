-- What the machine wants of the schedule of a run.
use Rattle.std.specs.Prelude.{ℕ, ◌≤◌, All, length, map}
use Rattle.std.specs.List.Sorted.{IsStrictlyIncreasing}
use Rattle.xom_base.specs.declared.schedule.Poke.{Poke}
use Rattle.xom_base.specs.declared.schedule.Schedule.{Schedule}
use Rattle.xom_script.specs.RunOrder.{FitsRam}
use Rattle.xom_script.specs.RunRules.{KeepsInterrupts}

-- a write of the bus comes at some event, has bytes, no more than a page, and lies in a RAM of so
-- many frames
pub record IsPokeOf (frames : ℕ) (poke : Poke) : Type 0 where
  pub event : 1 ≤ poke.event
  pub some : 1 ≤ length poke.bytes
  pub few : length poke.bytes ≤ 8192
  pub inside : FitsRam poke frames

-- the interrupt line keeps its rules, and the numbers of the writes' events ascend strictly
pub record KeepsSchedule (frames : ℕ) (schedule : Schedule) : Type 0 where
  pub interrupts : KeepsInterrupts schedule.interrupts
  pub pokes : All (IsPokeOf frames) schedule.pokes
  pub ascending : IsStrictlyIncreasing (map (λ (poke : Poke). poke.event) schedule.pokes)
