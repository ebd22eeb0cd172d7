-- The rules that each run file keeps which is read.
use Rattle.std.specs.Prelude.{ℕ, ◌^◌, ◌<◌, ◌≤◌, List, [], ◌∷◌, length}
use Rattle.std.specs.List.{AllByRecursion}
use Rattle.xom_base.specs.declared.schedule.Interrupts.{Interrupts}
use Rattle.xom_base.specs.declared.schedule.Interrupts.TheVariants as interrupts
use Rattle.xom_base.specs.declared.schedule.Poke.{Poke}
use Rattle.xom_base.specs.Sizes.{slot_limit}
use Rattle.xom_script.specs.RunLines.{Ascends}
use Rattle.xom_script.specs.RunOrder.{FitsRam, HasRoom, IsNewId, owner_limit}
use Rattle.xom_script.specs.declared.progress.Draft.{Draft}
use Rattle.xom_script.specs.declared.run_file.OwnerFile.{OwnerFile}
use Rattle.xom_script.specs.declared.run_file.RunFile.{RunFile}

-- the numbers of an interrupt line are from 1, and listed ones are one or more and ascend strictly
abbrev pub KeepsInterrupts : Interrupts → Type 0
KeepsInterrupts interrupts.Never = Unit {0}
KeepsInterrupts (interrupts.Every n) = 1 ≤ n
KeepsInterrupts (interrupts.At times) = (0 < length times) × Ascends 0 times

-- no two owners have one id
abbrev pub HasOwnIds : List OwnerFile → Type 0
HasOwnIds [] = Unit {0}
HasOwnIds (owner ∷ owners) = IsNewId owner.id owners × HasOwnIds owners

-- the number of the power-on, how many frames RAM has, and at most how many events are made
pub record KeepsNumbers (boot frames budget : ℕ) : Type 0 where
  pub booted : boot < 2 ^ 63
  pub frames_least : 4 ≤ frames
  pub frames_most : frames ≤ 8192
  pub few : budget ≤ 2 ^ 20

-- what is said before the kernel's line
pub record KeepsDraft (draft : Draft) : Type 0 where
  pub numbers : KeepsNumbers draft.boot draft.frames draft.budget
  pub owners : length draft.owners ≤ owner_limit
  pub ids : HasOwnIds draft.owners
  pub guests : length draft.guests ≤ slot_limit

-- what a run file says before the kernel's line
abbrev pub draft_of : RunFile → Draft
draft_of file = record {
  machine = file.machine;
  boot = file.boot;
  frames = file.frames;
  budget = file.budget;
  owners = file.owners;
  guests = file.guests;
}

-- all the rules of a run file
pub record KeepsRules (file : RunFile) : Type 0 where
  pub draft : KeepsDraft (draft_of file)
  pub room : HasRoom file.kernel file.frames (length file.guests)
  pub interrupts : KeepsInterrupts file.schedule.interrupts
  pub inside : AllByRecursion (λ (poke : Poke). FitsRam poke file.frames) file.schedule.pokes
