-- Instructions that only compute, done one after another: what they make of the cells and of the
-- pair.
-- Source: Kane and Heinrich, MIPS RISC Architecture, appendix A (MIPS I); a write makes a cell the
-- writer's own, which is this project's own.
use Rattle.std.specs.Prelude.{ℕ, zero, suc, ◌==◌, List, Option, Some, None, Result, Ok, Err, if◌then◌else◌}
use Rattle.mips_instruction.specs.declared.instruction.Ins.{Ins}
use Rattle.mips_instruction.specs.Words.{instruction_of_word}
use Rattle.xom_base.specs.Options.{◌>>=◌}
use Rattle.xom_base.specs.declared.event.OwnFault.{OwnFault}
use Rattle.xom_base.specs.declared.event.OwnFault.TheVariants as fault
use Rattle.xom_base.specs.declared.step.Writes.{Writes}
use Rattle.xom_base.specs.declared.step.Writes.TheVariants as writes
use Rattle.mips_effect.specs.declared.effects.Effect.{Effect}
use Rattle.mips_effect.specs.declared.seen.Mode.{Mode}
use Rattle.mips_effect.specs.declared.seen.Seen.{Seen}
use Rattle.mips_effect.specs.declared.seen.Seen.TheVariants.{Value}
use Rattle.mips_effect.specs.declared.wish.Wish.{Wish}
use Rattle.mips_effect.specs.declared.wish.Wish.TheVariants as wish
use Rattle.mips_effect.specs.Effects.{sources_of, effect_of}
use Rattle.mips_plain.specs.Memory.{word_at_address}

-- ---- Cells and pairs

-- what is seen in each cell: registers 0 to 31, HI as cell 32 and LO as cell 33
abbrev pub Cells : Type 0
Cells = ℕ → Seen

-- the cells after they were written; what was foreign and is written is the writer's own
abbrev pub cells_after_writes : Cells → Writes → Cells
cells_after_writes cells writes.Nothing = cells
cells_after_writes cells (writes.One reg value) = λ cell. if cell == reg then Value value else cells cell
cells_after_writes cells (writes.Pair hi lo) =
    λ cell. if cell == 32 then Value hi else (if cell == 33 then Value lo else cells cell)

-- the cells, and the addresses of the next instruction and of the one after it
pub record StateOfLaw : Type 0 where
  pub cells : Cells
  pub pc : ℕ
  pub npc : ℕ

-- the state that has these cells and these two addresses
abbrev pub state : Cells → (pc npc : ℕ) → StateOfLaw
state cells pc npc = record { cells = cells; pc = pc; npc = npc }

-- ---- Steps

-- what an instruction comes to; what is none is Reserved
abbrev pub effect_on : Mode → StateOfLaw → Option Ins → Result Effect OwnFault
effect_on mode before None = Err fault.Reserved
effect_on mode before (Some i) =
    effect_of i mode (before.cells (sources_of i).0) (before.cells (sources_of i).1)
    (before.cells (sources_of i).2) before.pc before.npc

-- the state, where nothing is wished: no load, no store, no call and no operation
abbrev pub without_wish : Wish → StateOfLaw → Option StateOfLaw
without_wish wish.Nothing next = Some next
without_wish other next = None

-- the state after an effect that only computes; none where it is a fault or wishes anything
abbrev pub state_after_effect : Cells → Result Effect OwnFault → Option StateOfLaw
state_after_effect cells (Err fault) = None
state_after_effect cells (Ok effect) =
    without_wish effect.wish (state (cells_after_writes cells effect.writes) effect.pc effect.npc)

-- the state after the instruction whose word stands in memory at pc
abbrev pub state_after_one : List ℕ → Mode → StateOfLaw → Option StateOfLaw
state_after_one memory mode before =
    state_after_effect before.cells (effect_on mode before (instruction_of_word (word_at_address memory before.pc)))

-- the state after so many instructions, each fetched from memory, where all of them only compute
abbrev pub state_after : ℕ → List ℕ → Mode → StateOfLaw → Option StateOfLaw
state_after zero memory mode before = Some before
state_after (suc n) memory mode before =
    state_after_one memory mode before >>= state_after n memory mode
