-- One instruction of null code: over the cells, RAM and the null pair. It is no part of any
-- compartment.
use Rattle.std.specs.Prelude.{ℕ, ◌-◌, ◌%◌, ◌==◌, ◌&&◌, length, List, Option, Some, None, Result, Ok, Err, if◌then◌else◌}
use Rattle.mips_instruction.specs.declared.instruction.Ins.{Ins}
use Rattle.mips_instruction.specs.Words.{instruction_of_word}
use Rattle.mips_effect.specs.declared.effects.Effect.{Effect}
use Rattle.mips_effect.specs.declared.seen.Mode.TheVariants.{Null}
use Rattle.mips_effect.specs.declared.seen.Seen.{Seen}
use Rattle.mips_effect.specs.declared.seen.Seen.TheVariants.{Value, Foreign}
use Rattle.mips_effect.specs.declared.wish.Asked.{Asked}
use Rattle.mips_effect.specs.declared.wish.Asked.TheVariants as asked
use Rattle.mips_effect.specs.declared.wish.LoadKind.{LoadKind}
use Rattle.mips_effect.specs.declared.wish.Wish.{Wish}
use Rattle.mips_effect.specs.declared.wish.Wish.TheVariants as wish
use Rattle.mips_effect.specs.Effects.{effect_of, merge_of, sources_of, write_of_register}
use Rattle.xom_base.specs.declared.event.Cause.{Cause}
use Rattle.xom_base.specs.declared.event.Cause.TheVariants as cause
use Rattle.xom_model.specs.declared.outcome.NullFault.{NullFault}
use Rattle.xom_model.specs.declared.outcome.NullFault.TheVariants as null
use Rattle.xom_base.specs.declared.event.Op.{Op}
use Rattle.xom_base.specs.declared.event.OwnFault.{OwnFault}
use Rattle.xom_base.specs.declared.event.OwnFault.TheVariants as fault
use Rattle.xom_base.specs.declared.event.Rule.{Rule}
use Rattle.xom_base.specs.declared.event.Rule.TheVariants as rule
use Rattle.xom_base.specs.declared.step.Writes.{Writes}
use Rattle.xom_base.specs.declared.step.Writes.TheVariants as writes
use Rattle.tag_regs.specs.declared.cell.Cell.{Cell}
use Rattle.tag_regs.specs.TaggedCells.{cell_at, with_cell}
use Rattle.mips_plain.specs.Instruction.{instruction_or_fault}
use Rattle.mips_plain.specs.Memory.{low_bytes, word_at_address}
use Rattle.line_ram.specs.Bytes.{ram_with_bytes}
use Rattle.xom_model.specs.State.{ram_holds_range}

-- a write outside RAM changes nothing
unfoldable pub ram_after_write : List ℕ → ℕ → List ℕ → List ℕ
ram_after_write ram address bytes =
    if ram_holds_range ram address (length bytes) then ram_with_bytes ram address bytes else ram

-- what null code may be told
pub record Told : Type 0 where
  pub status : ℕ
  pub cause : Cause
  pub who : ℕ

-- all that an instruction of null code may change: the open part of the machine
pub record Open : Type 0 where
  pub cells : List Cell
  pub ram : List ℕ
  pub pc : ℕ
  pub npc : ℕ

-- ---- What it is told

-- a guest's own fault, as null code is told it
abbrev pub fault_number : OwnFault → ℕ
fault_number fault.Reserved = 1
fault_number fault.Foreign = 2
fault_number fault.Overflow = 3
fault_number fault.Address = 4
fault_number fault.Break = 5

-- a rule, as null code is told it
abbrev pub rule_number : Rule → ℕ
rule_number (rule.LineTag line) = 1
rule_number (rule.TreeNode level) = 2
rule_number (rule.RegisterTag reg) = 3
rule_number (rule.RegisterMissing reg) = 4

-- why a guest left last, as null code is told it
abbrev pub cause_number : Cause → ℕ
cause_number cause.Nothing = 0
cause_number cause.Interrupt = 1
cause_number (cause.Call code) = 2
cause_number (cause.Page page) = 3
cause_number (cause.Fault why) = 4
cause_number cause.Exit = 5
cause_number (cause.Stopped why) = 6

-- the detail of why a guest left: the code of a call, a page, or the number of a fault or rule
abbrev pub cause_argument : Cause → ℕ
cause_argument cause.Nothing = 0
cause_argument cause.Interrupt = 0
cause_argument (cause.Call code) = code
cause_argument (cause.Page page) = page
cause_argument (cause.Fault why) = fault_number why
cause_argument cause.Exit = 0
cause_argument (cause.Stopped why) = rule_number why

-- what null code is told where it asks for the status, the cause, its detail or the slot
abbrev pub null_answer : Told → Asked → ℕ
null_answer told asked.Status = told.status
null_answer told asked.Cause = cause_number told.cause
null_answer told asked.Arg = cause_argument told.cause
null_answer told asked.Who = told.who

-- ---- What it sees

-- a cell of another compartment is foreign, and counts as 0
abbrev pub open_cell : Cell → Seen
open_cell cell = if cell.tag == 0 then Value cell.value else Foreign

-- what null code sees in a register; $0 is zero
abbrev pub seen_open : List Cell → ℕ → Seen
seen_open cells reg = if reg == 0 then Value 0 else open_cell (cell_at cells reg)

-- the instruction at an address of RAM
unfoldable pub fetched_open : List ℕ → ℕ → Result Ins OwnFault
fetched_open ram pc =
    if (pc % 4 == 0) && ram_holds_range ram pc 4 then instruction_or_fault (instruction_of_word (word_at_address ram pc))
    else Err fault.Address

-- what it comes to
abbrev pub tried_open : (ℕ → Seen) → Result Ins OwnFault → ℕ → ℕ → Result Effect OwnFault
tried_open see (Err why) pc npc = Err why
tried_open see (Ok ins) pc npc =
    effect_of ins Null (see (sources_of ins).0) (see (sources_of ins).1) (see (sources_of ins).2) pc
    npc

-- ---- What it does

-- a written cell is of the null compartment
abbrev pub with_null_writes : List Cell → Writes → List Cell
with_null_writes cells writes.Nothing = cells
with_null_writes cells (writes.One reg value) = with_cell cells reg value 0
with_null_writes cells (writes.Pair hi lo) = with_cell (with_cell cells 32 hi 0) 33 lo 0

-- the cells are written, and the pair goes on
abbrev pub open_after : Open → Effect → Writes → Open
open_after s effect written = record {
  cells = with_null_writes s.cells written;
  ram = s.ram;
  pc =
      effect.pc;
  npc = effect.npc;
}

-- the bytes are stored in RAM
abbrev pub stored_open : Open → ℕ → List ℕ → Open
stored_open s address bytes = record s { ram = ram_with_bytes s.ram address bytes }

-- what a load gives, of the word that holds its address
abbrev pub loaded_open : List ℕ → LoadKind → ℕ → ℕ → ℕ
loaded_open ram how old address = merge_of how old address (word_at_address ram (address - address % 4))

-- the fault of the null instruction that an own fault is
abbrev pub null_fault : OwnFault → NullFault
null_fault fault.Reserved = null.Reserved
null_fault fault.Foreign = null.Reserved
null_fault fault.Overflow = null.Overflow
null_fault fault.Address = null.Address
null_fault fault.Break = null.Break

-- what an instruction leaves, and the operation that it asks for, or its fault
abbrev pub Answer : Type 0
Answer = Open × Result (Option Op) NullFault

-- the instruction is done, and asks for nothing
abbrev pub done_answer : Open → Answer
done_answer s = (s, Ok None)

-- the run ends by a fault, and nothing is changed
abbrev pub stopped_by : Open → NullFault → Answer
stopped_by s why = (s, Err why)

-- a wish is granted, or ends the run and changes nothing
abbrev pub wish_answer : Told → Open → Effect → Wish → Answer
wish_answer told s effect wish.Nothing = done_answer (open_after s effect effect.writes)
wish_answer told s effect (wish.Load reg address how old) =
    if ram_holds_range s.ram (address - address % 4) 4
    then done_answer (open_after s effect (write_of_register reg (loaded_open s.ram how old address)))
    else stopped_by s null.Address
wish_answer told s effect (wish.Store address count value) =
    if ram_holds_range s.ram address count then done_answer (stored_open (open_after s effect effect.writes)
    address (low_bytes count value)) else stopped_by s null.Address
wish_answer told s effect (wish.Call code) = stopped_by s null.Call
wish_answer told s effect (wish.Do operation) =
    (open_after s effect effect.writes, Ok (Some operation))
wish_answer told s effect (wish.Ask reg what) =
    done_answer (open_after s effect (write_of_register reg (null_answer told what)))
wish_answer told s effect (wish.Release reg value) = stopped_by s null.Reserved
wish_answer told s effect (wish.Receive reg from) = stopped_by s null.Reserved
wish_answer told s effect (wish.NullLoad reg address) = stopped_by s null.Reserved
wish_answer told s effect (wish.NullStore address value) = stopped_by s null.Reserved
wish_answer told s effect (wish.Hand address) = stopped_by s null.Reserved
wish_answer told s effect wish.SigRet = stopped_by s null.Reserved
wish_answer told s effect wish.Exit = stopped_by s null.Reserved

-- what an instruction leaves, of its effect or of its fault
abbrev pub ran_open : Told → Open → Result Effect OwnFault → Answer
ran_open told s (Err why) = stopped_by s (null_fault why)
ran_open told s (Ok effect) = wish_answer told s effect effect.wish

-- one instruction of null code
unfoldable pub null_step : Told → Open → Answer
null_step told s =
    ran_open told s (tried_open (seen_open s.cells) (fetched_open s.ram s.pc) s.pc s.npc)
