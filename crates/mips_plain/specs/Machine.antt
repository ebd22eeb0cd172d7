-- The plain machine: a program run alone, with nothing around it. There are no tags, keys, lines,
-- pages or kernel in it.
use Rattle.std.specs.Prelude.{ℕ, ◌+◌, ◌%◌, ◌^◌, ◌==◌, ◌&&◌, Bool, true, false, List, Option, Some, None, Result, Ok, Err, replicate, slice_set, slice_index_or, if◌then◌else◌}
use Rattle.xom_base.specs.Padded.{padded_block}
use Rattle.xom_base.specs.Sizes.{register_places}
use Rattle.xom_base.specs.declared.event.OwnFault.{OwnFault}
use Rattle.xom_base.specs.declared.image.PlainImage.{PlainImage}
use Rattle.xom_base.specs.declared.step.Writes.{Writes}
use Rattle.xom_base.specs.declared.step.Writes.TheVariants as writes
use Rattle.xom_base.specs.declared.step.Released.{Released}
use Rattle.xom_base.specs.declared.step.Released.TheVariants as released
use Rattle.xom_base.specs.declared.step.StepEnd.{StepEnd}
use Rattle.xom_base.specs.declared.step.StepEnd.TheVariants as ended
use Rattle.xom_base.specs.declared.step.Step.{Step}
use Rattle.mips_effect.specs.declared.effects.Effect.{Effect}
use Rattle.mips_effect.specs.declared.seen.Seen.{Seen}
use Rattle.mips_effect.specs.declared.seen.Seen.TheVariants.{Value, Foreign}
use Rattle.mips_plain.specs.declared.cell.PlainCell.{PlainCell}
use Rattle.mips_plain.specs.declared.cell.PlainCell.TheVariants.{Own, Lent}
use Rattle.mips_plain.specs.declared.given.Given.{Given}
use Rattle.mips_plain.specs.declared.given.Given.TheVariants as given
use Rattle.mips_plain.specs.declared.given.PlainStep.{PlainStep}
use Rattle.mips_plain.specs.declared.given.PlainStep.TheVariants.{Did, Fault, Unfit, Over}
use Rattle.mips_plain.specs.Memory.{private_size, stored_in}
use Rattle.mips_plain.specs.Instruction.{effect_at, handler_after, instruction_in, is_signal, is_signal_ready, kept_after, receives_value, signal_step, step_made, word_for}

-- the whole state. Cells have 34 places: $1 to $31, HI at 32 and LO at 33; place 0 isn't used
pub record State : Type 0 where
  pub cells : List PlainCell
  pub pc : ℕ
  pub npc : ℕ
  pub bytes : List ℕ
  -- where signals are handled, 0 for nowhere, and the pair that a signal kept
  pub handler : ℕ
  pub kept : Option (ℕ × ℕ)
  pub over : Bool

-- an image's program before its first step
unfoldable pub start : PlainImage → State
start image = record {
  cells = replicate register_places Lent;
  pc = image.entry;
  npc = image.entry + 4;
  bytes =
      padded_block private_size image.bytes;
  handler = 0;
  kept = None;
  over = false;
}

-- the cell of a register
abbrev pub plain_cell_at : List PlainCell → ℕ → PlainCell
plain_cell_at cells reg = slice_index_or cells reg Lent

-- what the program sees in a cell
abbrev pub seen_in : PlainCell → Seen
seen_in (Own value) = Value value
seen_in Lent = Foreign

-- what the program sees in a register; $0 is zero
abbrev pub seen_of_cell : List PlainCell → ℕ → Seen
seen_of_cell cells reg = if reg == 0 then Value 0 else seen_in (plain_cell_at cells reg)

-- a written cell is owned
abbrev pub with_owned : List PlainCell → Writes → List PlainCell
with_owned cells writes.Nothing = cells
with_owned cells (writes.One reg value) = slice_set cells reg (Own value)
with_owned cells (writes.Pair hi lo) = slice_set (slice_set cells 32 (Own hi)) 33 (Own lo)

-- a released cell is lent
abbrev pub with_lent : List PlainCell → Released → List PlainCell
with_lent cells released.Nothing = cells
with_lent cells (released.Cell reg value) = slice_set cells reg Lent
with_lent cells (released.Null address value) = cells

-- the step ended the program
abbrev pub is_exit : StepEnd → Bool
is_exit ended.Exit = true
is_exit other = false

-- the state after a step of this effect
abbrev pub state_after_step : State → Effect → Step → State
state_after_step s effect step = record {
  cells = with_lent (with_owned s.cells step.writes) step.released;
  pc = effect.pc;
  npc = effect.npc;
  bytes = stored_in s.bytes step.stored;
  handler = handler_after s.handler effect.wish;
  kept = kept_after s.kept effect.wish;
  over = is_exit step.end;
}

-- the step of an effect is done, where a value was received
abbrev pub step_done : State → Effect → ℕ → PlainStep × State
step_done s effect got = (
  Did (step_made s.pc s.npc effect (word_for s.bytes effect.wish) got),
  state_after_step s effect
      (step_made s.pc s.npc effect (word_for s.bytes effect.wish) got),
)

-- the state after a signal: the pair is kept, and the program goes on at its handler
abbrev pub state_after_signal : State → ℕ → State
state_after_signal s n = record s {
  cells = with_owned s.cells (writes.One 26 n);
  pc =
      s.handler;
  npc = (s.handler + 4) % 2 ^ 32;
  kept = Some (s.pc, s.npc);
}

-- a signal is taken where it is one and the program is ready for it; else nothing changes
abbrev pub signal_answered : State → ℕ → PlainStep × State
signal_answered s n =
    if is_signal n && is_signal_ready s.handler s.kept
    then (Did (signal_step s.pc s.npc n), state_after_signal s n) else (Unfit, s)

-- an own fault comes before what is given is looked at, but for a signal; what is given has to fit
abbrev pub answer_to : State → Given → Result Effect OwnFault → PlainStep × State
answer_to s (given.Signal n) result = signal_answered s n
answer_to s given.Nothing (Err fault) = (Fault fault, s)
answer_to s given.Nothing (Ok effect) =
    if receives_value effect.wish then (Unfit, s) else step_done s effect 0
answer_to s (given.Value value) (Err fault) = (Fault fault, s)
answer_to s (given.Value value) (Ok effect) =
    if receives_value effect.wish then step_done s effect value else (Unfit, s)

-- one step of the plain machine, given a value, a signal or nothing
unfoldable pub plain : State → Given → PlainStep × State
plain s given =
    if s.over then (Over, s)
    else answer_to s given (effect_at (seen_of_cell s.cells) s.kept (instruction_in s.bytes s.pc)
    s.pc s.npc)
