-- Events and runs computed from their definitions, on machines with little RAM: what a reader may
-- expect of them.
use Rattle.std.proofs.Common.{◌≡◌, ℕ, List, [], ◌∷◌, Option, Some, None, refl}
use Rattle.xom_base.specs.declared.event.Event.TheVariants as event
use Rattle.xom_base.specs.declared.event.Op.TheVariants as op
use Rattle.xom_base.specs.declared.schedule.Interrupts.TheVariants as interrupts
use Rattle.xom_base.specs.declared.schedule.Schedule.{Schedule}
use Rattle.xom_versions.specs.Chip.{chip}
use Rattle.tag_regs.specs.TaggedCells.{all_empty}
use Rattle.session_table.specs.Sessions.{none_held}
use Rattle.xom_model.specs.declared.outcome.NullFault.TheVariants as null
use Rattle.xom_model.specs.declared.outcome.RunEnd.{RunEnd}
use Rattle.xom_model.specs.declared.outcome.RunEnd.TheVariants as end
use Rattle.xom_model.specs.declared.outcome.Turn.{Turn}
use Rattle.xom_model.specs.declared.outcome.Turn.TheVariants as turn
use Rattle.xom_model.specs.State.{Record, power_on}
use Rattle.xom_model.specs.Operation.{operation}
use Rattle.xom_model.specs.Null.{fetched_open, null_step, ram_after_write}
use Rattle.xom_model.specs.Event.{on}
use Rattle.xom_model.specs.Run.{end_of_run, event_of, run_from}
use Rattle.xom_model.specs.Seen.{View}

-- a machine with these bytes in RAM, and null code at address 0
abbrev machine : List ℕ → Record
machine ram = power_on chip (record { 0 = [] }) 0 ram 0

-- the kernel enters a slot that holds no guest
free_slot : (on chip (machine []) (event.Do (op.Enter 1)) []).0.status ≡ 1
unfolding on operation none_held
free_slot = refl

-- a kernel write takes the first bytes of the chunk, and is refused outside RAM
kernel_write : (on chip (machine (1 ∷ 2 ∷ 3 ∷ 4 ∷ [])) (event.Write 1 2)
    (9 ∷ 8 ∷ 7 ∷ [])).0.core.ram ≡ 1 ∷ 9 ∷ 8 ∷ 4 ∷ []
unfolding on ram_after_write
kernel_write = refl

write_outside : (on chip (machine (1 ∷ 2 ∷ 3 ∷ 4 ∷ [])) (event.Write 3 2) (9 ∷ 8 ∷ 7 ∷ [])).0.status
    ≡ 4
unfolding on ram_after_write
write_outside = refl

-- a schedule that asks for nothing
abbrev calm : Schedule
calm = record { interrupts = interrupts.Never; pokes = [] }

-- a kernel that always gives this turn
abbrev always : Turn → ℕ → View → Option (Turn × (List ℕ × ℕ))
always t k view = Some (t, ([], k))

abbrev ends_as : Option Record → Option RunEnd
ends_as None = None
ends_as (Some r) = Some (end_of_run r)

abbrev five_events : Turn → Option RunEnd
five_events t = ends_as (run_from chip (always t) calm 5 0 (machine []) 0)

-- null code without RAM faults at its first instruction
null_run : five_events turn.Null ≡ Some (end.KernelFault 0 null.Address)
unfolding run_from on null_step fetched_open none_held all_empty
null_run = refl

halted_run : five_events (turn.Do op.Halt) ≡ Some end.Halted
unfolding run_from on operation none_held
halted_run = refl

-- what is refused again and again ends by the budget
refused_run : five_events (turn.Do (op.Enter 17)) ≡ Some end.Budget
unfolding run_from on operation none_held
refused_run = refl

-- a length above a chunk's is taken as that
long_turn : event_of (turn.Write 0 9000) ≡ event.Write 0 8192
long_turn = refl
