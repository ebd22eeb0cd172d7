-- Which slot an event is about: the one that it runs, or that it names.
use Rattle.std.specs.Prelude.{ℕ, Option, Some, None, Result, Ok, Err}
use Rattle.xom_base.specs.declared.event.Event.{Event}
use Rattle.xom_base.specs.declared.event.Event.TheVariants as event
use Rattle.xom_model.specs.declared.outcome.NullFault.{NullFault}
use Rattle.xom_base.specs.declared.event.Op.{Op}
use Rattle.xom_base.specs.declared.event.Op.TheVariants.{Install, Enter, Resume, Save, Restore, Map, Unmap, SetReg, Kill, Out, Halt}
use Rattle.xom_model.specs.Null.{null_step}
use Rattle.xom_model.specs.State.{Record}
use Rattle.xom_model.specs.Event.{open_in, running_slot, told_in}

-- the slot that an operation names, and 0, which is no slot, where it names none
abbrev pub slot_of_op : Op → ℕ
slot_of_op (Install slot envelope area) = slot
slot_of_op (Enter slot) = slot
slot_of_op (Resume slot signal) = slot
slot_of_op (Save slot reg address) = slot
slot_of_op (Restore slot reg address) = slot
slot_of_op (Map slot page frame) = slot
slot_of_op (Unmap slot page) = slot
slot_of_op (SetReg reg value) = 0
slot_of_op (Kill slot) = slot
slot_of_op (Out byte) = 0
slot_of_op Halt = 0

-- the same of what an instruction of null code asks for
abbrev pub named_in : Result (Option Op) NullFault → ℕ
named_in (Ok (Some op)) = slot_of_op op
named_in (Ok None) = 0
named_in (Err why) = 0

-- the slot, and 0, which is no slot, where there is none
abbrev pub slot_or_none : Option ℕ → ℕ
slot_or_none (Some slot) = slot
slot_or_none None = 0

-- the slot that an event runs or names
abbrev pub slot_of_event : Record → Event → ℕ
slot_of_event r (event.Do op) = slot_of_op op
slot_of_event r (event.Guest interrupt) = slot_or_none (running_slot r)
slot_of_event r event.Null = named_in (null_step (told_in r) (open_in r)).1
slot_of_event r (event.Write address count) = 0
slot_of_event r (event.Poke address count) = 0
