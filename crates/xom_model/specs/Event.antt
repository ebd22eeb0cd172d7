-- One event of the whole machine.
use Rattle.std.specs.Prelude.{ℕ, ◌+◌, Bool, true, false, List, length, take, nat_le, Option, Some, None, Result, Ok, Err, if◌then◌else◌, not, ◌&&◌, is_some, is_none}
use Rattle.xom_base.specs.declared.event.Cause.{Cause}
use Rattle.xom_base.specs.declared.event.Event.{Event}
use Rattle.xom_base.specs.declared.event.Event.TheVariants as event
use Rattle.xom_base.specs.declared.event.Op.{Op}
use Rattle.xom_base.specs.declared.event.Op.TheVariants.{Halt}
use Rattle.xom_model.specs.declared.outcome.Outcome.{Outcome}
use Rattle.xom_model.specs.declared.outcome.Outcome.TheVariants as outcome
use Rattle.xom_model.specs.declared.outcome.NullFault.{NullFault}
use Rattle.xom_model.specs.Null.{Answer, Open, Told, null_step, ram_after_write}
use Rattle.session_table.specs.Sessions.{running_in}
use Rattle.xom_versions.specs.Versions.{Versions}
use Rattle.xom_model.specs.State.{CoreState, Record, ram_holds_range}
use Rattle.xom_model.specs.Guest.{guest}
use Rattle.xom_model.specs.Operation.{operation}

-- the slot whose guest runs, if one does
abbrev pub running_slot : Record → Option ℕ
running_slot r = running_in r.core.sessions

-- how many bytes a chunk has: those of a write are its first
abbrev pub chunk_size : ℕ
chunk_size = 8192

-- an event may come: a guest event exactly where a guest runs, a bus write always, the others where
-- none runs; a write has no more bytes than a chunk; and nothing comes after Halt or a kernel fault
abbrev pub fits : Record → Event → Bool
fits r (event.Do op) = not r.halted && is_none (running_slot r)
fits r (event.Guest interrupt) = not r.halted && is_some (running_slot r)
fits r event.Null = not r.halted && is_none (running_slot r)
fits r (event.Write address count) =
    not r.halted && (is_none (running_slot r) && nat_le count chunk_size)
fits r (event.Poke address count) = not r.halted && nat_le count chunk_size

-- whether the operation is Halt, which ends the run
abbrev pub is_halt : Op → Bool
is_halt Halt = true
is_halt other = false

-- what an operation comes to for who drives the machine: it goes on, unless it was Halt
abbrev pub outcome_of : Op → Outcome
outcome_of Halt = outcome.Halted
outcome_of other = outcome.Went

-- after an operation
abbrev pub after_operation : Record → Op → CoreState × ℕ → Record × Outcome
after_operation r op after = (
  record r { core = after.0; status = after.1; events = r.events + 1; halted = is_halt op },
  outcome_of op,
)

-- after a guest event: cause and who are set where the guest left
abbrev pub ran_on : Record → ℕ → CoreState × Option Cause → Record × Outcome
ran_on r slot (core, None) = (record r { core = core; events = r.events + 1 }, outcome.Went)
ran_on r slot (core, Some why) =
    (record r { core = core; cause = why; who = slot; events = r.events + 1 }, outcome.Left why)

-- what null code is told
abbrev pub told_in : Record → Told
told_in r = record { status = r.status; cause = r.cause; who = r.who }

-- what null code may change of the record: the cells, RAM and the null pair
abbrev pub open_in : Record → Open
open_in r = record { cells = r.core.cells; ram = r.core.ram; pc = r.pc; npc = r.npc }

-- the record with that part changed
abbrev pub with_open : Record → Open → Record
with_open r s = record r {
  core = record r.core { cells = s.cells; ram = s.ram };
  pc = s.pc;
  npc =
      s.npc;
}

-- the record after an event that changed RAM alone
abbrev pub with_ram : Record → List ℕ → Record
with_ram r ram = record r { core = record r.core { ram = ram }; events = r.events + 1 }

-- a kernel write that doesn't fit in RAM is refused
abbrev pub after_kernel_write : Record → ℕ → List ℕ → Record × Outcome
after_kernel_write r address bytes = (
  record (with_ram r (ram_after_write r.core.ram address bytes)) {
    status =
        if ram_holds_range r.core.ram address (length bytes) then 0 else 4;
  },
  outcome.Went,
)

module _ (v : Versions) where
  -- the event of the guest that runs, if one runs
  abbrev pub guest_turn : Record → Bool → Option ℕ → Record × Outcome
  guest_turn r interrupt None = (r, outcome.Went)
  guest_turn r interrupt (Some slot) = ran_on r slot (guest v r.core slot interrupt)

  -- a fault ends the run; an operation that is asked for is carried out in the same event, done or
  -- refused
  abbrev pub null_asked : Record → ℕ → Result (Option Op) NullFault → Record × Outcome
  null_asked r at (Err why) = (
    record r { events = r.events + 1; halted = true; fault = Some (at, why) },
    outcome.KernelFault at why,
  )
  null_asked r at (Ok None) = (record r { events = r.events + 1 }, outcome.Went)
  null_asked r at (Ok (Some op)) = after_operation r op (operation v r.core op)

  -- the event of null code, of what its instruction left and asked for
  abbrev pub null_turn : Record → Answer → Record × Outcome
  null_turn r answer = null_asked (with_open r answer.0) r.pc answer.1

  -- the next record, and what the event came to, with the chunk that has the bytes of a write
  unfoldable pub on : Record → Event → List ℕ → Record × Outcome
  on r (event.Do op) chunk = after_operation r op (operation v r.core op)
  on r (event.Guest interrupt) chunk = guest_turn r interrupt (running_slot r)
  on r event.Null chunk = null_turn r (null_step (told_in r) (open_in r))
  on r (event.Write address count) chunk = after_kernel_write r address (take count chunk)
  on r (event.Poke address count) chunk =
      (with_ram r (ram_after_write r.core.ram address (take count chunk)), outcome.Went)
