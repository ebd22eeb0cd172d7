-- How a law speaks of a guest's load or store: the step that it makes over its private memory,
-- where rs and rt have the values s and t.
use Rattle.std.specs.Prelude.{◌≡◌, ℕ, ◌^◌, ◌<◌, List, length, All, Option, Some, None, Result, Ok, Err}
use Rattle.mips_instruction.specs.declared.instruction.Ins.{Ins}
use Rattle.mips_instruction.specs.Numbers.{next_address}
use Rattle.xom_base.specs.declared.event.OwnFault.{OwnFault}
use Rattle.xom_base.specs.declared.step.Writes.{Writes}
use Rattle.xom_base.specs.declared.step.Writes.TheVariants as writes
use Rattle.xom_base.specs.declared.step.Stored.{Stored}
use Rattle.xom_base.specs.declared.step.Stored.TheVariants as stored
use Rattle.xom_base.specs.declared.step.Received.TheVariants as received
use Rattle.xom_base.specs.declared.step.Released.TheVariants as released
use Rattle.xom_base.specs.declared.step.StepEnd.TheVariants as ended
use Rattle.xom_base.specs.declared.step.Step.{Step}
use Rattle.mips_effect.specs.declared.effects.Effect.{Effect}
use Rattle.mips_effect.specs.declared.seen.Mode.TheVariants.{Guest}
use Rattle.mips_effect.specs.Effects.{act, write_of_register}
use Rattle.mips_plain.specs.Memory.{private_size, stored_in}
use Rattle.mips_plain.specs.Instruction.{step_made, word_for}

-- private memory: all its bytes
pub record IsMemory (bytes : List ℕ) : Type 0 where
  pub whole : length bytes ≡ private_size
  pub are_bytes : All (λ b. b < 2 ^ 8) bytes

-- the step at a pair of what an instruction comes to, and the pair behind it; none where it faults
abbrev pub step_of_effect : List ℕ → (pc npc : ℕ) → Result Effect OwnFault → Option (Step × ℕ × ℕ)
step_of_effect bytes pc npc (Err fault) = None
step_of_effect bytes pc npc (Ok effect) =
    Some (step_made pc npc effect (word_for bytes effect.wish) 0, effect.pc, effect.npc)

-- a step that writes cells and stores bytes, or does one of these, and nothing else; the pair goes
-- on
abbrev pub goes_on_with : (pc npc : ℕ) → Writes → Stored → Option (Step × ℕ × ℕ)
goes_on_with pc npc written kept =
    Some (
      record {
        pc = pc;
        npc = npc;
        writes = written;
        stored = kept;
        received =
            received.Nothing;
        released = released.Nothing;
        end = ended.Goes;
      },
      npc,
      next_address npc,
    )

-- over these bytes the instruction sets the register to the value and does nothing else; a write to
-- $0 is dropped
abbrev pub LoadsOnly : List ℕ → Ins → (s t reg value : ℕ) → Type 0
LoadsOnly bytes i s t reg value =
    (pc d following : ℕ) → step_of_effect bytes pc following (act i Guest s t d following) ≡ goes_on_with
    pc following (write_of_register reg value) stored.Nothing

-- the instruction makes private memory of these bytes new bytes, and does nothing else
pub record StoresOnly (bytes : List ℕ) (i : Ins) (s t : ℕ) (new : List ℕ) : Type 0 where
  pub stored : Stored
  pub step : (pc d following : ℕ)
      → step_of_effect bytes pc following (act i Guest s t d following) ≡ goes_on_with pc following
      writes.Nothing stored
  pub memory : stored_in bytes stored ≡ new
