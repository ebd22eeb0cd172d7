-- How a law speaks of an instruction that computes: what it comes to where rs and rt have the
-- values s and t.
use Rattle.std.specs.Prelude.{◌≡◌, ℕ, Err}
use Rattle.mips_instruction.specs.declared.instruction.Ins.{Ins}
use Rattle.xom_base.specs.declared.event.OwnFault.TheVariants as fault
use Rattle.xom_base.specs.declared.step.Writes.{Writes}
use Rattle.mips_effect.specs.declared.seen.Mode.{Mode}
use Rattle.mips_effect.specs.Effects.{act, write_of_register, writes_only}

-- it writes these cells and does nothing else, in a guest and in null code
abbrev pub WritesOnly : Ins → ℕ → ℕ → Writes → Type 0
WritesOnly i s t written =
    (mode : Mode) (d following : ℕ) → act i mode s t d following ≡ writes_only written following

-- it sets the register to the value and does nothing else; a write to $0 is dropped
abbrev pub SetsOnly : Ins → ℕ → ℕ → (reg value : ℕ) → Type 0
SetsOnly i s t reg value = WritesOnly i s t (write_of_register reg value)

-- it faults by Overflow, and writes nothing
abbrev pub Overflows : Ins → ℕ → ℕ → Type 0
Overflows i s t = (mode : Mode) (d following : ℕ) → act i mode s t d following ≡ Err fault.Overflow
