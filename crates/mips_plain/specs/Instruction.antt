-- What the instruction at a place of private memory comes to, for whoever tells what is seen in the
-- cells.
use Rattle.std.specs.Prelude.{ℕ, ◌-◌, ◌%◌, ◌==◌, ◌&&◌, nat_lt, nat_le, not, is_none, Bool, true, false, List, Option, Some, None, Result, Ok, Err, if◌then◌else◌}
use Rattle.mips_instruction.specs.declared.instruction.Ins.{Ins}
use Rattle.mips_instruction.specs.Words.{instruction_of_word}
use Rattle.mips_effect.specs.declared.effects.Effect.{Effect}
use Rattle.mips_effect.specs.declared.seen.Mode.TheVariants.{Guest}
use Rattle.mips_effect.specs.declared.seen.Seen.{Seen}
use Rattle.mips_effect.specs.declared.wish.Wish.{Wish}
use Rattle.mips_effect.specs.declared.wish.Wish.TheVariants as wish
use Rattle.mips_effect.specs.Effects.{effect_of, merge_of, sources_of, write_of_register}
use Rattle.xom_base.specs.declared.event.OwnFault.{OwnFault}
use Rattle.xom_base.specs.declared.event.OwnFault.TheVariants as fault
use Rattle.xom_base.specs.declared.step.Writes.{Writes}
use Rattle.xom_base.specs.declared.step.Writes.TheVariants as writes
use Rattle.xom_base.specs.declared.step.Stored.TheVariants as stored
use Rattle.xom_base.specs.declared.step.Received.TheVariants as received
use Rattle.xom_base.specs.declared.step.Released.TheVariants as released
use Rattle.xom_base.specs.declared.step.StepEnd.TheVariants as ended
use Rattle.xom_base.specs.declared.step.Step.{Step}
use Rattle.mips_plain.specs.Memory.{private_size, word_at_address}

-- an instruction may stand here: at a multiple of 4 in private memory
abbrev pub is_code : ℕ → Bool
is_code pc = (pc % 4 == 0) && nat_lt pc private_size

-- a word is an instruction, or Reserved
abbrev pub instruction_or_fault : Option Ins → Result Ins OwnFault
instruction_or_fault None = Err fault.Reserved
instruction_or_fault (Some ins) = Ok ins

-- the instruction at an address
unfoldable pub instruction_in : List ℕ → ℕ → Result Ins OwnFault
instruction_in bytes pc =
    if is_code pc then instruction_or_fault (instruction_of_word (word_at_address bytes pc)) else Err fault.Address

-- the return from a signal goes to the pair that was kept, and is Reserved where none was; every
-- other effect is as it is
abbrev pub returns_to : Option (ℕ × ℕ) → Effect → Result Effect OwnFault
returns_to None effect = Err fault.Reserved
returns_to (Some pair) effect = Ok (record effect { pc = pair.0; npc = pair.1 })

-- an effect with the pair that it goes on at: the kept one, where it returns from a signal
abbrev pub with_return : Option (ℕ × ℕ) → Effect → Wish → Result Effect OwnFault
with_return kept effect wish.SigRet = returns_to kept effect
with_return kept effect other = Ok effect

-- an instruction that may have faulted already, with the pair that it goes on at
abbrev pub with_kept_pair : Option (ℕ × ℕ) → Result Effect OwnFault → Result Effect OwnFault
with_kept_pair kept (Err fault) = Err fault
with_kept_pair kept (Ok effect) = with_return kept effect effect.wish

-- what a fetched instruction comes to at a pair, where a signal kept a pair or none: its effect, or
-- an own fault
abbrev pub effect_at : (ℕ → Seen) → Option (ℕ × ℕ) → Result Ins OwnFault → ℕ → ℕ
    → Result Effect OwnFault
effect_at see kept (Err fault) pc npc = Err fault
effect_at see kept (Ok ins) pc npc =
    with_kept_pair kept
    (effect_of ins Guest (see (sources_of ins).0) (see (sources_of ins).1)
    (see (sources_of ins).2) pc npc)

-- the handler after a wish
abbrev pub handler_after : ℕ → Wish → ℕ
handler_after handler (wish.Hand address) = address
handler_after handler other = handler

-- the kept pair after a wish: gone after the return from a signal
abbrev pub kept_after : Option (ℕ × ℕ) → Wish → Option (ℕ × ℕ)
kept_after kept wish.SigRet = None
kept_after kept other = kept

-- a signal can be delivered: there is a handler, and no pair is kept
abbrev pub is_signal_ready : ℕ → Option (ℕ × ℕ) → Bool
is_signal_ready handler kept = not (handler == 0) && is_none kept

-- signals are 1 to 63
abbrev pub is_signal : ℕ → Bool
is_signal n = nat_le 1 n && nat_le n 63

-- it takes a value from outside
abbrev pub receives_value : Wish → Bool
receives_value (wish.Receive reg from) = true
receives_value (wish.NullLoad reg address) = true
receives_value other = false

-- the word that a load is made of, the one that holds its address; 0 where nothing is loaded
abbrev pub word_for : List ℕ → Wish → ℕ
word_for bytes (wish.Load reg address kind old) = word_at_address bytes (address - address % 4)
word_for bytes other = 0

-- a step at a pair that writes cells, and does nothing else
abbrev pub quiet_step : ℕ → ℕ → Writes → Step
quiet_step pc npc written =
    record {
      pc = pc;
      npc = npc;
      writes = written;
      stored = stored.Nothing;
      received = received.Nothing;
      released = released.Nothing;
      end = ended.Goes;
    }

-- the step of a signal that is delivered at a pair
abbrev pub signal_step : ℕ → ℕ → ℕ → Step
signal_step pc npc n = record (quiet_step pc npc (writes.One 26 n)) { received = received.Signal n }

-- the step of a wish at a pair, of the word that it loads, where a value was received; a wish that
-- never comes to a guest makes the step of none
abbrev pub step_of_wish : ℕ → ℕ → Writes → Wish → ℕ → ℕ → Step
step_of_wish pc npc written wish.Nothing word got = quiet_step pc npc written
step_of_wish pc npc written (wish.Load reg address kind old) word got =
    quiet_step pc npc (write_of_register reg (merge_of kind old address word))
step_of_wish pc npc written (wish.Store address count value) word got =
    record (quiet_step pc npc written) { stored = stored.Bytes address count value }
step_of_wish pc npc written (wish.Release reg value) word got =
    record (quiet_step pc npc written) { released = released.Cell reg value }
step_of_wish pc npc written (wish.Receive reg from) word got =
    record (quiet_step pc npc (write_of_register reg got)) { received = received.Cell got }
step_of_wish pc npc written (wish.NullLoad reg address) word got =
    record (quiet_step pc npc (write_of_register reg got)) { received = received.Null address got }
step_of_wish pc npc written (wish.NullStore address value) word got =
    record (quiet_step pc npc written) { released = released.Null address value }
step_of_wish pc npc written (wish.Hand address) word got = quiet_step pc npc written
step_of_wish pc npc written wish.SigRet word got = quiet_step pc npc written
step_of_wish pc npc written wish.Exit word got =
    record (quiet_step pc npc written) { end = ended.Exit }
step_of_wish pc npc written (wish.Call code) word got =
    record (quiet_step pc npc written) { end = ended.Call code }
step_of_wish pc npc written (wish.Do operation) word got = quiet_step pc npc written
step_of_wish pc npc written (wish.Ask reg what) word got = quiet_step pc npc written

-- the step that an effect makes
unfoldable pub step_made : ℕ → ℕ → Effect → ℕ → ℕ → Step
step_made pc npc effect word got = step_of_wish pc npc effect.writes effect.wish word got
