-- The steps of these laws, for a guest.
use Rattle.std.proofs.Common.{◌≡◌, ℕ, Option, Some, None, Result, refl, ap, ◌∙◌}
use Rattle.std.proofs.lemmas.Bool.{cond-true}
use Rattle.mips_instruction.specs.declared.instruction.Ins.{Ins}
use Rattle.mips_instruction.specs.Words.{instruction_of_word}
use Rattle.xom_base.specs.declared.event.OwnFault.{OwnFault}
use Rattle.mips_effect.specs.declared.seen.Mode.TheVariants.{Guest}
use Rattle.mips_plain.specs.Memory.{word_at_address}
use Rattle.mips_plain.specs.Instruction.{effect_at, instruction_in, instruction_or_fault, is_code, with_kept_pair}
use Rattle.asm_laws.specs.Runs.{Cells, effect_on, state}
use Rattle.asm_laws.specs.Guests.{GuestsDoSo}

-- an instruction, or Reserved
by_reading : (cells : Cells) (kept : Option (ℕ × ℕ)) (pc npc : ℕ) (found : Option Ins)
    → effect_at cells kept (instruction_or_fault found) pc npc ≡ with_kept_pair kept
    (effect_on Guest (state cells pc npc) found)
by_reading cells kept pc npc None = refl
by_reading cells kept pc npc (Some i) = refl

pub guests_do_so : GuestsDoSo
unfolding instruction_in
guests_do_so memory cells kept pc npc code =
    ap (λ (found : Result Ins OwnFault). effect_at cells kept found pc npc)
    (cond-true (is_code pc) _ _ code) ∙ by_reading cells kept pc npc (instruction_of_word (word_at_address memory pc))
