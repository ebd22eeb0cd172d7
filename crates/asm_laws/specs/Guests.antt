-- What the steps of these laws are, for a guest: the plain machine's.
use Rattle.std.specs.Prelude.{◌≡◌, ℕ, true, List, Option}
use Rattle.mips_instruction.specs.Words.{instruction_of_word}
use Rattle.mips_effect.specs.declared.seen.Mode.TheVariants.{Guest}
use Rattle.mips_plain.specs.Memory.{word_at_address}
use Rattle.mips_plain.specs.Instruction.{effect_at, instruction_in, is_code, with_kept_pair}
use Rattle.asm_laws.specs.Runs.{Cells, effect_on, state}

-- What the instruction of a guest comes to where it stands in code, whatever pair a signal kept, is
-- what these laws say
-- that the word there comes to. A return from a signal, which no short form is, goes to the kept
-- pair.
abbrev pub GuestsDoSo : Type 0
GuestsDoSo = (memory : List ℕ) (cells : Cells) (kept : Option (ℕ × ℕ)) (pc npc : ℕ)
    → is_code pc ≡ true
    → effect_at cells kept (instruction_in memory pc) pc npc ≡ with_kept_pair kept
    (effect_on Guest (state cells pc npc) (instruction_of_word (word_at_address memory pc)))
