-- What is true of the texts of operands and of words.
use Rattle.std.specs.Prelude.{◌≡◌, ℕ, codes, ◌++◌}
use Rattle.mips_instruction.specs.declared.instruction.Ins.{Ins}
use Rattle.mips_instruction.specs.Words.{Word, IsReserved}
use Rattle.mips_forms.specs.declared.operand.Operand.{Operand}
use Rattle.mips_forms.specs.Forms.{InRange, base_of, operand_kind_of}
use Rattle.mips_text.specs.Texts.{address_text, instruction_text, operand_value, word_text}

-- two operands of one kind that fit their fields are the same where their numbers are, at one
-- address,
-- and, of offsets, the base registers
abbrev pub ValuesDiffer : Type 0
ValuesDiffer =
    (pc : ℕ) (a b : Operand) → operand_kind_of a ≡ operand_kind_of b → InRange a → InRange b
    → operand_value pc a ≡ operand_value pc b → base_of a ≡ base_of b → a ≡ b

-- the word of an instruction is listed by the instruction's text, and a reserved word by its digits
abbrev pub WordsAreListed : Type 0
WordsAreListed =
    ((i : Ins) (word pc : ℕ) → Word i word → word_text word pc ≡ instruction_text i pc)
    × ((word pc : ℕ) → IsReserved word → word_text word pc ≡ codes ".word " ++ address_text word)
