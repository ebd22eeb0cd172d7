-- What is printed for an instruction is assembled to that instruction.
use Rattle.std.specs.Prelude.{◌≡◌, ℕ, ◌+◌, ◌%◌, ◌^◌, ◌<◌, List}
use Rattle.std.specs.List.{AllZip}
use Rattle.std.specs.Int.{w32, to_be_bytes}
use Rattle.mips_instruction.specs.Words.{Fits, word_of}
use Rattle.mips_instruction.specs.declared.instruction.Ins.{Ins}
use Rattle.mips_forms.specs.Forms.{form_of}
use Rattle.asm_tokens.specs.Integers.{whole}
use Rattle.mips_text.specs.Texts.{operand_value}
use Rattle.asm_tokens.specs.declared.integers.Integer.{Integer}
use Rattle.mips_forms.specs.declared.operand.Operand.{Operand}
use Rattle.mips_forms.specs.declared.operand.Operand.TheVariants as operand
use Rattle.asm_source.specs.declared.argument.Argument.{Argument}
use Rattle.asm_source.specs.declared.argument.Argument.TheVariants as argument
use Rattle.asm_source.specs.declared.argument.Value.TheVariants as values
use Rattle.asm_source.specs.declared.content.Content.TheVariants.{Instruction}
use Rattle.mips_asm.specs.Encoding.{StatementGives}
use Rattle.mips_asm.specs.Passes.{Labels}

-- The operand as the instruction at an address shows it: a register as it is, an offset as its
-- number and
-- its base register, and any other operand as the number that stands for it.
abbrev pub PrintsArgument : (pc : ℕ) → Operand → Argument → Type 0
PrintsArgument pc (operand.Register r) shown = shown ≡ argument.Register r
PrintsArgument pc (operand.Offset imm base) shown =
    (n : Integer) × (whole n ≡ operand_value pc (operand.Offset imm base))
    × (shown ≡ argument.Offset (values.Number n) base)
PrintsArgument pc v shown =
    (n : Integer) × (whole n ≡ operand_value pc v) × (shown ≡ argument.Value (values.Number n))

-- at a multiple of 4 before the last word of 2^32 bytes, an instruction as it is printed writes its
-- word
abbrev pub PrintedIsAssembled : Type 0
PrintedIsAssembled =
    (labels : Labels) (pc : ℕ) (i : Ins) (arguments : List Argument) → pc % 4 ≡ 0 → pc + 4 < 2 ^ 32
    → Fits i → AllZip (PrintsArgument pc) (form_of i).1 arguments
    → StatementGives labels pc (Instruction (form_of i).0 arguments) (to_be_bytes w32 (word_of i))
