-- What is true of the text forms of all instructions.
use Rattle.std.specs.Prelude.{◌≡◌, Some, map}
use Rattle.std.specs.List.{AllByRecursion}
use Rattle.mips_instruction.specs.declared.instruction.Ins.{Ins}
use Rattle.mips_instruction.specs.Words.{Fits}
use Rattle.mips_forms.specs.Forms.{InRange, form_of, operand_kind_of}
use Rattle.mips_forms.specs.Builds.{kinds_of}

-- two instructions with the same form are the same
abbrev pub FormsDiffer : Type 0
FormsDiffer = (i j : Ins) → form_of i ≡ form_of j → i ≡ j

-- the operands of an instruction are of the kinds that its mnemonic takes
abbrev pub KindsOfForms : Type 0
KindsOfForms = (i : Ins) → kinds_of (form_of i).0 ≡ Some (map operand_kind_of (form_of i).1)

-- where an instruction has a word, its operands fit their fields
abbrev pub OperandsFit : Type 0
OperandsFit = (i : Ins) → Fits i → AllByRecursion InRange (form_of i).1
