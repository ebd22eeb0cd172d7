-- An instruction as it is printed is assembled to its word.
use Rattle.std.proofs.Common.{◌≡◌, ℕ, ◌+◌, ◌%◌, ◌^◌, ◌<◌, List, [], ◌∷◌, Option, Some, refl, ap, map, option_map, arith}
use Rattle.std.specs.List.{AllByRecursion, AllZip}
use Rattle.mips_instruction.specs.Words.{Fits}
use Rattle.mips_instruction.specs.declared.instruction.Ins.{Ins}
use Rattle.mips_forms.specs.Forms.{InRange, form_of, operand_kind_of}
use Rattle.mips_forms.specs.declared.operand.Operand.{Operand}
use Rattle.mips_forms.specs.declared.operand.Operand.TheVariants.{Register, Shift, Signed, Unsigned, Code, Branch, Jump, Offset}
use Rattle.asm_source.specs.declared.argument.Argument.{Argument}
use Rattle.mips_forms.proofs.FormTable.{built_form, kinds_of_forms, operands_fit}
use Rattle.mips_asm.specs.Encoding.{field_of, instruction_at, one_instruction, operand_of, operands_of}
use Rattle.mips_asm.specs.Passes.{Labels}
use Rattle.asm_round_trip.specs.Printed.{PrintedIsAssembled, PrintsArgument}
use Rattle.asm_round_trip.proofs.FieldLaws.{branch-read, jump-read, signed-read, unsigned-read}

-- an operand as it is printed is read as itself
operand-read : (labels : Labels) (pc : ℕ) (v : Operand) (shown : Argument) → pc % 4 ≡ 0
    → pc + 4 < 2 ^ 32 → InRange v → PrintsArgument pc v shown
    → operand_of labels pc (operand_kind_of v) shown ≡ Some v
unfolding operand_of field_of
operand-read labels pc (Register r) shown even below fits is = rw is refl
operand-read labels pc (Shift m) shown even below fits is =
    rw is.2 (ap (λ (o : Option ℕ). option_map (λ k. Shift k) o)
    (unsigned-read 31 m is.0 is.1 (omega arith)))
operand-read labels pc (Signed m) shown even below fits is =
    rw is.2 (ap (λ (o : Option ℕ). option_map (λ k. Signed k) o) (signed-read m is.0 is.1 fits))
operand-read labels pc (Unsigned m) shown even below fits is =
    rw is.2 (ap (λ (o : Option ℕ). option_map (λ k. Unsigned k) o)
    (unsigned-read 65535 m is.0 is.1 (omega arith)))
operand-read labels pc (Code m) shown even below fits is =
    rw is.2 (ap (λ (o : Option ℕ). option_map (λ k. Code k) o) (unsigned-read 1048575 m is.0 is.1
    (omega arith)))
operand-read labels pc (Branch m) shown even below fits is =
    let it = branch-read pc m is.0 is.1 even below fits in
    rw (is.2, it.1) (ap (λ (o : Option ℕ). option_map (λ k. Branch k) o) it.2)
operand-read labels pc (Jump m) shown even below fits is =
    let it = jump-read pc m is.0 is.1 below fits in
    rw (is.2, it.1) (ap (λ (o : Option ℕ). option_map (λ k. Jump k) o) it.2)
operand-read labels pc (Offset m base) shown even below fits is =
    rw is.2 (ap (λ (o : Option ℕ). option_map (λ k. Offset k base) o)
    (signed-read m is.0 is.1 fits.0))

-- and so are all of them
operands-read : (labels : Labels) (pc : ℕ) (vs : List Operand) (arguments : List Argument)
    → pc % 4 ≡ 0 → pc + 4 < 2 ^ 32 → AllByRecursion InRange vs → AllZip (PrintsArgument pc) vs arguments
    → operands_of labels pc (map operand_kind_of vs) arguments ≡ Some vs
unfolding operands_of
operands-read labels pc [] [] even below fits is = refl
operands-read labels pc [] (shown ∷ arguments) even below fits is = absurd is
operands-read labels pc (v ∷ vs) [] even below fits is = absurd is
operands-read labels pc (v ∷ vs) (shown ∷ arguments) even below fits is =
    rw (
      operand-read labels pc v shown even below fits.0 is.0,
      operands-read labels pc vs arguments
          even below fits.1 is.1,
    ) refl

-- and so is the instruction
instruction-read : (labels : Labels) (pc : ℕ) (i : Ins) (arguments : List Argument) → pc % 4 ≡ 0
    → pc + 4 < 2 ^ 32 → Fits i → AllZip (PrintsArgument pc) (form_of i).1 arguments
    → instruction_at labels pc (form_of i).0 arguments ≡ Some i
unfolding instruction_at
instruction-read labels pc i arguments even below fits shows =
    rw (
      kinds_of_forms i,
      operands-read labels pc (form_of i).1 arguments even below
          (operands_fit i fits) shows,
    ) (built_form i)

pub printed_is_assembled : PrintedIsAssembled
printed_is_assembled labels pc i arguments even below fits shows = (
  i ∷ [],
  even,
  ap (option_map one_instruction) (instruction-read labels pc i arguments even
      below fits shows),
  ([], fits, refl, refl),
)
