-- What a statement writes where no label is known, it writes whatever the labels are: it uses no
-- name.
use Rattle.std.proofs.Common.{◌≡◌, ℕ, ◌+◌, ◌<◌, false, List, [], ◌∷◌, length, Some, None, refl, sym, ap, ◌∙◌, option_map, arith}
use Rattle.std.specs.List.{list_any}
use Rattle.std.proofs.lemmas.Bool.{or_from}
use Rattle.std.proofs.lemmas.Option.{none-some, option_and_then_some as steps}
use Rattle.text_lines.proofs.CutLaws.{option_map_some}
use Rattle.mips_instruction.specs.declared.instruction.Ins.{Ins}
use Rattle.mips_forms.specs.Builds.{kinds_of}
use Rattle.mips_forms.specs.declared.operand.Operand.{Operand}
use Rattle.mips_forms.specs.declared.operand.OperandKind.{OperandKind}
use Rattle.asm_source.specs.declared.argument.Argument.{Argument}
use Rattle.asm_source.specs.declared.argument.Argument.TheVariants as argument
use Rattle.asm_source.specs.declared.argument.Value.{Value}
use Rattle.asm_source.specs.declared.argument.Value.TheVariants as values
use Rattle.asm_source.specs.declared.content.Content.{Content}
use Rattle.asm_source.specs.declared.content.Content.TheVariants.{Label, Words, Org, Entry, LoadAddress, Instruction}
use Rattle.mips_asm.specs.Encoding.{StatementGives, instruction_at, join_some, load_address, one_instruction, operand_of, operands_of, word_value}
use Rattle.mips_asm.specs.Layout.{place_after, statement_size}
use Rattle.mips_asm.specs.Passes.{Labels, argument_unknown, content_unknown, label_said, value_unknown}
use Rattle.mips_asm.specs.Sources.{entry_content}
use Rattle.mips_asm.proofs.SizeLaws.{Gives-size}

-- no name is a label
abbrev pub no_labels : Labels
no_labels = λ name. None

-- ---- values

-- a value of `.word`
word-known : (labels : Labels) (v : Value) (bytes : List ℕ) → word_value no_labels v ≡ Some bytes
    → (value_unknown labels v ≡ false) × (word_value labels v ≡ Some bytes)
unfolding word_value
word-known labels (values.Number n) bytes read = (refl, read)
word-known labels (values.Label name) bytes read = absurd (none-some bytes read)

-- all values of a `.word`
words-known : (labels : Labels) (vs : List Value) (bytes : List ℕ)
    → join_some (word_value no_labels) vs ≡ Some bytes
    → (list_any (value_unknown labels) vs ≡ false) × (join_some (word_value labels) vs ≡ Some bytes)
words-known labels [] bytes read = (refl, read)
words-known labels (v ∷ vs) bytes read =
    steps _ (word_value no_labels v) bytes read (λ first one read.
    steps _ (join_some (word_value no_labels) vs) bytes read (λ rest more same.
    let h = word-known labels v first one in
    let t = words-known labels vs rest more in (
      or_from (value_unknown labels v) (list_any (value_unknown labels) vs) h.0 t.0,
      rw (h.1, t.1)
          same,
    )))

-- ---- instructions

-- an operand
operand-known : (labels : Labels) (pc : ℕ) (kind : OperandKind) (a : Argument) (o : Operand)
    → operand_of no_labels pc kind a ≡ Some o
    → (argument_unknown labels a ≡ false) × (operand_of labels pc kind a ≡ Some o)
unfolding operand_of
operand-known labels pc kind (argument.Register r) o read = (refl, read)
operand-known labels pc kind (argument.Value (values.Number n)) o read = (refl, read)
operand-known labels pc kind (argument.Value (values.Label name)) o read = absurd (none-some o read)
operand-known labels pc kind (argument.Offset (values.Number n) r) o read = (refl, read)
operand-known labels pc kind (argument.Offset (values.Label name) r) o read =
    absurd (none-some o read)
operand-known labels pc kind (argument.Text text) o read = absurd (none-some o read)

-- all operands
operands-known : (labels : Labels) (pc : ℕ) (shape : List OperandKind) (arguments : List Argument)
    (os : List Operand)
    → operands_of no_labels pc shape arguments ≡ Some os
    → (list_any (argument_unknown labels) arguments ≡ false)
    × (operands_of labels pc shape arguments ≡ Some os)
unfolding operands_of
operands-known labels pc [] [] os read = (refl, read)
operands-known labels pc [] (a ∷ arguments) os read = absurd (none-some os read)
operands-known labels pc (kind ∷ shape) [] os read = absurd (none-some os read)
operands-known labels pc (kind ∷ shape) (a ∷ arguments) os read =
    steps _ (operand_of no_labels pc kind a) os read (λ first one read.
    steps _ (operands_of no_labels pc shape arguments) os read (λ rest more same.
    let h = operand-known labels pc kind a first one in
    let t = operands-known labels pc shape arguments rest more in (
      or_from (argument_unknown labels a) (list_any (argument_unknown labels) arguments) h.0 t.0,
      rw (h.1, t.1) same,
    )))

-- the instruction
instruction-known : (labels : Labels) (pc : ℕ) (name : List ℕ) (arguments : List Argument) (i : Ins)
    → instruction_at no_labels pc name arguments ≡ Some i
    → (list_any (argument_unknown labels) arguments ≡ false)
    × (instruction_at labels pc name arguments ≡ Some i)
unfolding instruction_at
instruction-known labels pc name arguments i read =
    steps _ (kinds_of name) i read (λ shape kinds read.
    steps _ (operands_of no_labels pc shape arguments) i read (λ os some made.
    let h = operands-known labels pc shape arguments os some in
    (h.0, rw (kinds, h.1) made)))

-- and it alone
alone-known : (labels : Labels) (pc : ℕ) (name : List ℕ) (arguments : List Argument) (is : List Ins)
    → option_map one_instruction (instruction_at no_labels pc name arguments) ≡ Some is
    → (list_any (argument_unknown labels) arguments ≡ false)
    × (option_map one_instruction (instruction_at labels pc name arguments) ≡ Some is)
alone-known labels pc name arguments is read =
    let m = option_map_some one_instruction (instruction_at no_labels pc name arguments) is read in
    let h = instruction-known labels pc name arguments m.0 m.1 in
    (h.0, ap (option_map one_instruction) h.1 ∙ m.2)

-- `la` writes nothing without labels
no_address : (r : ℕ) (name : List ℕ) (is : List Ins) → load_address no_labels r name ≡ Some is → ⊥
unfolding load_address
no_address r name is read = none-some is read

-- ---- statements

-- what is empty has no length
not_empty : (bytes : List ℕ) → 0 < length bytes → bytes ≡ [] → ⊥
not_empty [] some is = omega arith
not_empty (byte ∷ bytes) some is = absurd (let e : byte ∷ bytes ≡ [] = is in cc)

-- a statement that writes some bytes is no label
no_label-by : (place : ℕ) (content : Content) (bytes : List ℕ) → 0 < length bytes
    → StatementGives no_labels place content bytes → label_said content ≡ None
no_label-by place (Label name) bytes some given = absurd (not_empty bytes some given)
no_label-by place _ bytes some given = refl

-- and no `.entry`
no_entry-by : (place : ℕ) (content : Content) (bytes : List ℕ) → 0 < length bytes
    → StatementGives no_labels place content bytes → entry_content content ≡ false
no_entry-by place (Entry v) bytes some given = absurd (not_empty bytes some given)
no_entry-by place _ bytes some given = refl

-- and the next place is behind its bytes
behind-by : (place : ℕ) (content : Content) (bytes : List ℕ) → 0 < length bytes
    → StatementGives no_labels place content bytes → place_after place content ≡ place + statement_size place content
unfolding place_after statement_size
behind-by place (Org n) bytes some given = absurd (not_empty bytes some given)
behind-by place _ bytes some given = refl

-- it uses no name
known-by : (labels : Labels) (place : ℕ) (content : Content) (bytes : List ℕ) → 0 < length bytes
    → StatementGives no_labels place content bytes → content_unknown labels content ≡ false
known-by labels place (Words vs) bytes some given = (words-known labels vs bytes given.1).0
known-by labels place (Entry v) bytes some given = absurd (not_empty bytes some given)
known-by labels place (LoadAddress r name) bytes some given =
    absurd (no_address r name given.0 given.2)
known-by labels place (Instruction name arguments) bytes some given =
    (alone-known labels place name arguments given.0 given.2).0
known-by labels place _ bytes some given = refl

-- so it writes the same whatever the labels are
gives-by : (labels : Labels) (place : ℕ) (content : Content) (bytes : List ℕ)
    → StatementGives no_labels place content bytes → StatementGives labels place content bytes
gives-by labels place (Words vs) bytes given = (given.0, (words-known labels vs bytes given.1).1)
gives-by labels place (LoadAddress r name) bytes given = absurd (no_address r name given.0 given.2)
gives-by labels place (Instruction name arguments) bytes given =
    (given.0, given.1, (alone-known labels place name arguments given.0 given.2).1, given.3)
gives-by labels place _ bytes given = given

-- a statement that writes these bytes at this place, uses no name, and is no label, no `.org` and
-- no `.entry`
pub record IsFixed (place : ℕ) (content : Content) (bytes : List ℕ) : Type 0 where
  pub no_label : label_said content ≡ None
  pub no_entry : entry_content content ≡ false
  pub known : (labels : Labels) → content_unknown labels content ≡ false
  pub size : statement_size place content ≡ length bytes
  pub behind : place_after place content ≡ place + length bytes
  pub gives : (labels : Labels) → StatementGives labels place content bytes

-- one that writes some bytes where no label is known is such a statement
pub gives_no_names : (place : ℕ) (content : Content) (bytes : List ℕ) → 0 < length bytes
    → StatementGives no_labels place content bytes → IsFixed place content bytes
gives_no_names place content bytes some given =
    let sized = sym (Gives-size no_labels place content bytes given) in
    record {
      no_label = no_label-by place content bytes some given;
      no_entry = no_entry-by place content bytes some given;
      known = λ labels. known-by labels place content bytes some given;
      size = sized;
      behind = behind-by place content bytes some given ∙ ap (λ (n : ℕ). place + n) sized;
      gives = λ labels. gives-by labels place content bytes given;
    }
