-- A label in an operand may be replaced by the number of its place.
use Rattle.std.proofs.Common.{◌≡◌, ℕ, List, [], ◌∷◌, map, Option, Some, None, option_map, refl, sym, ap, subst, ◌∙◌}
use Rattle.std.specs.Prelude.{is_none}
use Rattle.std.specs.List.{list_any}
use Rattle.xom_base.specs.Options.{◌>>=◌}
use Rattle.mips_instruction.specs.declared.instruction.Ins.{Ins}
use Rattle.mips_forms.specs.Builds.{build_of, kinds_of}
use Rattle.mips_forms.specs.declared.operand.Operand.{Operand}
use Rattle.mips_forms.specs.declared.operand.OperandKind.{OperandKind}
use Rattle.asm_tokens.specs.declared.integers.Integer.{Integer}
use Rattle.asm_source.specs.declared.argument.Argument.{Argument}
use Rattle.asm_source.specs.declared.argument.Argument.TheVariants.{Register, Value, Offset, Text}
use Rattle.asm_source.specs.declared.argument.Value.{Value as ValueType}
use Rattle.asm_source.specs.declared.argument.Value.TheVariants.{Number, Label}
use Rattle.asm_source.specs.declared.content.Content.{Content}
use Rattle.asm_source.specs.declared.content.Content.TheVariants as content
use Rattle.mips_asm.specs.Encoding.{IsCode, StatementGives, field_of, instruction_at, join_some, load_address, offset_field, one_instruction, operand_of, operands_of, unsigned_below, unsigned_number, value_number, word_bytes, word_value}
use Rattle.mips_asm.specs.Passes.{Labels, argument_unknown, content_unknown, value_unknown}
use Rattle.mips_asm.specs.Sources.{aligned_address, entry_value}
use Rattle.asm_laws.specs.Replaced.{NumbersStandForLabels, numbered_content, numbered_operand, place_or, value_with_place}

-- labels, and the labels of another source, with the same places
module _ (labels others : Labels) (same : (name : List ℕ) → labels name ≡ others name) where
  -- ---- values

  -- what a name stands for
  named : (name : List ℕ) (place : Option ℕ) → labels name ≡ place
      → option_map unsigned_number (labels name) ≡ value_number others (place_or place name)
  named name None known = ap (option_map unsigned_number) (same name)
  named name (Some place) known = ap (option_map unsigned_number) known

  number-numbered : (v : ValueType) → value_number labels v ≡ value_number others (value_with_place labels v)
  number-numbered (Number n) = refl
  number-numbered (Label name) = named name (labels name) refl

  unknown_named : (name : List ℕ) (place : Option ℕ) → labels name ≡ place
      → value_unknown others (place_or place name) ≡ is_none (labels name)
  unknown_named name None known = ap is_none (sym (same name))
  unknown_named name (Some place) known = sym (ap is_none known)

  unknown-numbered : (v : ValueType)
      → value_unknown others (value_with_place labels v) ≡ value_unknown labels v
  unknown-numbered (Number n) = refl
  unknown-numbered (Label name) = unknown_named name (labels name) refl

  -- ---- .word

  word_value-numbered : (v : ValueType)
      → word_value labels v ≡ word_value others (value_with_place labels v)
  unfolding word_value
  word_value-numbered v = ap (λ (n : Option Integer). n >>= word_bytes) (number-numbered v)

  words-numbered : (vs : List ValueType)
      → join_some (word_value labels) vs ≡ join_some (word_value others) (map (value_with_place labels) vs)
  words-numbered [] = refl
  words-numbered (v ∷ vs) = rw (word_value-numbered v, words-numbered vs) refl

  words_unknown-numbered : (vs : List ValueType)
      → list_any (value_unknown others) (map (value_with_place labels) vs) ≡ list_any (value_unknown labels)
      vs
  words_unknown-numbered [] = refl
  words_unknown-numbered (v ∷ vs) = rw (unknown-numbered v, words_unknown-numbered vs) refl

  -- ---- instructions

  operand-numbered : (pc : ℕ) (kind : OperandKind) (a : Argument)
      → operand_of labels pc kind a ≡ operand_of others pc kind (numbered_operand labels a)
  unfolding operand_of
  operand-numbered pc kind (Register r) = refl
  operand-numbered pc kind (Value v) =
      ap (λ (n : Option Integer). n >>= field_of pc kind) (number-numbered v)
  operand-numbered pc kind (Offset v r) =
      ap (λ (n : Option Integer). n >>= offset_field r) (number-numbered v)
  operand-numbered pc kind (Text bytes) = refl

  operands-numbered : (pc : ℕ) (shape : List OperandKind) (list : List Argument)
      → operands_of labels pc shape list ≡ operands_of others pc shape
      (map (numbered_operand labels) list)
  unfolding operands_of
  operands-numbered pc [] [] = refl
  operands-numbered pc [] (a ∷ list) = refl
  operands-numbered pc (kind ∷ shape) [] = refl
  operands-numbered pc (kind ∷ shape) (a ∷ list) =
      rw (operand-numbered pc kind a, operands-numbered pc shape list) refl

  instruction-numbered : (pc : ℕ) (name : List ℕ) (list : List Argument)
      → instruction_at labels pc name list ≡ instruction_at others pc name
      (map (numbered_operand labels) list)
  unfolding instruction_at
  instruction-numbered pc name list = by_shape (kinds_of name)
    where
      by_shape : (shape : Option (List OperandKind))
          → (shape >>= (λ s. operands_of labels pc s list >>= build_of name)) ≡ (shape >>=
          (λ s. operands_of others pc s (map (numbered_operand labels) list) >>= build_of name))
      by_shape None = refl
      by_shape (Some s) =
          ap (λ (o : Option (List Operand)). o >>= build_of name) (operands-numbered pc s list)

  operand_unknown-numbered : (a : Argument)
      → argument_unknown others (numbered_operand labels a) ≡ argument_unknown labels a
  operand_unknown-numbered (Register r) = refl
  operand_unknown-numbered (Value v) = unknown-numbered v
  operand_unknown-numbered (Offset v r) = unknown-numbered v
  operand_unknown-numbered (Text bytes) = refl

  operands_unknown-numbered : (list : List Argument)
      → list_any (argument_unknown others) (map (numbered_operand labels) list) ≡ list_any
      (argument_unknown labels) list
  operands_unknown-numbered [] = refl
  operands_unknown-numbered (a ∷ list) =
      rw (operand_unknown-numbered a, operands_unknown-numbered list) refl

  -- ---- .entry and la

  entry-numbered : (v : ValueType)
      → entry_value labels (content.Entry v) ≡ entry_value others (content.Entry (value_with_place labels v))
  entry-numbered v =
      ap (λ (n : Option Integer). n >>= (λ m. unsigned_below 1048575 m >>= aligned_address))
      (number-numbered v)

  load_address-same : (r : ℕ) (name : List ℕ)
      → load_address labels r name ≡ load_address others r name
  unfolding load_address
  load_address-same r name = rw (same name) refl

  -- ---- contents

  pub Gives-numbered : (place : ℕ) (c : Content) (own : List ℕ) → StatementGives labels place c own
      → StatementGives others place (numbered_content labels c) own
  Gives-numbered place (content.Label name) own gives = gives
  Gives-numbered place (content.Words vs) own gives = (gives.0, sym (words-numbered vs) ∙ gives.1)
  Gives-numbered place (content.Bytes ns) own gives = gives
  Gives-numbered place (content.Ascii text) own gives = gives
  Gives-numbered place (content.Space n) own gives = gives
  Gives-numbered place (content.Align n) own gives = gives
  Gives-numbered place (content.Org n) own gives = gives
  Gives-numbered place (content.Entry v) own gives = gives
  Gives-numbered place (content.LoadNumber r n) own gives = gives
  Gives-numbered place (content.LoadAddress r name) own gives =
      subst (λ (made : Option (List Ins)). IsCode place made own) (load_address-same r name) gives
  Gives-numbered place (content.Instruction name list) own gives =
      subst (λ (made : Option Ins). IsCode place (option_map one_instruction made) own)
      (instruction-numbered place name list) gives

  pub content_unknown-numbered : (c : Content)
      → content_unknown others (numbered_content labels c) ≡ content_unknown labels c
  content_unknown-numbered (content.Label name) = refl
  content_unknown-numbered (content.Words vs) = words_unknown-numbered vs
  content_unknown-numbered (content.Bytes ns) = refl
  content_unknown-numbered (content.Ascii text) = refl
  content_unknown-numbered (content.Space n) = refl
  content_unknown-numbered (content.Align n) = refl
  content_unknown-numbered (content.Org n) = refl
  content_unknown-numbered (content.Entry v) = unknown-numbered v
  content_unknown-numbered (content.LoadNumber r n) = refl
  content_unknown-numbered (content.LoadAddress r name) = ap is_none (sym (same name))
  content_unknown-numbered (content.Instruction name list) = operands_unknown-numbered list

  pub entry_in-numbered : (c : Content)
      → entry_value others (numbered_content labels c) ≡ entry_value labels c
  entry_in-numbered (content.Label name) = refl
  entry_in-numbered (content.Words vs) = refl
  entry_in-numbered (content.Bytes ns) = refl
  entry_in-numbered (content.Ascii text) = refl
  entry_in-numbered (content.Space n) = refl
  entry_in-numbered (content.Align n) = refl
  entry_in-numbered (content.Org n) = refl
  entry_in-numbered (content.Entry v) = sym (entry-numbered v)
  entry_in-numbered (content.LoadNumber r n) = refl
  entry_in-numbered (content.LoadAddress r name) = refl
  entry_in-numbered (content.Instruction name list) = refl

pub numbers_stand : NumbersStandForLabels
numbers_stand labels place name operands vs v own =
    let instructions = instruction-numbered labels labels (λ name. refl) place name operands in
    let words = words-numbered labels labels (λ name. refl) vs in (
      (
        subst (λ (made : Option Ins). IsCode place (option_map one_instruction made) own)
            instructions,
        subst (λ (made : Option Ins). IsCode place (option_map one_instruction made) own)
            (sym instructions),
      ),
      (λ gives. (gives.0, sym words ∙ gives.1), λ gives. (gives.0, words ∙ gives.1)),
      entry-numbered labels labels (λ name. refl) v,
    )
