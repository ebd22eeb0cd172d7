-- A label may be replaced by the number of its place: in an operand, in a value of `.word` and in
-- `.entry`. This project's own.
use Rattle.std.specs.Prelude.{◌≡◌, ◌↔◌, ℕ, List, map, Option, Some, None, Ok}
use Rattle.xom_base.specs.declared.image.PlainImage.{PlainImage}
use Rattle.asm_source.specs.declared.argument.Argument.{Argument}
use Rattle.asm_source.specs.declared.argument.Argument.TheVariants.{Register, Value, Offset, Text}
use Rattle.asm_source.specs.declared.argument.Value.{Value as ValueType}
use Rattle.asm_source.specs.declared.argument.Value.TheVariants.{Number, Label}
use Rattle.asm_source.specs.declared.content.Content.{Content}
use Rattle.asm_source.specs.declared.content.Content.TheVariants.{Words, Entry, Instruction}
use Rattle.asm_source.specs.declared.content.Part.{Part}
use Rattle.asm_syntax.specs.Lines.{source_of}
use Rattle.mips_asm.specs.Encoding.{StatementGives, unsigned_number}
use Rattle.mips_asm.specs.Layout.{layout}
use Rattle.mips_asm.specs.Passes.{Labels}
use Rattle.mips_asm.specs.Sources.{IsImageOf, entry_value, labels_of}

-- the number of a place, or the name where it has none
abbrev pub place_or : Option ℕ → (name : List ℕ) → ValueType
place_or None name = Label name
place_or (Some place) name = Number (unsigned_number place)

-- a value, with the number of its place for a label that has one
abbrev pub value_with_place : Labels → ValueType → ValueType
value_with_place labels (Number n) = Number n
value_with_place labels (Label name) = place_or (labels name) name

-- the same of an operand
abbrev pub numbered_operand : Labels → Argument → Argument
numbered_operand labels (Register r) = Register r
numbered_operand labels (Value v) = Value (value_with_place labels v)
numbered_operand labels (Offset v r) = Offset (value_with_place labels v) r
numbered_operand labels (Text bytes) = Text bytes

-- an instruction with numbers for its labels writes the same bytes, and so do the values of
-- `.word`;
-- `.entry` says the same entry
abbrev pub NumbersStandForLabels : Type 0
NumbersStandForLabels = (labels : Labels) (place : ℕ) (name : List ℕ) (operands : List Argument)
    (vs : List ValueType) (v : ValueType) (own : List ℕ)
    → (StatementGives labels place (Instruction name operands) own ↔ StatementGives labels place
    (Instruction name (map (numbered_operand labels) operands)) own)
    × (StatementGives labels place (Words vs) own ↔ StatementGives labels place (Words (map (value_with_place labels) vs))
    own)
    × (entry_value labels (Entry v) ≡ entry_value labels (Entry (value_with_place labels v)))

-- a label or a statement, with numbers for the labels that its operands name
abbrev pub numbered_content : Labels → Content → Content
numbered_content labels (Words vs) = Words (map (value_with_place labels) vs)
numbered_content labels (Entry v) = Entry (value_with_place labels v)
numbered_content labels (Instruction name operands) =
    Instruction name (map (numbered_operand labels) operands)
numbered_content labels content = content

-- a label or a statement with its line, its labels replaced by numbers
abbrev pub numbered_part : Labels → Part → Part
numbered_part labels part = record {
  line = part.line;
  content = numbered_content labels
      part.content;
}

-- what the labels of a source stand for
abbrev pub labels_in : List Part → Labels
labels_in parts = labels_of (layout 0 parts)

-- a source with numbers for the labels that its operands name has the same image
abbrev pub ImagesByNumbers : Type 0
ImagesByNumbers = (text other : List ℕ) (parts : List Part) (image : PlainImage)
    → source_of text ≡ Ok parts → source_of other ≡ Ok (map (numbered_part (labels_in parts)) parts)
    → IsImageOf text image → IsImageOf other image
