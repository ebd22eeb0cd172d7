-- What the short forms of the assembler mean: what their words do, where memory has them at their
-- place.
-- Source: the short forms are this project's own; what words do is that of Kane and Heinrich, MIPS
-- RISC Architecture, appendix A (MIPS I).
use Rattle.std.specs.Prelude.{◌≡◌, ◌≢◌, ℕ, ◌+◌, ◌*◌, ◌^◌, ◌<◌, ◌≤◌, All, List, [], ◌∷◌, length, codes, slice_index, Some, Ok}
use Rattle.xom_base.specs.declared.image.PlainImage.{PlainImage}
use Rattle.mips_instruction.specs.Numbers.{next_address, number_modulo_word}
use Rattle.mips_effect.specs.declared.seen.Mode.{Mode}
use Rattle.mips_effect.specs.declared.seen.Seen.TheVariants as seen
use Rattle.mips_effect.specs.Effects.{seen_at}
use Rattle.asm_tokens.specs.declared.integers.Integer.{Integer}
use Rattle.asm_tokens.specs.Integers.{whole}
use Rattle.asm_source.specs.declared.argument.Argument.{Argument}
use Rattle.asm_source.specs.declared.argument.Argument.TheVariants.{Register, Value}
use Rattle.asm_source.specs.declared.argument.Value.{Value as ValueType}
use Rattle.asm_source.specs.declared.argument.Value.TheVariants.{Number, Label}
use Rattle.asm_source.specs.declared.content.Content.{Content}
use Rattle.asm_source.specs.declared.content.Part.{Part}
use Rattle.asm_syntax.specs.Lines.{source_of, statement_of}
use Rattle.mips_asm.specs.Places.{Placed}
use Rattle.mips_asm.specs.Encoding.{StatementGives, value_number}
use Rattle.mips_asm.specs.Layout.{layout, limit}
use Rattle.mips_asm.specs.Passes.{Labels}
use Rattle.mips_asm.specs.Sources.{IsImageOf, labels_of}
use Rattle.asm_laws.specs.Runs.{Cells, StateOfLaw, state, state_after}

-- ---- Statements in memory

-- A statement of this name with these operands writes these bytes at this place, and memory has
-- them
-- there, within the bytes that an image may have.
pub record StandsIn (memory : List ℕ) (labels : Labels) (place : ℕ) (name : List ℕ)
    (operands : List Argument) (own : List ℕ) : Type 0 where
  pub content : Content
  pub statement : statement_of name operands ≡ Some content
  pub gives : StatementGives labels place content own
  pub there : (k : ℕ) → k < length own → slice_index memory (place + k) ≡ slice_index own k
  pub inside : place + length own ≤ limit

-- a statement that is this one by name and operands, and writes a byte, stands so in memory
abbrev pub StandsWhereItIs : (memory : List ℕ) → Labels → Placed → Type 0
StandsWhereItIs memory labels p =
    (name : List ℕ) (operands : List Argument) → statement_of name operands ≡ Some p.part.content
    → 0 < p.size
    → (own : List ℕ) × StandsIn memory labels p.place name operands own

-- the image of a source has each of its statements so
abbrev pub ImagesHaveTheirStatements : Type 0
ImagesHaveTheirStatements =
    (text : List ℕ) (parts : List Part) (image : PlainImage) → source_of text ≡ Ok parts
    → IsImageOf text image
    → All (StandsWhereItIs image.bytes (labels_of (layout 0 parts))) (layout 0 parts)

-- ---- What words do

-- So many instructions set the register to the value and come to this pair. They don't fault, and
-- write
-- no other cell; a write to $0 is dropped.
pub record Sets (memory : List ℕ) (mode : Mode) (before : StateOfLaw) (count pc npc reg value : ℕ) : Type
    0 where
  pub cells : Cells
  pub runs : state_after count memory mode before ≡ Some (state cells pc npc)
  pub register : reg ≢ 0 → cells reg ≡ seen.Value value
  pub others : (cell : ℕ) → cell ≢ reg → cells cell ≡ before.cells cell
  pub zero_register : cells 0 ≡ before.cells 0

-- The code from this place on, of so many bytes, does so with all its words, from the first to the
-- last,
-- whatever the cells hold, in a guest and in null code. The instruction behind it is then next.
pub record Loads (memory : List ℕ) (place size reg value : ℕ) : Type 0 where
  pub count : ℕ
  pub all_words : size ≡ 4 * count
  pub sets : (mode : Mode) (cells : Cells)
      → Sets memory mode (state cells place (place + 4)) count (place + size) (place + size + 4) reg
      value

-- ---- The short forms

-- `li r, n`: the register is n modulo 2^32
abbrev pub LiLoadsTheNumber : Type 0
LiLoadsTheNumber =
    (memory own : List ℕ) (labels : Labels) (place reg : ℕ) (n : Integer)
    → StandsIn memory labels place (codes "li") (Register reg ∷ Value (Number n) ∷ []) own
    → Loads memory place (length own) reg (number_modulo_word (whole n))

-- `la r, label`: the register is the label's place
abbrev pub LaLoadsThePlace : Type 0
LaLoadsThePlace =
    (memory own : List ℕ) (labels : Labels) (place reg : ℕ) (name : List ℕ) (address : ℕ)
    → labels name ≡ Some address
    → StandsIn memory labels place (codes "la") (Register reg ∷ Value (Label name) ∷ []) own
    → Loads memory place (length own) reg address

-- `move a, b`: a is what b is, for every value of 32 bits that b may have, with no fault. The pair
-- goes
-- on, wherever it goes: a `move` may stand behind a branch.
abbrev pub MoveCopies : Type 0
MoveCopies =
    (memory own : List ℕ) (labels : Labels) (place a b v npc : ℕ) (mode : Mode) (cells : Cells)
    → StandsIn memory labels place (codes "move") (Register a ∷ Register b ∷ []) own
    → seen_at b (cells b) ≡ seen.Value v → v < 2 ^ 32
    → Sets memory mode (state cells place npc) 1 npc (next_address npc) a v

-- `nop`: no cell is written, and the pair goes on, wherever it goes
abbrev pub NopGoesOn : Type 0
NopGoesOn =
    (memory own : List ℕ) (labels : Labels) (place npc : ℕ) (mode : Mode) (cells : Cells)
    → StandsIn memory labels place (codes "nop") [] own
    → state_after 1 memory mode (state cells place npc) ≡ Some (state cells npc (next_address npc))

-- `b target`: whatever the cells hold, the instruction behind it is next, and then the target: a
-- number, or
-- the place of a label
abbrev pub BGoesToItsTarget : Type 0
BGoesToItsTarget =
    (memory own : List ℕ) (labels : Labels) (place : ℕ) (target : ValueType) (n : Integer)
    (mode : Mode) (cells : Cells) → value_number labels target ≡ Some n
    → StandsIn memory labels place (codes "b") (Value target ∷ []) own
    → state_after 1 memory mode (state cells place (place + 4)) ≡ Some (state cells (place + 4)
    n.magnitude)
