-- What is true of all sources: one outcome, and the bytes of an image statement by statement.
use Rattle.std.specs.Prelude.{◌≡◌, ◌⊎◌, ◌+◌, ◌<◌, ℕ, false, All, List, Ok, length, slice_index}
use Rattle.xom_base.specs.declared.image.PlainImage.{PlainImage}
use Rattle.asm_source.specs.declared.content.Part.{Part}
use Rattle.asm_syntax.specs.Lines.{source_of}
use Rattle.mips_asm.specs.declared.fault.AsmFault.{AsmFault}
use Rattle.mips_asm.specs.Places.{Placed}
use Rattle.mips_asm.specs.Encoding.{StatementGives}
use Rattle.mips_asm.specs.Layout.{covers, last_end, layout}
use Rattle.mips_asm.specs.Passes.{Labels}
use Rattle.mips_asm.specs.Sources.{IsFaultOf, IsImageOf, labels_of}

-- ---- one outcome

-- two images of a source are the same
abbrev pub OneImage : Type 0
OneImage = (text : List ℕ) (a b : PlainImage) → IsImageOf text a → IsImageOf text b → a ≡ b

-- two faults of a source are the same, line and kind
abbrev pub OneFault : Type 0
OneFault = (text : List ℕ) (a b : AsmFault) → IsFaultOf text a → IsFaultOf text b → a ≡ b

-- a source that has an image has no fault
abbrev pub NotBoth : Type 0
NotBoth =
    (text : List ℕ) (image : PlainImage) (fault : AsmFault) → IsImageOf text image
    → ¬ IsFaultOf text fault

-- each text has an image or a fault
abbrev pub ImageOrFault : Type 0
ImageOrFault =
    (text : List ℕ)
    → ((image : PlainImage) × IsImageOf text image) ⊎ ((fault : AsmFault) × IsFaultOf text fault)

-- ---- the bytes of an image

-- the statement writes bytes of its own, and they stand at its place
abbrev pub StandsAtItsPlace : Labels → List ℕ → Placed → Type 0
StandsAtItsPlace labels bytes statement =
    (own : List ℕ) × StatementGives labels statement.place statement.part.content own
    × ((k : ℕ) → k < length own → slice_index bytes (statement.place + k) ≡ slice_index own k)

-- The bytes are those of these statements: what each writes stands at its place, zeros stand where
-- none
-- writes, and the last byte is the last that is written.
pub record AreBytesOf (statements : List Placed) (bytes : List ℕ) : Type 0 where
  pub whole : length bytes ≡ last_end statements
  pub written : All (StandsAtItsPlace (labels_of statements) bytes) statements
  pub gaps : (k : ℕ) → All (λ statement. covers statement k ≡ false) statements
      → slice_index bytes k ≡ 0

-- the bytes of a source's image are those of its statements, which follow one another from place 0
-- on
abbrev pub BytesOfStatements : Type 0
BytesOfStatements =
    (text : List ℕ) (parts : List Part) (image : PlainImage) → source_of text ≡ Ok parts
    → IsImageOf text image → AreBytesOf (layout 0 parts) image.bytes
