-- The places of an image: a statement's bytes are as many as its size says, and each place is
-- written once at most. This project's own.
use Rattle.std.specs.Prelude.{◌≡◌, ℕ, true, List, length, slice_get, Some, Ok}
use Rattle.xom_base.specs.declared.image.PlainImage.{PlainImage}
use Rattle.asm_source.specs.declared.content.Content.{Content}
use Rattle.asm_source.specs.declared.content.Part.{Part}
use Rattle.asm_syntax.specs.Lines.{source_of}
use Rattle.mips_asm.specs.Places.{Placed}
use Rattle.mips_asm.specs.Encoding.{StatementGives}
use Rattle.mips_asm.specs.Layout.{covers, layout, statement_size}
use Rattle.mips_asm.specs.Passes.{Labels}
use Rattle.mips_asm.specs.Sources.{IsImageOf}

-- what a statement writes at a place has its size
abbrev pub StatementsHaveTheirSizes : Type 0
StatementsHaveTheirSizes =
    (labels : Labels) (place : ℕ) (content : Content) (own : List ℕ)
    → StatementGives labels place content own → length own ≡ statement_size place content

-- two statements of a source that has an image, the i-th and the j-th, which both write a place,
-- are one
abbrev pub PlacesAreWrittenOnce : Type 0
PlacesAreWrittenOnce =
    (text : List ℕ) (parts : List Part) (image : PlainImage) → source_of text ≡ Ok parts
    → IsImageOf text image
    → (i j k : ℕ) (p q : Placed) → slice_get (layout 0 parts) i ≡ Some p
    → slice_get (layout 0 parts) j ≡ Some q
    → covers p k ≡ true → covers q k ≡ true → i ≡ j
