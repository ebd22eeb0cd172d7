-- What is true of the text of a listing, as a source.
use Rattle.std.specs.Prelude.{◌≡◌, ℕ, zero, suc, ◌+◌, ◌*◌, ◌/◌, ◌%◌, ◌^◌, ◌<◌, ◌≤◌, List, [], ◌∷◌, ◌++◌, All, Some, length, replicate}
use Rattle.std.specs.Int.{w32, to_be_bytes}
use Rattle.xom_base.specs.declared.image.PlainImage.{PlainImage}
use Rattle.xom_base.specs.Sizes.{window_size}
use Rattle.mips_text.specs.Texts.{image_word_at, word_text}
use Rattle.asm_source.specs.declared.content.Content.{Content}
use Rattle.asm_syntax.specs.Lines.{line_parts, part_of_line}
use Rattle.mips_asm.specs.Encoding.{StatementGives}
use Rattle.mips_asm.specs.Layout.{padding}
use Rattle.mips_asm.specs.Passes.{Labels}
use Rattle.mips_asm.specs.Sources.{IsImageOf}

-- The text of a word at an address is, byte for byte, a line with one statement, and that statement
-- writes the word there, whatever the labels. The address is a multiple of 4 before the last word.
abbrev pub WordsAreReadAgain : Type 0
WordsAreReadAgain =
    (labels : Labels) (number pc word : ℕ) → pc % 4 ≡ 0 → pc + 4 < 2 ^ 32 → word < 2 ^ 32
    → (content : Content) × (line_parts number (word_text word pc) ≡ Some (part_of_line number content
    ∷ [])) × StatementGives labels pc content (to_be_bytes w32 word)

-- the texts of so many words of an image, from its start, each as a line of its own
abbrev pub texts_of : List ℕ → ℕ → List ℕ
texts_of bytes zero = []
texts_of bytes (suc n) = texts_of bytes n ++ (word_text (image_word_at bytes (4 * n)) (4 * n) ++ 10 ∷ [])

-- zeros behind, up to a whole word
abbrev pub whole_words : List ℕ → List ℕ
whole_words bytes = bytes ++ replicate (padding 2 (length bytes)) 0

-- The texts of all the words of an image, without their addresses and digits, are a source of an
-- image with
-- these bytes, filled up to a whole word, and with the entry 0.
abbrev pub ListingsAreAssembledAgain : Type 0
ListingsAreAssembledAgain =
    (bytes : List ℕ) → All (λ byte. byte < 2 ^ 8) bytes → length bytes ≤ window_size
    → (image : PlainImage) × (image.entry ≡ 0) × (image.bytes ≡ whole_words bytes)
    × IsImageOf (texts_of bytes ((length bytes + 3) / 4)) image
