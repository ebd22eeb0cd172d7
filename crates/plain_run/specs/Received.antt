-- Received files: the values that a program run alone receives, one a line. This project's own
-- format.
use Rattle.std.specs.Prelude.{◌≡◌, ℕ, List, [], ◌∷◌, Option, None, Result}
use Rattle.text_lines.specs.Lines.{IsFirstBad, IsRows, Rows, lines_of, rows_of}
use Rattle.step_text.specs.StepFields.{IsHex8, hex8_of}

-- one word, which is eight hexadecimal digits in either case: the value, its high byte first
abbrev pub IsValue : List (List ℕ) → ℕ → Type 0
IsValue words value = (word : List ℕ) × (words ≡ word ∷ []) × IsHex8 word value

-- the text is a received file of these values: one a line, in their order, blank lines passed over
abbrev pub IsReceivedFile : List ℕ → List ℕ → Type 0
IsReceivedFile = IsRows IsValue

-- the line of this number, counted from 1, is the first that is neither blank nor a value
abbrev pub IsBadValueLine : List ℕ → ℕ → Type 0
IsBadValueLine text n = IsFirstBad (Rows IsValue) tt 1 (lines_of text) n

-- ---- the same as a function

-- the value of the words of a line, or none
unfoldable pub value_of_line : List (List ℕ) → Option ℕ
value_of_line (word ∷ []) = hex8_of word
value_of_line other = None

-- the values of a received file, or the number of its first bad line
unfoldable pub received_at : List ℕ → Result (List ℕ) ℕ
received_at = rows_of value_of_line
