-- The words that stand in lines of run files and scripts.
use Rattle.std.specs.Prelude.{ℕ, ◌^◌, ◌≤◌, ◌==◌, not, Bool, if◌then◌else◌, List, [], ◌∷◌, length, Option, Some, None}
use Rattle.std.specs.Str.{bytes_eq, is_utf8}
use Rattle.xom_base.specs.Options.{◌>>=◌, where_holds}
use Rattle.text_lines.specs.Hex.{WritesHex, hex_within}
use Rattle.text_lines.specs.Numbers.{WritesBelow}

-- a number below 2^32
abbrev pub Writes32 : List ℕ → ℕ → Type 0
Writes32 = WritesBelow (2 ^ 32)

-- the bytes of one write: 1 to 8,192
abbrev pub WritesBytes : List ℕ → List ℕ → Type 0
WritesBytes word bytes = WritesHex 8192 word bytes × (1 ≤ length bytes)

-- ---- the same as functions

-- the bytes of one write, or none
unfoldable pub write_bytes_of : List ℕ → Option (List ℕ)
write_bytes_of word = do
  bytes ← hex_within 8192 word
  where_holds (not (length bytes == 0)) bytes

-- a file name is a word in UTF-8
unfoldable pub name_of_word : List ℕ → Option (List ℕ)
name_of_word word = where_holds (is_utf8 word) word

-- what stands in the row of this name, of rows that each have a name
abbrev pub row_by_name : {A : Type 0} → List (List ℕ × Option A) → List ℕ → Option A
row_by_name [] name = None
row_by_name (row ∷ rows) name = if bytes_eq name row.0 then row.1 else row_by_name rows name
