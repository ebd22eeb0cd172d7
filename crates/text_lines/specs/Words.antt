-- The words of a line, by the general rule of all texts but assembler sources.
use Rattle.std.specs.Prelude.{ℕ, Bool, not, ◌||◌, ◌==◌, if◌then◌else◌, List, [], ◌∷◌, length, filter, take, drop, Option, Some, None, option_map}
use Rattle.std.specs.List.{before_first, position_or_len, slice_split}

-- a space, a tab or byte 13 stands between words
abbrev pub is_blank : ℕ → Bool
is_blank byte = (byte == 32) || (byte == 9) || (byte == 13)

-- `#` begins a comment, wherever it stands
abbrev pub begins_comment : ℕ → Bool
begins_comment byte = byte == 35

-- whether a part between blanks is a word
abbrev pub has_bytes : List ℕ → Bool
has_bytes part = not (length part == 0)

-- what stands before the comment, cut at each blank, and of the parts those that have bytes
abbrev pub words_of : List ℕ → List (List ℕ)
words_of line = filter has_bytes (slice_split is_blank (before_first begins_comment line))

-- ---- the words one after another

-- a blank or a comment ends a word
abbrev pub ends_word : ℕ → Bool
ends_word byte = is_blank byte || begins_comment byte

-- what stands behind the blanks at the front
abbrev pub past_blanks : List ℕ → List ℕ
past_blanks line = drop (position_or_len (λ byte. not (is_blank byte)) line) line

-- how many bytes the word at the front has
abbrev pub word_len : List ℕ → ℕ
word_len line = position_or_len ends_word line

-- the word at the front, if there is one, and what stands behind it
abbrev pub word_in_front : List ℕ → Option (List ℕ × List ℕ)
word_in_front line =
    if word_len line == 0 then None else Some (take (word_len line) line, drop (word_len line) line)

-- the first word of a line, if it has one, and what stands behind it
abbrev pub next_of : List ℕ → Option (List ℕ × List ℕ)
next_of line = word_in_front (past_blanks line)

-- the words of a line, by the first one
abbrev pub after_word : Option (List ℕ × List ℕ) → List (List ℕ)
after_word None = []
after_word (Some parts) = parts.0 ∷ words_of parts.1

-- ---- texts cut at a byte

-- a byte in front of the first part
abbrev pub with_byte : ℕ → List ℕ × List ℕ → List ℕ × List ℕ
with_byte byte parts = (byte ∷ parts.0, parts.1)

-- what stands before the first byte that is this one, and what behind it; none where there is no
-- such byte
unfoldable pub cut_of : ℕ → List ℕ → Option (List ℕ × List ℕ)
cut_of at [] = None
cut_of at (byte ∷ bytes) =
    if byte == at then Some ([], bytes) else option_map (with_byte byte) (cut_of at bytes)
