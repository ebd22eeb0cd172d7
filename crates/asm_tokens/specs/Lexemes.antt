-- Names and quoted texts in source lines. This project's own.
use Rattle.std.specs.Prelude.{◌≡◌, ◌≢◌, ℕ, Bool, true, false, ◌==◌, ◌||◌, if◌then◌else◌, ◌⊎◌, List, [], ◌∷◌, ◌++◌, Option, Some, None, option_map, option_and_then, IsTrue}
use Rattle.std.specs.Char.{is_ascii_alphabetic, is_ascii_alphanumeric}
use Rattle.std.specs.List.{list_all}

-- ---- names

-- letters, `_` and `.` begin a name
abbrev pub begins_name : ℕ → Bool
begins_name byte = is_ascii_alphabetic byte || (byte == 95) || (byte == 46)

-- and digits may follow
abbrev pub is_name_byte : ℕ → Bool
is_name_byte byte = is_ascii_alphanumeric byte || (byte == 95) || (byte == 46)

-- the bytes are a name: one that may begin a name, then any that may stand in it
abbrev pub IsName : List ℕ → Type 0
IsName [] = ⊥
IsName (first ∷ rest) = IsTrue (begins_name first) × IsTrue (list_all is_name_byte rest)

-- ---- quoted texts

-- what the letter behind `\` stands for: `n` for byte 10, `0` for byte 0, `\` and `"` for
-- themselves
abbrev pub IsEscape : ℕ → ℕ → Type 0
IsEscape letter byte =
    ((letter ≡ 110) × (byte ≡ 10)) ⊎ ((letter ≡ 48) × (byte ≡ 0)) ⊎ ((letter ≡ 92) × (byte ≡ 92))
    ⊎ ((letter ≡ 34) × (byte ≡ 34))

-- how one byte is written: as itself, unless it is a quote or `\`, or as an escape
abbrev pub WritesByte : List ℕ → ℕ → Type 0
WritesByte written byte =
    ((written ≡ byte ∷ []) × (byte ≢ 34) × (byte ≢ 92))
    ⊎ ((letter : ℕ) × (written ≡ 92 ∷ letter ∷ []) × IsEscape letter byte)

-- what stands behind the opening quote writes these bytes one after another, and ends with the
-- closing quote
abbrev pub QuotesBytes : List ℕ → List ℕ → Type 0
QuotesBytes body [] = body ≡ 34 ∷ []
QuotesBytes body (byte ∷ bytes) =
    (written more : List ℕ) × (body ≡ written ++ more) × WritesByte written byte × QuotesBytes more
    bytes

-- the quoted text stands for these bytes
abbrev pub Quotes : List ℕ → List ℕ → Type 0
Quotes text bytes = (body : List ℕ) × (text ≡ 34 ∷ body) × QuotesBytes body bytes

-- ---- the same as functions

-- what the letter behind `\` stands for, or none
unfoldable pub escape_of : ℕ → Option ℕ
escape_of letter =
    if letter == 110 then Some 10 else if letter == 48 then Some 0 else if letter == 92 then Some 92
    else if letter == 34 then Some 34 else None

-- a byte in front of those that follow; what stands behind the closing quote stays
abbrev pub in_front : ℕ → Option (List ℕ × List ℕ) → Option (List ℕ × List ℕ)
in_front byte None = None
in_front byte (Some read) = Some (byte ∷ read.0, read.1)

-- What is written up to the closing quote, and what stands behind that quote; none where an escape
-- is
-- unknown or no quote closes. The test says whether a `\` stands right before.
unfoldable pub read_quoted : Bool → List ℕ → Option (List ℕ × List ℕ)
read_quoted escaped [] = None
read_quoted true (letter ∷ more) =
    option_and_then (λ byte. in_front byte (read_quoted false more)) (escape_of letter)
read_quoted false (byte ∷ more) =
    if byte == 34 then Some ([], more) else if byte == 92 then read_quoted true more
    else in_front byte (read_quoted false more)

-- what the letter behind a `\` and what follows it give: the byte, and what is left; none where the
-- escape is unknown
abbrev pub escaped_first : List ℕ → Option (ℕ × List ℕ)
escaped_first [] = None
escaped_first (letter ∷ more) = option_map (λ byte. (byte, more)) (escape_of letter)

-- the first byte that is written, and what is left; none at a closing quote, too
unfoldable pub written_first : List ℕ → Option (ℕ × List ℕ)
written_first [] = None
written_first (byte ∷ more) =
    if byte == 34 then None else if byte == 92 then escaped_first more else Some (byte, more)

-- what stands behind a quote at the front, or none
abbrev pub after_quote : List ℕ → Option (List ℕ)
after_quote [] = None
after_quote (byte ∷ behind) = if byte == 34 then Some behind else None

-- the bytes, where nothing stands behind the closing quote
abbrev pub if_whole : List ℕ × List ℕ → Option (List ℕ)
if_whole (bytes, []) = Some bytes
if_whole (bytes, byte ∷ more) = None

-- the bytes that a quoted text stands for, or none
unfoldable pub quoted_of : List ℕ → Option (List ℕ)
quoted_of [] = None
quoted_of (first ∷ body) =
    if first == 34 then option_and_then if_whole (read_quoted false body) else None
