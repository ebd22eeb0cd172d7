-- Whole numbers in source lines: a number of the general grammar, that may have a `-` in front.
use Rattle.std.specs.Prelude.{◌≡◌, ℕ, Bool, true, false, ◌==◌, if◌then◌else◌, ◌⊎◌, List, [], ◌∷◌, Option, None, option_map, ℤ, pos, ◌-ℤ◌}
use Rattle.text_lines.specs.Numbers.{IsNumber, number_of_word}
use Rattle.asm_tokens.specs.declared.integers.Integer.{Integer}

-- the text is this whole number: its magnitude as it is, or behind `-`
abbrev pub IsInteger : List ℕ → Integer → Type 0
IsInteger text integer =
    ((integer.negative ≡ false) × IsNumber text integer.magnitude)
    ⊎ ((digits : List ℕ) × (text ≡ 45 ∷ digits) × (integer.negative ≡ true) × IsNumber digits
    integer.magnitude)

-- the number in ℤ
abbrev pub whole : Integer → ℤ
whole integer = if integer.negative then pos 0 -ℤ pos integer.magnitude else pos integer.magnitude

-- ---- the same as a function

-- the number of this magnitude, with a `-` in front or not
abbrev pub signed_integer : Bool → ℕ → Integer
signed_integer negative magnitude = record { negative = negative; magnitude = magnitude }

-- the whole number of a text, or none
unfoldable pub integer_of : List ℕ → Option Integer
integer_of [] = None
integer_of (first ∷ rest) =
    if first == 45 then option_map (signed_integer true) (number_of_word rest) else option_map (signed_integer false)
    (number_of_word (first ∷ rest))
