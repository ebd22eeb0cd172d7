-- Words of hexadecimal digits, which write bytes: two digits a byte, the high one first, in either
-- case.
use Rattle.std.specs.Prelude.{◌≡◌, ℕ, ◌+◌, ◌*◌, ◌/◌, ◌<◌, ◌≤◌, ◌&&◌, ◌==◌, nat_le, if◌then◌else◌, List, [], ◌∷◌, length, Option, Some, None}
use Rattle.std.specs.Char.{digit_value, is_digit}
use Rattle.std.specs.List.{AllByRecursion, list_all}

-- the bytes that pairs of digits write
abbrev pub pairs : List ℕ → List ℕ
pairs [] = []
pairs (high ∷ []) = []
pairs (high ∷ low ∷ digits) = (digit_value high * 16 + digit_value low) ∷ pairs digits

-- the word has two hexadecimal digits for each of so many bytes, and writes these bytes
pub record IsHex (count : ℕ) (word bytes : List ℕ) : Type 0 where
  pub sized : length word ≡ 2 * count
  pub digits : AllByRecursion (λ digit. digit_value digit < 16) word
  pub written : bytes ≡ pairs word

-- the same as a function: so many bytes, or none
unfoldable pub hex_of : ℕ → List ℕ → Option (List ℕ)
hex_of count word =
    if (length word == 2 * count) && list_all (λ digit. is_digit digit 16) word
    then Some (pairs word) else None

-- ---- words of any even number of digits

-- the word writes these bytes, of which there are at most so many
abbrev pub WritesHex : ℕ → List ℕ → List ℕ → Type 0
WritesHex most word bytes = IsHex (length bytes) word bytes × (length bytes ≤ most)

-- the same as a function: the bytes of the word, or none
unfoldable pub hex_within : ℕ → List ℕ → Option (List ℕ)
hex_within most word = if nat_le (length word / 2) most then hex_of (length word / 2) word else None
