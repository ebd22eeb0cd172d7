-- The numbers of all texts of this project: decimal, or hexadecimal behind `0x`.
use Rattle.std.specs.Prelude.{◌≡◌, ℕ, ◌+◌, ◌*◌, ◌^◌, ◌<◌, ◌≤◌, ◌⊎◌, ◌&&◌, nat_lt, nat_le, Bool, if◌then◌else◌, List, [], ◌∷◌, ◌++◌, length, drop, take, codes, Option, Some, None, option_and_then}
use Rattle.std.specs.Char.{digit_value, is_digit}
use Rattle.std.specs.List.{AllByRecursion, list_all}
use Rattle.std.specs.Str.{bytes_eq}

-- The number that digits write in a base: each digit counts as often as the power of the base that
-- there are digits behind it. Letters count from 10, in either case.
abbrev pub value : ℕ → List ℕ → ℕ
value base [] = 0
value base (digit ∷ digits) = digit_value digit * base ^ length digits + value base digits

-- one digit of the base or more, and nothing else
pub record IsNumeral (base : ℕ) (word : List ℕ) : Type 0 where
  pub some : 0 < length word
  pub digits : AllByRecursion (λ digit. digit_value digit < base) word

-- the word is a decimal number: digits alone, below 2^64
abbrev pub IsDecimal : List ℕ → ℕ → Type 0
IsDecimal word n = IsNumeral 10 word × (n ≡ value 10 word) × (n < 2 ^ 64)

-- the word is a number: a decimal numeral below 2^64, or `0x` and 1 to 16 hexadecimal digits
abbrev pub IsNumber : List ℕ → ℕ → Type 0
IsNumber word n =
    IsDecimal word n
    ⊎ ((digits : List ℕ) × (word ≡ codes "0x" ++ digits) × IsNumeral 16 digits
    × (length digits ≤ 16) × (n ≡ value 16 digits))

-- the word is a number, which is below the bound
abbrev pub WritesBelow : ℕ → List ℕ → ℕ → Type 0
WritesBelow bound word n = IsNumber word n × (n < bound)

-- the word is a decimal number, which is below the bound
abbrev pub WritesDecimal : ℕ → List ℕ → ℕ → Type 0
WritesDecimal bound word n = IsDecimal word n × (n < bound)

-- the word is a number from 1 on, which is below the bound
abbrev pub WritesCount : ℕ → List ℕ → ℕ → Type 0
WritesCount bound word n = WritesBelow bound word n × (1 ≤ n)

-- ---- the same as functions, for what reads words one after another

-- whether the word is one digit of the base or more
abbrev pub is_numeral : ℕ → List ℕ → Bool
is_numeral base word = nat_lt 0 (length word) && list_all (λ digit. is_digit digit base) word

-- the number of a numeral below 2^64, or none
unfoldable pub numeral_of : ℕ → List ℕ → Option ℕ
numeral_of base word =
    if is_numeral base word && nat_lt (value base word) (2 ^ 64) then Some (value base word)
    else None

-- the number of a word, or none
unfoldable pub number_of_word : List ℕ → Option ℕ
number_of_word word =
    if bytes_eq (take 2 word) (codes "0x")
    then (if nat_le (length word) 18 then numeral_of 16 (drop 2 word) else None)
    else numeral_of 10 word

-- the number itself where it is below the bound
abbrev pub if_below : ℕ → ℕ → Option ℕ
if_below bound n = if nat_lt n bound then Some n else None

-- the number of a word, where it is below the bound
unfoldable pub number_below_of : ℕ → List ℕ → Option ℕ
number_below_of bound word = option_and_then (if_below bound) (number_of_word word)

-- the number of a word, where it is from 1 on and below the bound
unfoldable pub count_below_of : ℕ → List ℕ → Option ℕ
count_below_of bound word =
    option_and_then (λ n. if nat_le 1 n then Some n else None) (number_below_of bound word)

-- the number of a decimal word, where it is below the bound
unfoldable pub decimal_below_of : ℕ → List ℕ → Option ℕ
decimal_below_of bound word = option_and_then (if_below bound) (numeral_of 10 word)
