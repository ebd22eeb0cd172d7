-- The key schedule of FIPS 197, 5.2, for a key of 128 bits: 44 words, each a list of 4 bytes.
use Rattle.std.specs.Prelude.{ℕ, zero, suc, ◌+◌, ◌-◌, ◌*◌, ◌/◌, ◌%◌, ◌==◌, List, [], ◌∷◌, ◌++◌, bit_xor, slice_index, slice_index_or, if◌then◌else◌}
use Rattle.aes_block.specs.Field.{times}
use Rattle.aes_block.specs.Substitution.{s_box}

-- the sum of two words
unfoldable pub add_words : List ℕ → List ℕ → List ℕ
add_words a b =
    bit_xor (slice_index a 0) (slice_index b 0) ∷ bit_xor (slice_index a 1) (slice_index b 1)
    ∷ bit_xor (slice_index a 2) (slice_index b 2) ∷ bit_xor (slice_index a 3) (slice_index b 3) ∷ []

-- ROTWORD
unfoldable pub rot_word : List ℕ → List ℕ
rot_word a = slice_index a 1 ∷ slice_index a 2 ∷ slice_index a 3 ∷ slice_index a 0 ∷ []

-- SUBWORD
unfoldable pub sub_word : List ℕ → List ℕ
sub_word a =
    s_box (slice_index a 0) ∷ s_box (slice_index a 1) ∷ s_box (slice_index a 2)
    ∷ s_box (slice_index a 3) ∷ []

-- x ^ n in the field
unfoldable pub power_of_x : ℕ → ℕ
power_of_x zero = 1
power_of_x (suc n) = times 2 (power_of_x n)

-- Rcon[j]: x ^ (j - 1), and three zeros
unfoldable pub round_constant : ℕ → List ℕ
round_constant j = power_of_x (j - 1) ∷ 0 ∷ 0 ∷ 0 ∷ []

-- what is added to word i - 4 to make word i: the word before it, which at each multiple of 4 is
-- rotated, substituted and has a round constant added
unfoldable pub addend : ℕ → List ℕ → List ℕ
addend i before =
    if i % 4 == 0 then add_words (sub_word (rot_word before)) (round_constant (i / 4)) else before

-- word i of the key itself, i from 0 to 3
unfoldable pub key_word : List ℕ → ℕ → List ℕ
key_word key i =
    slice_index key (4 * i) ∷ slice_index key (4 * i + 1) ∷ slice_index key (4 * i + 2)
    ∷ slice_index key (4 * i + 3) ∷ []

-- word i, i at least 4, from a list of all words before it
unfoldable pub next_word : List (List ℕ) → ℕ → List ℕ
next_word words i =
    add_words (slice_index_or words (i - 4) []) (addend i (slice_index_or words (i - 1) []))

-- the first 4 + n words
unfoldable pub schedule_words : List ℕ → ℕ → List (List ℕ)
schedule_words key zero = key_word key 0 ∷ key_word key 1 ∷ key_word key 2 ∷ key_word key 3 ∷ []
schedule_words key (suc n) = schedule_words key n ++ next_word (schedule_words key n) (n + 4) ∷ []

-- KEYEXPANSION
unfoldable pub key_expansion : List ℕ → List (List ℕ)
key_expansion key = schedule_words key 40

-- the key whose words begin a key schedule: what a `Schedule` is seen as
abbrev pub key_of : List (List ℕ) → List ℕ
key_of words =
    slice_index_or words 0 []
    ++ (slice_index_or words 1 [] ++ (slice_index_or words 2 [] ++ slice_index_or words 3 []))
