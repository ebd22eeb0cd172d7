-- Words as bytes.
use Rattle.std.proofs.Common.{◌≡◌, ℕ, ◌<◌, ◌^◌, ◌/◌, ◌%◌, List, [], length, get_or, refl, ◌∙◌, ap}
use Rattle.std.specs.Int.{w32, to_be_bytes}
use Rattle.std.specs.Int.Bits.{bit_xor}
use Rattle.std.proofs.lemmas.Nat.{xor_mod, xor_shr}
use Rattle.std.proofs.lemmas.List.{get_or-map}
use Rattle.aes_block.specs.Columns.{words_in}
use Rattle.aes_block.specs.Keys.{add_words}

-- one byte of a sum
byte-xor : (k a b : ℕ)
    → bit_xor a b / 2 ^ k % 2 ^ 8 ≡ bit_xor (a / 2 ^ k % 2 ^ 8) (b / 2 ^ k % 2 ^ 8)
byte-xor k a b = ap (λ n. n % 2 ^ 8) (xor_shr a b k) ∙ xor_mod (a / 2 ^ k) (b / 2 ^ k) 8

-- the sum of two words is that of their bytes
pub bytes_of_sum : (a b : ℕ)
    → to_be_bytes w32 (bit_xor a b) ≡ add_words (to_be_bytes w32 a) (to_be_bytes w32 b)
unfolding add_words
bytes_of_sum a b = rw (byte-xor 24 a b, byte-xor 16 a b, byte-xor 8 a b, xor_mod a b 8) refl

-- a word of the schedule
pub word_of_schedule : (words : List ℕ) (i : ℕ) → i < length words
    → get_or (words_in words) i [] ≡ to_be_bytes w32 (get_or words i 0)
word_of_schedule words i within = get_or-map (to_be_bytes w32) words i 0 [] within
