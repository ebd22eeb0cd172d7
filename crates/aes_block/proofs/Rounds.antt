-- Rounds, a column at a time.
use Rattle.std.proofs.Common.{◌≡◌, ℕ, ◌+◌, ◌*◌, ◌<◌, List, [], ◌∷◌, ◌++◌, ◌≤◌, length, get_or, refl, sym, ◌∙◌, ap, arith}
use Rattle.std.specs.Prelude.{slice_index}
use Rattle.std.specs.Int.{w32, to_be_bytes}
use Rattle.std.specs.Int.Bits.{bit_xor, xor_assoc}
use Rattle.std.proofs.lemmas.Nat.{xor_comm}
use Rattle.aes_block.specs.Cipher.{round_of}
use Rattle.aes_block.specs.Columns.{byte_in_row, bytes_of_columns, column_from_row_0, column_from_row_1, column_from_row_2, column_from_row_3, mixed_column, shifted_column, words_in}
use Rattle.aes_block.specs.Field.{times}
use Rattle.aes_block.specs.Keys.{add_words}
use Rattle.aes_block.specs.State.{add_round_key, mix_columns, mixed_byte, shift_rows, sub_bytes}
use Rattle.aes_block.specs.Substitution.{s_box}
use Rattle.aes_block.proofs.Words.{bytes_of_sum, word_of_schedule}

-- ---- Sums

-- the first of five goes to the end
last_to_end : (k v w x y : ℕ)
    → bit_xor (bit_xor (bit_xor (bit_xor k v) w) x) y ≡ bit_xor (bit_xor (bit_xor (bit_xor v w) x)
    y) k
last_to_end k v w x y =
    ap (λ n. bit_xor (bit_xor n x) y) (xor_assoc k v w)
    ∙ ap (λ n. bit_xor n y) (xor_assoc k (bit_xor v w) x)
    ∙ xor_assoc k (bit_xor (bit_xor v w) x) y
    ∙ xor_comm k (bit_xor (bit_xor (bit_xor v w) x) y)

-- the first of four goes to the end
turned : (v w x y : ℕ) → bit_xor (bit_xor (bit_xor v w) x) y ≡ bit_xor (bit_xor (bit_xor w x) y) v
turned v w x y =
    ap (λ n. bit_xor n y) (xor_assoc v w x)
    ∙ xor_assoc v (bit_xor w x) y
    ∙ xor_comm v (bit_xor (bit_xor w x) y)

-- ---- One column

-- a word and the columns of four bytes
summed : (key : List ℕ) (a b c d : ℕ)
    → add_words (add_words (add_words (add_words key (column_from_row_0 a)) (column_from_row_1 b))
    (column_from_row_2 c)) (column_from_row_3 d)
    ≡ add_words (mixed_byte a b c d ∷ mixed_byte b c d a ∷ mixed_byte c d a b ∷ mixed_byte d a b c ∷ []) key
unfolding add_words mixed_byte column_from_row_0 column_from_row_1 column_from_row_2 column_from_row_3
summed key a b c d =
    rw (
      last_to_end (slice_index key 0) (times 2 a) (times 3 b) c d,
      last_to_end (slice_index key 1) a (times 2 b) (times 3 c) d,
      last_to_end (slice_index key 2) a b (times 2 c) (times 3 d),
      last_to_end (slice_index key 3) (times 3 a) b c (times 2 d),
      turned a (times 2 b) (times 3 c) d,
      turned a b (times 2 c) (times 3 d),
      turned b (times 2 c) (times 3 d) a,
      ← turned (times 2 d) (times 3 a) b c,
    ) refl

-- the columns of four bytes and a round key, summed
pub column_made : (key t0 t1 t2 t3 a b c d : ℕ)
    → to_be_bytes w32 t0 ≡ column_from_row_0 (s_box (byte_in_row 0 a))
    → to_be_bytes w32 t1 ≡ column_from_row_1 (s_box (byte_in_row 1 b))
    → to_be_bytes w32 t2 ≡ column_from_row_2 (s_box (byte_in_row 2 c))
    → to_be_bytes w32 t3 ≡ column_from_row_3 (s_box (byte_in_row 3 d))
    → to_be_bytes w32 (bit_xor (bit_xor (bit_xor (bit_xor key t0) t1) t2) t3) ≡ add_words
    (mixed_column a b c d) (to_be_bytes w32 key)
unfolding add_words mixed_column mixed_byte column_from_row_0 column_from_row_1 column_from_row_2
    column_from_row_3
column_made key t0 t1 t2 t3 a b c d e0 e1 e2 e3 =
    bytes_of_sum (bit_xor (bit_xor (bit_xor key t0) t1) t2) t3
    ∙ ap (λ left. add_words left (to_be_bytes w32 t3)) (bytes_of_sum (bit_xor (bit_xor key t0) t1)
    t2)
    ∙ ap (λ left. add_words (add_words left (to_be_bytes w32 t2)) (to_be_bytes w32 t3))
    (bytes_of_sum (bit_xor key t0) t1)
    ∙ ap (λ left. add_words (add_words (add_words left (to_be_bytes w32 t1)) (to_be_bytes w32 t2))
    (to_be_bytes w32 t3)) (bytes_of_sum key t0)
    ∙ ap (λ left. add_words
    (add_words (add_words (add_words (to_be_bytes w32 key) left) (to_be_bytes w32 t1))
    (to_be_bytes w32 t2)) (to_be_bytes w32 t3)) e0
    ∙ ap (λ left. add_words
    (add_words (add_words (add_words (to_be_bytes w32 key) (column_from_row_0 (s_box (byte_in_row 0 a))))
    left) (to_be_bytes w32 t2)) (to_be_bytes w32 t3)) e1
    ∙ ap (λ left. add_words
    (add_words (add_words (add_words (to_be_bytes w32 key) (column_from_row_0 (s_box (byte_in_row 0 a))))
    (column_from_row_1 (s_box (byte_in_row 1 b)))) left) (to_be_bytes w32 t3)) e2
    ∙ ap (λ left. add_words
    (add_words (add_words (add_words (to_be_bytes w32 key) (column_from_row_0 (s_box (byte_in_row 0 a))))
    (column_from_row_1 (s_box (byte_in_row 1 b)))) (column_from_row_2 (s_box (byte_in_row 2 c)))) left) e3
    ∙ summed (to_be_bytes w32 key) (s_box (byte_in_row 0 a)) (s_box (byte_in_row 1 b)) (s_box (byte_in_row 2 c))
    (s_box (byte_in_row 3 d))

-- the S-box's values and a round key, summed
pub shifted_made : (key w a b c d k l m n : ℕ) → to_be_bytes w32 w ≡ k ∷ l ∷ m ∷ n ∷ []
    → k ≡ s_box (byte_in_row 0 a) → l ≡ s_box (byte_in_row 1 b) → m ≡ s_box (byte_in_row 2 c) → n ≡ s_box (byte_in_row 3 d)
    → to_be_bytes w32 (bit_xor w key) ≡ add_words (shifted_column a b c d) (to_be_bytes w32 key)
unfolding shifted_column
shifted_made key w a b c d k l m n made e f g h =
    bytes_of_sum w key
    ∙ ap (λ bytes. add_words bytes (to_be_bytes w32 key))
    (made ∙ ap (λ t. t ∷ l ∷ m ∷ n ∷ []) e ∙ ap (λ t. s_box (byte_in_row 0 a) ∷ t ∷ m ∷ n ∷ []) f
    ∙ ap (λ t. s_box (byte_in_row 0 a) ∷ s_box (byte_in_row 1 b) ∷ t ∷ n ∷ []) g
    ∙ ap (λ t. s_box (byte_in_row 0 a) ∷ s_box (byte_in_row 1 b) ∷ s_box (byte_in_row 2 c) ∷ t ∷ []) h)

-- ---- One round

-- the key word of a column
abbrev key_word_at : List ℕ → ℕ → List ℕ
key_word_at words i = to_be_bytes w32 (get_or words i 0)

-- a state of four columns' bytes
abbrev in_four : List ℕ → List ℕ → List ℕ → List ℕ → List ℕ
in_four p q r s =
    slice_index p 0 ∷ slice_index p 1 ∷ slice_index p 2 ∷ slice_index p 3
    ∷ slice_index q 0 ∷ slice_index q 1 ∷ slice_index q 2 ∷ slice_index q 3
    ∷ slice_index r 0 ∷ slice_index r 1 ∷ slice_index r 2 ∷ slice_index r 3
    ∷ slice_index s 0 ∷ slice_index s 1 ∷ slice_index s 2 ∷ slice_index s 3 ∷ []

-- four texts joined
abbrev joined : List ℕ → List ℕ → List ℕ → List ℕ → List ℕ
joined p q r s = p ++ (q ++ (r ++ s))

joined_same : (p q r s p' q' r' s' : List ℕ) → p ≡ p' → q ≡ q' → r ≡ r' → s ≡ s'
    → joined p q r s ≡ joined p' q' r' s'
joined_same p q r s p' q' r' s' e f g h =
    ap (λ t. joined t q r s) e ∙ ap (λ t. joined p' t r s) f ∙ ap (λ t. joined p' q' t s) g
    ∙ ap (λ t. joined p' q' r' t) h

-- the word that is added to a column
abbrev key_word_in : List ℕ → ℕ → List ℕ
key_word_in words i = get_or (words_in words) i []

-- the sum of a column and its key word, in which the key word stands among those of the schedule
keyed : (words column : List ℕ) (i w : ℕ) → i < length words
    → to_be_bytes w32 w ≡ add_words column (key_word_at words i)
    → to_be_bytes w32 w ≡ add_words column (key_word_in words i)
keyed words column i w within made =
    made ∙ ap (add_words column) (sym (word_of_schedule words i within))

-- a round key added to all columns
round_key_joined : (words : List ℕ) (round : ℕ) (p q r s : List ℕ)
    → joined (add_words p (key_word_in words (4 * round)))
    (add_words q (key_word_in words (4 * round + 1)))
    (add_words r (key_word_in words (4 * round + 2)))
    (add_words s (key_word_in words (4 * round + 3)))
    ≡ add_round_key (words_in words) round (in_four p q r s)
unfolding add_words add_round_key
round_key_joined words round p q r s =
    let first : 4 * round ≡ 4 * round + 0 = omega arith in
    ap (λ i. joined (add_words p (key_word_in words i))
    (add_words q (key_word_in words (4 * round + 1)))
    (add_words r (key_word_in words (4 * round + 2)))
    (add_words s (key_word_in words (4 * round + 3)))) first

-- so words that are sums of columns and of key words have the bytes of the state with the round key
-- added
pub keys_summed : (words : List ℕ) (round w x y z : ℕ) (p q r s : List ℕ)
    → 4 * round + 3 < length words
    → to_be_bytes w32 w ≡ add_words p (key_word_at words (4 * round))
    → to_be_bytes w32 x ≡ add_words q (key_word_at words (4 * round + 1))
    → to_be_bytes w32 y ≡ add_words r (key_word_at words (4 * round + 2))
    → to_be_bytes w32 z ≡ add_words s (key_word_at words (4 * round + 3))
    → bytes_of_columns (w ∷ x ∷ y ∷ z ∷ []) ≡ add_round_key (words_in words) round (in_four p q r s)
keys_summed words round w x y z p q r s within e f g h =
    joined_same _ _ _ _ _ _ _ _
    (keyed words p (4 * round) w (omega arith) e) (keyed words q (4 * round + 1) x (omega arith) f)
    (keyed words r (4 * round + 2) y (omega arith) g) (keyed words s (4 * round + 3) z (omega arith)
    h)
    ∙ round_key_joined words round p q r s

pub round_made : (words state : List ℕ) (round w x y z : ℕ) → 4 * round + 3 < length words
    → to_be_bytes w32 w ≡ add_words (mixed_column (slice_index state 0) (slice_index state 1)
    (slice_index state 2) (slice_index state 3)) (key_word_at words (4 * round))
    → to_be_bytes w32 x ≡ add_words (mixed_column (slice_index state 1) (slice_index state 2)
    (slice_index state 3) (slice_index state 0)) (key_word_at words (4 * round + 1))
    → to_be_bytes w32 y ≡ add_words (mixed_column (slice_index state 2) (slice_index state 3)
    (slice_index state 0) (slice_index state 1)) (key_word_at words (4 * round + 2))
    → to_be_bytes w32 z ≡ add_words (mixed_column (slice_index state 3) (slice_index state 0)
    (slice_index state 1) (slice_index state 2)) (key_word_at words (4 * round + 3))
    → bytes_of_columns (w ∷ x ∷ y ∷ z ∷ []) ≡ round_of (words_in words) round (bytes_of_columns state)
unfolding mixed_column round_of mix_columns shift_rows sub_bytes
round_made words state round w x y z within e f g h =
    keys_summed words round w x y z _ _ _ _ within e f g h

pub last_round_made : (words state : List ℕ) (w x y z : ℕ) → 44 ≤ length words
    → to_be_bytes w32 w ≡ add_words (shifted_column (slice_index state 0) (slice_index state 1)
    (slice_index state 2) (slice_index state 3)) (key_word_at words 40)
    → to_be_bytes w32 x ≡ add_words (shifted_column (slice_index state 1) (slice_index state 2)
    (slice_index state 3) (slice_index state 0)) (key_word_at words 41)
    → to_be_bytes w32 y ≡ add_words (shifted_column (slice_index state 2) (slice_index state 3)
    (slice_index state 0) (slice_index state 1)) (key_word_at words 42)
    → to_be_bytes w32 z ≡ add_words (shifted_column (slice_index state 3) (slice_index state 0)
    (slice_index state 1) (slice_index state 2)) (key_word_at words 43)
    → bytes_of_columns (w ∷ x ∷ y ∷ z ∷ []) ≡ add_round_key (words_in words) 10
    (shift_rows (sub_bytes (bytes_of_columns state)))
unfolding shifted_column shift_rows sub_bytes
last_round_made words state w x y z within e f g h =
    keys_summed words 10 w x y z _ _ _ _ (omega arith) e f g h

-- the first key, whose columns are summed word by word
pub first_made : (words state : List ℕ) → 4 ≤ length words
    → bytes_of_columns (bit_xor (slice_index state 0) (get_or words 0 0) ∷ bit_xor (slice_index state 1)
    (get_or words 1 0)
    ∷ bit_xor (slice_index state 2) (get_or words 2 0) ∷ bit_xor (slice_index state 3)
    (get_or words 3 0) ∷ [])
    ≡ add_round_key (words_in words) 0 (bytes_of_columns state)
first_made words state within =
    keys_summed words 0 _ _ _ _ _ _ _ _ (omega arith)
    (bytes_of_sum (slice_index state 0) (get_or words 0 0)) (bytes_of_sum (slice_index state 1)
    (get_or words 1 0))
    (bytes_of_sum (slice_index state 2) (get_or words 2 0)) (bytes_of_sum (slice_index state 3)
    (get_or words 3 0))
