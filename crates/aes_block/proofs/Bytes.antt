-- Bytes stay bytes: the S-box's values, the words of a schedule, the blocks that come out.
use Rattle.std.proofs.Common.{ℕ, zero, suc, ◌<◌, ◌≤◌, ◌+◌, ◌-◌, ◌*◌, ◌/◌, ◌%◌, ◌==◌, List, [], ◌∷◌, get_or, sym, arith, subst, lit<, inl, inr}
use Rattle.std.specs.Prelude.{slice_index, slice_index_or, bit_xor, if◌then◌else◌}
use Rattle.std.proofs.Math.Nat.{mod-lt}
use Rattle.std.proofs.lemmas.Nat.{xor_of_8}
use Rattle.std.proofs.lemmas.Bool.{cases_Bool, cases_lt}
use Rattle.std.proofs.lemmas.List.{get_or_append_left, get_or-append_right}
use Rattle.aes_block.specs.Cipher.{aes128, cipher, rounds_of}
use Rattle.aes_block.specs.Field.{inverse, polynomial_product, remainder, times}
use Rattle.aes_block.specs.Keys.{add_words, addend, key_expansion, key_word, next_word, power_of_x, rot_word, round_constant, schedule_words, sub_word}
use Rattle.aes_block.specs.Laws.{AreBytes, BlocksAreBytes}
use Rattle.aes_block.specs.State.{add_round_key, at, shift_rows, state_by_place, sub_bytes}
use Rattle.aes_block.specs.Substitution.{affine_bit, affine_bits, s_box}
use Rattle.aes_block.proofs.Growth.{length-words_of}

-- ---- The S-box

-- eight bits make a byte
eight_bits : (a b c d e f g h : ℕ) → a < 2 → b < 2 → c < 2 → d < 2 → e < 2 → f < 2 → g < 2 → h < 2
    → 0 + a * 1 + b * 2 + c * 4 + d * 8 + e * 16 + f * 32 + g * 64 + h * 128 < 256
eight_bits a b c d e f g h a' b' c' d' e' f' g' h' = omega arith

bit-lt : (n : ℕ) → n % 2 < 2
bit-lt n = mod-lt n (lit< tt)

affine-lt : (b : ℕ) → affine_bits 8 b < 256
unfolding affine_bits
affine-lt b = eight_bits (affine_bit b 0) (affine_bit b 1) (affine_bit b 2) (affine_bit b 3)
    (affine_bit b 4) (affine_bit b 5) (affine_bit b 6) (affine_bit b 7)
    (bit-lt _) (bit-lt _) (bit-lt _) (bit-lt _) (bit-lt _) (bit-lt _) (bit-lt _) (bit-lt _)

s_box-lt : (b : ℕ) → s_box b < 256
unfolding s_box
s_box-lt b = affine-lt (inverse b)

-- ---- Words

no_bytes : AreBytes []
no_bytes i = lit< tt

-- the same of a list, part by part
Small : List ℕ → Type 0
Small [] = Unit {0}
Small (x ∷ xs) = (x < 256) × Small xs

small-bytes : (xs : List ℕ) → Small xs → AreBytes xs
unfolding Small
small-bytes [] small i = lit< tt
small-bytes (x ∷ xs) small zero = small.0
small-bytes (x ∷ xs) small (suc i) = small-bytes xs small.1 i

four_bytes : (w x y z : ℕ) → w < 256 → x < 256 → y < 256 → z < 256 → AreBytes (w ∷ x ∷ y ∷ z ∷ [])
unfolding Small
four_bytes w x y z w' x' y' z' = small-bytes (w ∷ x ∷ y ∷ z ∷ []) (w', (x', (y', (z', tt))))

add_words-bytes : (a b : List ℕ) → AreBytes a → AreBytes b → AreBytes (add_words a b)
unfolding add_words
add_words-bytes a b left right =
    four_bytes (bit_xor (slice_index a 0) (slice_index b 0))
    (bit_xor (slice_index a 1) (slice_index b 1)) (bit_xor (slice_index a 2) (slice_index b 2))
    (bit_xor (slice_index a 3) (slice_index b 3))
    (xor_of_8 (slice_index a 0) (slice_index b 0) (left 0) (right 0))
    (xor_of_8 (slice_index a 1) (slice_index b 1) (left 1) (right 1))
    (xor_of_8 (slice_index a 2) (slice_index b 2) (left 2) (right 2))
    (xor_of_8 (slice_index a 3) (slice_index b 3) (left 3) (right 3))

sub_word-bytes : (a : List ℕ) → AreBytes (sub_word a)
unfolding sub_word
sub_word-bytes a =
    four_bytes (s_box (slice_index a 0)) (s_box (slice_index a 1)) (s_box (slice_index a 2))
    (s_box (slice_index a 3))
    (s_box-lt (slice_index a 0)) (s_box-lt (slice_index a 1)) (s_box-lt (slice_index a 2))
    (s_box-lt (slice_index a 3))

power-lt : (n : ℕ) → n < 10 → power_of_x n < 256
unfolding polynomial_product remainder times power_of_x
power-lt zero within = lit< tt
power-lt (suc zero) within = lit< tt
power-lt (suc (suc zero)) within = lit< tt
power-lt (suc (suc (suc zero))) within = lit< tt
power-lt (suc (suc (suc (suc zero)))) within = lit< tt
power-lt (suc (suc (suc (suc (suc zero))))) within = lit< tt
power-lt (suc (suc (suc (suc (suc (suc zero)))))) within = lit< tt
power-lt (suc (suc (suc (suc (suc (suc (suc zero))))))) within = lit< tt
power-lt (suc (suc (suc (suc (suc (suc (suc (suc zero)))))))) within = lit< tt
power-lt (suc (suc (suc (suc (suc (suc (suc (suc (suc zero))))))))) within = lit< tt
power-lt (suc (suc (suc (suc (suc (suc (suc (suc (suc (suc n)))))))))) within = absurd (omega arith)

round_constant-bytes : (j : ℕ) → 1 ≤ j → j ≤ 10 → AreBytes (round_constant j)
unfolding round_constant
round_constant-bytes j first last =
    four_bytes (power_of_x (j - 1)) 0 0 0 (power-lt (j - 1) (omega arith)) (lit< tt) (lit< tt)
    (lit< tt)

addend-bytes : (i : ℕ) (before : List ℕ) → 4 ≤ i → i < 44 → AreBytes before
    → AreBytes (addend i before)
unfolding addend
addend-bytes i before later known bytes =
    elim (cases_Bool (i % 4 == 0)) [
      | inl whole ↦ subst (λ b. AreBytes (if b then add_words (sub_word (rot_word before))
          (round_constant (i / 4)) else before)) (sym whole)
          (add_words-bytes (sub_word (rot_word before)) (round_constant (i / 4))
          (sub_word-bytes (rot_word before)) (round_constant-bytes (i / 4) (omega arith)
          (omega arith)))
      | inr part ↦ subst (λ b. AreBytes (if b then add_words (sub_word (rot_word before))
          (round_constant (i / 4)) else before)) (sym part) bytes
    ]

-- ---- The words of a schedule

one_word : (word : List ℕ) → AreBytes word → (i : ℕ) → AreBytes (get_or (word ∷ []) i [])
one_word word bytes zero = bytes
one_word word bytes (suc i) = no_bytes

key_word-bytes : (key : List ℕ) → AreBytes key → (i : ℕ) → AreBytes (key_word key i)
unfolding key_word
key_word-bytes key bytes i =
    four_bytes (slice_index key (4 * i)) (slice_index key (4 * i + 1)) (slice_index key (4 * i + 2))
    (slice_index key (4 * i + 3))
    (bytes (4 * i)) (bytes (4 * i + 1)) (bytes (4 * i + 2)) (bytes (4 * i + 3))

words-bytes : (key : List ℕ) → AreBytes key → (n : ℕ) → n ≤ 40 → (i : ℕ)
    → AreBytes (get_or (schedule_words key n) i [])
unfolding schedule_words next_word
words-bytes key bytes zero within zero = key_word-bytes key bytes 0
words-bytes key bytes zero within (suc zero) = key_word-bytes key bytes 1
words-bytes key bytes zero within (suc (suc zero)) = key_word-bytes key bytes 2
words-bytes key bytes zero within (suc (suc (suc zero))) = key_word-bytes key bytes 3
words-bytes key bytes zero within (suc (suc (suc (suc i)))) = no_bytes
words-bytes key bytes (suc n) within i =
    let before = schedule_words key n in
    let next = next_word before (n + 4) in
    let known : (j : ℕ) → AreBytes (get_or before j []) = words-bytes key bytes n (omega arith) in
    let added : AreBytes next = add_words-bytes (get_or before (n + 4 - 4) [])
    (addend (n + 4) (get_or before (n + 4 - 1) []))
    (known (n + 4 - 4)) (addend-bytes (n + 4) (get_or before (n + 4 - 1) []) (omega arith)
    (omega arith) (known (n + 4 - 1))) in
    elim (cases_lt i (n + 4)) [
      | inr behind ↦ subst AreBytes
          (sym (get_or-append_right before (next ∷ []) (n + 4) i [] (length-words_of key n) behind))
          (one_word next added (i - (n + 4)))
      | inl among ↦ subst AreBytes
          (sym (get_or_append_left before (next ∷ []) [] i (omega (arith, length-words_of key n))))
          (known i)
    ]

-- ---- Blocks

state-bytes : (byte : ℕ → ℕ → ℕ) → ((r c : ℕ) → byte r c < 256) → AreBytes (state_by_place byte)
unfolding Small
state-bytes byte is_byte =
    small-bytes (state_by_place byte) (
      is_byte 0 0,
      (
        is_byte 1 0,
        (
          is_byte 2 0,
          (
            is_byte 3 0,
            (
              is_byte 0 1,
              (
                is_byte 1 1,
                (
                  is_byte 2 1,
                  (
                    is_byte 3 1,
                    (
                      is_byte 0 2,
                      (
                        is_byte 1 2,
                        (
                          is_byte 2 2,
                          (
                            is_byte 3 2,
                            (is_byte 0 3, (is_byte 1 3, (is_byte 2 3, (is_byte 3 3, tt)))),
                          ),
                        ),
                      ),
                    ),
                  ),
                ),
              ),
            ),
          ),
        ),
      ),
    )

sub_bytes-bytes : (s : List ℕ) → AreBytes (sub_bytes s)
unfolding sub_bytes
sub_bytes-bytes s = state-bytes (λ r c. s_box (at s r c)) (λ r c. s_box-lt (at s r c))

shift_rows-bytes : (s : List ℕ) → AreBytes s → AreBytes (shift_rows s)
unfolding shift_rows
shift_rows-bytes s bytes =
    state-bytes (λ r c. at s r ((c + r) % 4)) (λ r c. bytes (r + 4 * ((c + r) % 4)))

add_round_key-bytes : (words : List (List ℕ)) (round : ℕ) (s : List ℕ)
    → ((i : ℕ) → AreBytes (get_or words i [])) → AreBytes s → AreBytes (add_round_key words round s)
unfolding add_round_key
add_round_key-bytes words round s keyed bytes =
    state-bytes (λ r c. bit_xor (at s r c) (slice_index (slice_index_or words (4 * round + c) [])
    r)) (λ r c. xor_of_8 (at s r c) (slice_index (slice_index_or words (4 * round + c) []) r)
    (bytes (r + 4 * c)) (keyed (4 * round + c) r))

pub blocks_are_bytes : BlocksAreBytes
unfolding aes128 cipher key_expansion
blocks_are_bytes key block bytes =
    add_round_key-bytes (schedule_words key 40) 10
    (shift_rows (sub_bytes (rounds_of (schedule_words key 40) 9 block)))
    (words-bytes key bytes 40 (omega arith))
    (shift_rows-bytes (sub_bytes (rounds_of (schedule_words key 40) 9 block))
    (sub_bytes-bytes (rounds_of (schedule_words key 40) 9 block)))
