-- AES-128 of FIPS 197: its cipher (5.1) under the expansion of its key.
use Rattle.std.specs.Prelude.{ℕ, zero, suc, List}
use Rattle.aes_block.specs.Keys.{key_expansion}
use Rattle.aes_block.specs.State.{add_round_key, mix_columns, shift_rows, sub_bytes}

-- one of the rounds 1 to 9
unfoldable pub round_of : List (List ℕ) → ℕ → List ℕ → List ℕ
round_of words round s = add_round_key words round (mix_columns (shift_rows (sub_bytes s)))

-- the state after so many rounds, of at most 9. Before the first, round key 0 is added.
unfoldable pub rounds_of : List (List ℕ) → ℕ → List ℕ → List ℕ
rounds_of words zero block = add_round_key words 0 block
rounds_of words (suc n) block = round_of words (suc n) (rounds_of words n block)

-- CIPHER, with ten rounds, of which the last mixes no columns
unfoldable pub cipher : List (List ℕ) → List ℕ → List ℕ
cipher words block = add_round_key words 10 (shift_rows (sub_bytes (rounds_of words 9 block)))

-- AES-128
unfoldable pub aes128 : List ℕ → List ℕ → List ℕ
aes128 key block = cipher (key_expansion key) block
