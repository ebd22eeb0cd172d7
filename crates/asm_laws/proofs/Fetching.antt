-- The word of an instruction is fetched where memory has its bytes.
use Rattle.std.proofs.Common.{◌≡◌, ℕ, ◌+◌, ◌^◌, ◌<◌, List, ◌∷◌, ◌++◌, length, take, drop, slice_index, Some, refl, ap, ◌∙◌, arith, length-append}
use Rattle.std.proofs.lemmas.List.{get_or-take, get_or-drop, get_or_append_left, get_or-append-add}
use Rattle.std.proofs.lemmas.Nat.{from_be_bytes-to_be_bytes_4}
use Rattle.std.specs.Int.{w32, to_be_bytes, from_be_bytes}
use Rattle.mips_instruction.specs.declared.instruction.Ins.{Ins}
use Rattle.mips_instruction.specs.Words.{instruction_of_word, word_of}
use Rattle.mips_isa.proofs.Reading.{Word-read}
use Rattle.mips_plain.specs.Memory.{word_at_address}
use Rattle.mips_asm.specs.Encoding.{AreWords}

-- memory has these bytes at this place
abbrev pub Has : List ℕ → ℕ → List ℕ → Type 0
Has memory place own = (k : ℕ) → k < length own → slice_index memory (place + k) ≡ slice_index own k

-- numbers of four bytes are the same where their bytes are
same_number : (xs ys : List ℕ) → ((k : ℕ) → k < 4 → slice_index xs k ≡ slice_index ys k)
    → from_be_bytes w32 xs ≡ from_be_bytes w32 ys
same_number xs ys same =
    let first = same 0 (omega arith) in
    let second = same 1 (omega arith) in
    let third = same 2 (omega arith) in
    let fourth = same 3 (omega arith) in
    omega (arith, first, second, third, fourth)

-- the number of the four bytes at a place
word_there : (memory more : List ℕ) (place word : ℕ) → word < 2 ^ 32
    → Has memory place (to_be_bytes w32 word ++ more) → word_at_address memory place ≡ word
word_there memory more place word fits has =
    same_number (take 4 (drop place memory)) (to_be_bytes w32 word) each
    ∙ from_be_bytes-to_be_bytes_4 word fits
  where
    each : (k : ℕ) → k < 4
        → slice_index (take 4 (drop place memory)) k ≡ slice_index (to_be_bytes w32 word) k
    each k below =
        let whole = length-append (to_be_bytes w32 word) more in
        get_or-take 4 (drop place memory) k 0 below
        ∙ get_or-drop place memory k 0
        ∙ has k (omega (arith, whole))
        ∙ get_or_append_left (to_be_bytes w32 word) more 0 k below

-- the first of some instructions whose words stand at a place
pub read_there : (memory own : List ℕ) (place : ℕ) (i : Ins) (is : List Ins) → word_of i < 2 ^ 32
    → AreWords (i ∷ is) own → Has memory place own → instruction_of_word (word_at_address memory place) ≡ Some i
read_there memory own place i is small words has =
    ap instruction_of_word (word_there memory words.0 place (word_of i) small
    (λ k below. has k (subst_below k below) ∙ ap (λ xs. slice_index xs k) words.2))
    ∙ Word-read i (word_of i) (record { fits = words.1; word = refl })
  where
    subst_below : (k : ℕ) → k < length (to_be_bytes w32 (word_of i) ++ words.0) → k < length own
    subst_below k below = let same = ap length words.2 in omega (arith, same)

-- a word has four bytes
pub word-length : (own : List ℕ) (i : Ins) (is : List Ins) (words : AreWords (i ∷ is) own)
    → length own ≡ 4 + length words.0
word-length own i is words = ap length words.2 ∙ length-append (to_be_bytes w32 (word_of i)) words.0

-- and the rest of them stands behind it
pub rest_there : (memory own : List ℕ) (place : ℕ) (i : Ins) (is : List Ins)
    (words : AreWords (i ∷ is) own)
    → Has memory place own → Has memory (place + 4) words.0
rest_there memory own place i is words has k below =
    let same = word-length own i is words in
    let at : place + 4 + k ≡ place + (4 + k) = omega arith in
    ap (slice_index memory) at ∙ has (4 + k) (omega (arith, same))
    ∙ ap (λ xs. slice_index xs (4 + k)) words.2 ∙ get_or-append-add (to_be_bytes w32 (word_of i))
    words.0 k 0
