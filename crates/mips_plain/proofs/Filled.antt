-- Bytes and the zeros behind them.
use Rattle.std.proofs.Common.{◌≡◌, ℕ, ◌+◌, ◌-◌, ◌≤◌, ◌<◌, List, [], ◌∷◌, ◌++◌, length, take, drop, replicate, refl, sym, ◌∙◌, ap, arith, length-append}
use Rattle.std.specs.Prelude.{slice_index}
use Rattle.std.proofs.lemmas.List.{get_or_append_left, get_or-append_right, get_or-replicate, length-replicate, drop_more}
use Rattle.xom_base.specs.Padded.{padded_block}
use Rattle.xom_base.proofs.PaddedLaws.{padded-more, padded-written}
use Rattle.mips_plain.specs.Memory.{low_bytes, written_at}
use Rattle.mips_plain.proofs.Stores.{length-low_bytes}

-- a byte that is used
pub byte_used : (size : ℕ) (bytes : List ℕ) (i : ℕ) → i < length bytes
    → slice_index (padded_block size bytes) i ≡ slice_index bytes i
byte_used size bytes i used = get_or_append_left bytes (replicate (size - length bytes) 0) 0 i used

-- a byte behind those
pub byte_unused : (size : ℕ) (bytes : List ℕ) (i : ℕ) → length bytes ≤ i → i < size
    → 0 ≡ slice_index (padded_block size bytes) i
byte_unused size bytes i past within =
    sym (get_or-append_right bytes (replicate (size - length bytes) 0) (length bytes) i 0 refl past
    ∙ get_or-replicate (size - length bytes) (i - length bytes) 0 0 (omega arith))

-- a store, after zeros were put behind the bytes as far as it goes
pub stored : (size address count : ℕ) (bytes part : List ℕ) → length part ≡ count
    → address + count ≤ size
    → padded_block size (written_at (bytes ++ replicate (address + count - length bytes) 0) address part)
    ≡ written_at (padded_block size bytes) address part
stored size address count bytes part long fits =
    let more : List ℕ = bytes ++ replicate (address + count - length bytes) 0 in
    padded-written size address more part
    (let l : length more ≡ length bytes + (address + count - length bytes) =
    simp (length-append, length-replicate) refl in omega arith)
    ∙ ap (λ all. written_at all address part) (padded-more size (address + count) bytes fits)

next_byte : (bytes : List ℕ) (i j : ℕ) → i + 1 ≡ j → j < length bytes
    → drop (i + 1) bytes ≡ slice_index bytes j ∷ drop (j + 1) bytes
next_byte bytes i j next small = ap (λ k. drop k bytes) next ∙ drop_more bytes j 0 small

-- a word is its four bytes
pub word_bytes : (bytes : List ℕ) (a : ℕ) → a + 4 ≤ length bytes
    → take 4 (drop a bytes) ≡ slice_index bytes a ∷ slice_index bytes (a + 1) ∷ slice_index bytes
    (a + 2) ∷ slice_index bytes (a + 3) ∷ []
word_bytes bytes a within =
    ap (take 4) (drop_more bytes a 0 (omega arith))
    ∙ ap (λ r. take 4 (slice_index bytes a ∷ r)) (next_byte bytes a (a + 1) (omega arith)
    (omega arith))
    ∙ ap (λ r. take 4 (slice_index bytes a ∷ slice_index bytes (a + 1) ∷ r))
    (next_byte bytes (a + 1) (a + 2) (omega arith) (omega arith))
    ∙ ap (λ r. take 4 (slice_index bytes a ∷ slice_index bytes (a + 1) ∷ slice_index bytes (a + 2)
    ∷ r)) (next_byte bytes (a + 2) (a + 3) (omega arith) (omega arith))

-- a store of the low bytes of a word, where names stand for the lists
pub stored_as : (size address count value used : ℕ) (old more new : List ℕ) → used ≡ length old
    → more ≡ old ++ replicate (address + count - used) 0
    → new ≡ written_at more address (low_bytes count value) → count ≤ 4 → address + count ≤ size
    → padded_block size new ≡ written_at (padded_block size old) address (low_bytes count value)
stored_as size address count value used old more new is reached put few fits =
    ap (padded_block size) (put ∙ ap (λ all. written_at all address (low_bytes count value))
    (reached ∙ ap (λ n. old ++ replicate (address + count - n) 0) is))
    ∙ stored size address count old (low_bytes count value) (length-low_bytes count value few) fits
