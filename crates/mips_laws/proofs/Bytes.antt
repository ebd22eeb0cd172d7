-- Words of memory as their bytes, and the bytes after a store.
use Rattle.std.proofs.Common.{◌≡◌, ℕ, ◌+◌, ◌-◌, ◌*◌, ◌^◌, ◌<◌, ◌≤◌, List, ◌++◌, All, length, get_or, take, drop, slice_index, refl, sym, ap, ◌∙◌, ⊎_elim, arith, add-zero, get_or-take, get_or-drop, length-append}
use Rattle.std.proofs.lemmas.Bool.{cases_lt}
use Rattle.std.proofs.lemmas.List.{get_or_append_left, get_or-append_right, length-take-le, get_or_past, same_lists}
use Rattle.std.proofs.lemmas.List.Elements.{All-get_or, All-append, All-take, All-drop}
use Rattle.mips_plain.specs.Memory.{word_at_address, written_at}
use Rattle.mips_plain.proofs.Stores.{length-written_at}

-- each number is one of a byte
abbrev pub AreBytes : List ℕ → Type 0
AreBytes bytes = All (λ b. b < 2 ^ 8) bytes

-- a place in a word is one of four
pub by_four : {P : Type 0} (place : ℕ) → place < 4 → (place ≡ 0 → P) → (place ≡ 1 → P)
    → (place ≡ 2 → P) → (place ≡ 3 → P) → P
by_four place below first second third fourth =
    ⊎_elim (λ (low : place < 2). ⊎_elim (λ (one : place < 1). first (omega arith))
    (λ (one : 1 ≤ place). second (omega arith)) (cases_lt place 1))
    (λ (high : 2 ≤ place). ⊎_elim (λ (three : place < 3). third (omega arith))
    (λ (three : 3 ≤ place). fourth (omega arith)) (cases_lt place 3))
    (cases_lt place 2)

-- ---- Words

-- the byte at a place of four that are read at an address
byte_read : (bytes : List ℕ) (address place : ℕ) → place < 4
    → slice_index (take 4 (drop address bytes)) place ≡ slice_index bytes (address + place)
byte_read bytes address place below =
    get_or-take 4 (drop address bytes) place 0 below ∙ get_or-drop address bytes place 0

-- a word is its four bytes, the first the highest
pub word_at-is : (bytes : List ℕ) (a : ℕ)
    → word_at_address bytes a ≡ slice_index bytes a * 2 ^ 24 + slice_index bytes (a + 1) * 2 ^
    16 + slice_index bytes (a + 2) * 2 ^ 8 + slice_index bytes (a + 3)
word_at-is bytes a =
    let first : slice_index (take 4 (drop a bytes)) 0 ≡ slice_index bytes a =
    byte_read bytes a 0 (omega arith) ∙ ap (slice_index bytes) (add-zero a) in
    let second = byte_read bytes a 1 (omega arith) in
    let third = byte_read bytes a 2 (omega arith) in
    let fourth = byte_read bytes a 3 (omega arith) in
    omega (arith, first, second, third, fourth)

-- the same, where the bytes have names
pub word_at-of : (bytes : List ℕ) (a b c d p q r s : ℕ) → a + 1 ≡ b → a + 2 ≡ c → a + 3 ≡ d
    → slice_index bytes a ≡ p → slice_index bytes b ≡ q → slice_index bytes c ≡ r
    → slice_index bytes d ≡ s
    → word_at_address bytes a ≡ p * 2 ^ 24 + q * 2 ^ 16 + r * 2 ^ 8 + s
word_at-of bytes a b c d p q r s b_is c_is d_is p_is q_is r_is s_is =
    let second : slice_index bytes (a + 1) ≡ q = ap (slice_index bytes) b_is ∙ q_is in
    let third : slice_index bytes (a + 2) ≡ r = ap (slice_index bytes) c_is ∙ r_is in
    let fourth : slice_index bytes (a + 3) ≡ s = ap (slice_index bytes) d_is ∙ s_is in
    omega (arith, word_at-is bytes a, p_is, second, third, fourth)

-- a byte of memory, also behind its end
pub byte-below : (bytes : List ℕ) (i : ℕ) → AreBytes bytes → slice_index bytes i < 2 ^ 8
byte-below bytes i small =
    ⊎_elim
    (λ (within : i < length bytes). All-get_or (λ b. b < 2 ^ 8) bytes i 0 within small)
    (λ (past : length bytes ≤ i). let none : slice_index bytes i ≡ 0 = get_or_past bytes i 0 past in
    omega (arith, none))
    (cases_lt i (length bytes))

-- a word has 32 bits
pub word_at-below : (bytes : List ℕ) (a : ℕ) → AreBytes bytes → word_at_address bytes a < 2 ^ 32
word_at-below bytes a small =
    omega (
      arith,
      word_at-is bytes a,
      byte-below bytes a small,
      byte-below bytes (a + 1) small,
      byte-below bytes (a + 2) small,
      byte-below bytes (a + 3) small,
    )

-- ---- Bytes after a store

-- before what is written
pub written-before : (bytes part : List ℕ) (a k d : ℕ) → a ≤ length bytes → k < a
    → get_or (written_at bytes a part) k d ≡ get_or bytes k d
written-before bytes part a k d room before =
    let front : length (take a bytes) ≡ a = length-take-le a bytes room in
    get_or_append_left (take a bytes) (part ++ drop (a + length part) bytes) d k
    (omega (arith, front))
    ∙ get_or-take a bytes k d before

-- in it
pub written-inside : (bytes part : List ℕ) (a k i d : ℕ) → a ≤ length bytes → a + i ≡ k
    → i < length part → get_or (written_at bytes a part) k d ≡ get_or part i d
written-inside bytes part a k i d room place inside =
    let at : k - a ≡ i = omega arith in
    get_or-append_right (take a bytes) (part ++ drop (a + length part) bytes) a k d
    (length-take-le a bytes room) (omega arith)
    ∙ ap (λ n. get_or (part ++ drop (a + length part) bytes) n d) at
    ∙ get_or_append_left part (drop (a + length part) bytes) d i inside

-- behind it
pub written-behind : (bytes part : List ℕ) (a k d : ℕ) → a ≤ length bytes → a + length part ≤ k
    → get_or (written_at bytes a part) k d ≡ get_or bytes k d
written-behind bytes part a k d room behind =
    let at : a + length part + (k - a - length part) ≡ k = omega arith in
    get_or-append_right (take a bytes) (part ++ drop (a + length part) bytes) a k d
    (length-take-le a bytes room) (omega arith)
    ∙ get_or-append_right part (drop (a + length part) bytes) (length part) (k - a) d refl
    (omega arith)
    ∙ get_or-drop (a + length part) bytes (k - a - length part) d
    ∙ ap (λ n. get_or bytes n d) at

-- bytes that are written are bytes
pub written-AreBytes : (bytes part : List ℕ) (a : ℕ) → AreBytes bytes → AreBytes part
    → AreBytes (written_at bytes a part)
written-AreBytes bytes part a small part_small =
    All-append (λ b. b < 2 ^ 8) (take a bytes) (part ++ drop (a + length part) bytes)
    (All-take (λ b. b < 2 ^ 8) a bytes small)
    (All-append (λ b. b < 2 ^ 8) part (drop (a + length part) bytes) part_small
    (All-drop (λ b. b < 2 ^ 8) (a + length part) bytes small))

-- a place is before, in or behind so many bytes at an address
by_place : {P : Type 0} (a n k : ℕ) → (k < a → P) → (a ≤ k → k < a + n → P) → (a + n ≤ k → P) → P
by_place a n k before inside behind =
    ⊎_elim before (λ (from : a ≤ k). ⊎_elim (inside from) behind (cases_lt k (a + n)))
    (cases_lt k a)

-- two parts, written one behind the other, are written as one
pub written-both : (bytes x y : List ℕ) (a b : ℕ) → a + length x ≡ b → b + length y ≤ length bytes
    → written_at (written_at bytes a x) b y ≡ written_at bytes a (x ++ y)
written-both bytes x y a b next room =
    let first : List ℕ = written_at bytes a x in
    let long : length (x ++ y) ≡ length x + length y = length-append x y in
    let first_long : length first ≡ length bytes = length-written_at bytes a x (omega arith) in
    let long_left : length (written_at first b y) ≡ length bytes = length-written_at first b y
    (omega (arith, first_long)) ∙ first_long in
    let long_right : length (written_at bytes a (x ++ y)) ≡ length bytes = length-written_at bytes a
    (x ++ y) (omega (arith, long)) in
    same_lists _ _ (long_left ∙ sym long_right) (λ k d _. by_place b (length y) k
    (λ before. by_place a (length x) k
    (λ front. written-before first y b k d (omega (arith, first_long)) before ∙ written-before bytes
    x a k d (omega arith) front
    ∙ sym (written-before bytes (x ++ y) a k d (omega arith) front))
    (λ from below. written-before first y b k d (omega (arith, first_long)) before
    ∙ written-inside bytes x a k (k - a) d (omega arith) (omega arith) (omega arith)
    ∙ sym (written-inside bytes (x ++ y) a k (k - a) d (omega arith) (omega arith)
    (omega (arith, long)) ∙ get_or_append_left x y d (k - a) (omega arith)))
    (λ past. absurd (omega arith)))
    (λ from below. written-inside first y b k (k - b) d (omega (arith, first_long)) (omega arith)
    (omega arith)
    ∙ sym (written-inside bytes (x ++ y) a k (k - a) d (omega arith) (omega arith)
    (omega (arith, long))
    ∙ get_or-append_right x y (length x) (k - a) d refl (omega arith) ∙ ap (λ n. get_or y n d)
    (omega arith)))
    (λ past. written-behind first y b k d (omega (arith, first_long)) past ∙ written-behind bytes x
    a k d (omega arith) (omega arith)
    ∙ sym (written-behind bytes (x ++ y) a k d (omega arith) (omega (arith, long)))))

-- and so they are where the second is written first
pub written-both_back : (bytes x y : List ℕ) (a b : ℕ) → a + length x ≡ b
    → b + length y ≤ length bytes
    → written_at (written_at bytes b y) a x ≡ written_at bytes a (x ++ y)
written-both_back bytes x y a b next room =
    let first : List ℕ = written_at bytes b y in
    let long : length (x ++ y) ≡ length x + length y = length-append x y in
    let first_long : length first ≡ length bytes = length-written_at bytes b y room in
    let long_left : length (written_at first a x) ≡ length bytes = length-written_at first a x
    (omega (arith, first_long)) ∙ first_long in
    let long_right : length (written_at bytes a (x ++ y)) ≡ length bytes = length-written_at bytes a
    (x ++ y) (omega (arith, long)) in
    same_lists _ _ (long_left ∙ sym long_right) (λ k d _. by_place a (length x) k
    (λ before. written-before first x a k d (omega (arith, first_long)) before
    ∙ written-before bytes y b k d (omega arith) (omega arith)
    ∙ sym (written-before bytes (x ++ y) a k d (omega arith) before))
    (λ from below. written-inside first x a k (k - a) d (omega (arith, first_long)) (omega arith)
    (omega arith)
    ∙ sym (written-inside bytes (x ++ y) a k (k - a) d (omega arith) (omega arith)
    (omega (arith, long)) ∙ get_or_append_left x y d (k - a) (omega arith)))
    (λ past. written-behind first x a k d (omega (arith, first_long)) past ∙ by_place b (length y) k
    (λ before. absurd (omega arith))
    (λ from below. written-inside bytes y b k (k - b) d (omega arith) (omega arith) (omega arith)
    ∙ sym (written-inside bytes (x ++ y) a k (k - a) d (omega arith) (omega arith)
    (omega (arith, long))
    ∙ get_or-append_right x y (length x) (k - a) d refl (omega arith) ∙ ap (λ n. get_or y n d)
    (omega arith)))
    (λ behind. written-behind bytes y b k d (omega arith) behind
    ∙ sym (written-behind bytes (x ++ y) a k d (omega arith) (omega (arith, long))))))

-- what is written again is as it was
pub written-again : (bytes x : List ℕ) (a : ℕ) → a + length x ≤ length bytes
    → written_at (written_at bytes a x) a x ≡ written_at bytes a x
written-again bytes x a room =
    let first : List ℕ = written_at bytes a x in
    let first_long : length first ≡ length bytes = length-written_at bytes a x room in
    same_lists _ _ (length-written_at first a x (omega (arith, first_long)))
    (λ k d _. by_place a (length x) k
    (λ before. written-before first x a k d (omega (arith, first_long)) before)
    (λ from below. written-inside first x a k (k - a) d (omega (arith, first_long)) (omega arith)
    (omega arith) ∙ sym (written-inside bytes x a k (k - a) d (omega arith) (omega arith)
    (omega arith)))
    (λ past. written-behind first x a k d (omega (arith, first_long)) past))
