-- A word of private memory is a word of its line, and a store within a line changes that line
-- alone.
use Rattle.std.proofs.Common.{◌≡◌, ◌≢◌, inl, inr, ℕ, ◌+◌, ◌-◌, ◌*◌, ◌/◌, ◌%◌, ◌≤◌, List, ◌++◌, length, take, drop, sym, ◌∙◌, ap, arith}
use Rattle.std.proofs.lemmas.List.{drop-append-le, drop-drop, drop-take, length-append, length-drop, length-take, length-take-le, take-append-le, take-take}
use Rattle.std.proofs.Math.Seq.{drop-append-add, take-append-add}
use Rattle.std.specs.Int.{w32, from_be_bytes}
use Rattle.mips_plain.specs.Memory.{word_at_address, written_at}
use Rattle.xom_model.specs.Guest.{word_in}
use Rattle.xom_model.specs.Holds.{line_of_bytes}
use Rattle.xom_model.proofs.Gone.{less}

-- four bytes of a line are four of the whole
inside : (xs : List ℕ) (m k : ℕ) → k + 4 ≤ 32
    → take 4 (drop k (take 32 (drop m xs))) ≡ take 4 (drop (m + k) xs)
inside xs m k fits =
    let split : 32 ≡ k + (32 - k) = omega arith in
    ap (λ n. take 4 (drop k (take n (drop m xs)))) split
    ∙ ap (take 4) (drop-take k (32 - k) (drop m xs))
    ∙ take-take 4 (32 - k) (drop k (drop m xs)) (omega arith)
    ∙ ap (take 4) (drop-drop k m xs)

-- the word that holds an address, read from the line that holds it
pub word-in_line : (bytes : List ℕ) (address : ℕ)
    → word_in (line_of_bytes bytes (address / 32)) address ≡ word_at_address bytes (address - address % 4)
word-in_line bytes address =
    ap (λ l. from_be_bytes w32 l) (inside bytes (32 * (address / 32)) ((address - address % 4) % 32)
    (omega arith)
    ∙ ap (λ n. take 4 (drop n bytes)) (let at : 32 * (address / 32) + (address - address % 4) % 32
    ≡ address - address % 4 = omega arith in at))

module _ (xs part : List ℕ) (a : ℕ) (room : a + length part ≤ length xs) where
  abbrev p : ℕ
  p = length part

  front : length (take a xs) ≡ a
  front = length-take-le a xs (omega arith)

  -- a line before it
  before : (m : ℕ) → m + 32 ≤ a → take 32 (drop m (written_at xs a part)) ≡ take 32 (drop m xs)
  before m low =
      let split : a ≡ m + (a - m) = omega arith in
      let here : drop m (take a xs) ≡ take (a - m) (drop m xs) = ap (λ n. drop m (take n xs)) split
      ∙ drop-take m (a - m) xs in
      ap (take 32) (drop-append-le m (take a xs) (part ++ drop (a + p) xs) (let f = front in
      omega arith))
      ∙ take-append-le 32 (drop m (take a xs)) (part ++ drop (a + p) xs) (let f = front in let g =
      length-drop m (take a xs) in omega arith)
      ∙ ap (take 32) here
      ∙ take-take 32 (a - m) (drop m xs) (omega arith)

  -- a line behind it
  behind : (m : ℕ) → a + p ≤ m → take 32 (drop m (written_at xs a part)) ≡ take 32 (drop m xs)
  behind m high =
      let first : m ≡ length (take a xs) + (m - a) = (let f = front in omega arith) in
      let second : m - a ≡ p + (m - a - p) = omega arith in
      let third : a + p + (m - a - p) ≡ m = omega arith in
      ap (take 32) (
      ap (λ n. drop n (written_at xs a part)) first
      ∙ drop-append-add (take a xs) (part ++ drop (a + p) xs) (m - a)
      ∙ ap (λ n. drop n (part ++ drop (a + p) xs)) second
      ∙ drop-append-add part (drop (a + p) xs) (m - a - p)
      ∙ drop-drop (m - a - p) (a + p) xs
      ∙ ap (λ n. drop n xs) third
      )

  -- its own line
  own : (m k : ℕ) → a ≡ m + k → k + p ≤ 32
      → take 32 (drop m (written_at xs a part)) ≡ written_at (take 32 (drop m xs)) k part
  own m k at fits =
      let y = drop m xs in
      let z = drop (a + p) xs in
      let front_y : length (take k y) ≡ k = length-take-le k y (let l = length-drop m xs in
      omega arith) in
      let head : drop m (take a xs) ≡ take k y = ap (λ n. drop m (take n xs)) at
      ∙ drop-take m k xs in
      let first : 32 ≡ length (take k y) + (32 - k) = (let f = front_y in omega arith) in
      let second : 32 - k ≡ p + (32 - k - p) = omega arith in
      let third : 32 ≡ (k + p) + (32 - k - p) = omega arith in
      let fourth : m + (k + p) ≡ a + p = omega arith in
      ap (take 32) (drop-append-le m (take a xs) (part ++ z) (let f = front in omega arith)
      ∙ ap (λ l. l ++ (part ++ z)) head)
      ∙ ap (λ n. take n (take k y ++ (part ++ z))) first
      ∙ take-append-add (take k y) (part ++ z) (32 - k)
      ∙ ap (λ l. take k y ++ l) (ap (λ n. take n (part ++ z)) second ∙ take-append-add part z
      (32 - k - p))
      ∙ sym (
      ap (λ l. l ++ (part ++ drop (k + p) (take 32 y))) (take-take k 32 y (omega arith))
      ∙ ap (λ l. take k y ++ (part ++ l)) (ap (λ n. drop (k + p) (take n y)) third
      ∙ drop-take (k + p) (32 - k - p) y ∙ ap (take (32 - k - p)) (drop-drop (k + p) m xs
      ∙ ap (λ n. drop n xs) fourth))
      )

  -- the line of a store that stays within its line
  pub line-stored : a % 32 + p ≤ 32
      → line_of_bytes (written_at xs a part) (a / 32) ≡ written_at (line_of_bytes xs (a / 32)) (a % 32) part
  line-stored fits = own (32 * (a / 32)) (a % 32) (omega arith) fits

  -- and every other line
  pub line-other : (line : ℕ) → a % 32 + p ≤ 32 → line ≢ a / 32
      → line_of_bytes (written_at xs a part) line ≡ line_of_bytes xs line
  line-other line fits differs = elim (less line (a / 32)) [
    | inl low ↦ before (32 * line) (omega arith)
    | inr high ↦ behind (32 * line) (omega arith)
  ]

-- the length of a line that is written stays
pub length-written : (line part : List ℕ) (k : ℕ) → k + length part ≤ length line
    → length (written_at line k part) ≡ length line
length-written line part k fits = simp (length-append, length-take, length-drop) (omega arith)
