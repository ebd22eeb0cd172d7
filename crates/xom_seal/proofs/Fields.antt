-- Fields of fixed size, one behind the other, are told by the whole.
use Rattle.std.proofs.Common.{◌≡◌, ℕ, ◌^◌, ◌<◌, ◌==◌, List, ◌++◌, length, take, drop, refl, ap, sym, ◌∙◌}
use Rattle.std.specs.Int.{Width, w32, w64, from_be_bytes, to_be_bytes}
use Rattle.std.specs.Str.{bytes_eq}
use Rattle.std.proofs.Math.Seq.{drop-append_seam, take-append_seam}
use Rattle.std.proofs.lemmas.Bool.Decides.{Decides-eqb, Decides-like, same_from_decides}
use Rattle.std.proofs.lemmas.Nat.{from_be_bytes-to_be_bytes_4, from_be_bytes-to_be_bytes_8}
use Rattle.std.proofs.lemmas.Slice.Eq.{bytes_eq-Decides}

-- equal texts have equal fronts of one length, and equal rests behind these
pub same_parts : (xs xs' ys ys' : List ℕ) → length xs ≡ length xs' → xs ++ ys ≡ xs' ++ ys'
    → (xs ≡ xs') × (ys ≡ ys')
same_parts xs xs' ys ys' sized whole = (
  sym (take-append_seam xs ys) ∙ ap (λ text. take (length xs) text) whole
      ∙ ap (λ n. take n (xs' ++ ys')) sized ∙ take-append_seam xs' ys',
  sym (drop-append_seam xs ys) ∙ ap (λ text. drop (length xs) text) whole
      ∙ ap (λ n. drop n (xs' ++ ys')) sized ∙ drop-append_seam xs' ys',
)

-- numbers that a width holds, since each can be read again
same_numbers : (w : Width) (n m : ℕ) → from_be_bytes w (to_be_bytes w n) ≡ n
    → from_be_bytes w (to_be_bytes w m) ≡ m → to_be_bytes w n ≡ to_be_bytes w m → n ≡ m
same_numbers w n m again other same =
    sym again ∙ ap (λ bytes. from_be_bytes w bytes) same ∙ other

-- numbers of four bytes
pub same_numbers_4 : (n m : ℕ) → n < 2 ^ 32 → m < 2 ^ 32 → to_be_bytes w32 n ≡ to_be_bytes w32 m
    → n ≡ m
same_numbers_4 n m below other =
    same_numbers w32 n m (from_be_bytes-to_be_bytes_4 n below) (from_be_bytes-to_be_bytes_4 m other)

-- numbers of eight bytes
pub same_numbers_8 : (n m : ℕ) → n < 2 ^ 64 → m < 2 ^ 64 → to_be_bytes w64 n ≡ to_be_bytes w64 m
    → n ≡ m
same_numbers_8 n m below other =
    same_numbers w64 n m (from_be_bytes-to_be_bytes_8 n below) (from_be_bytes-to_be_bytes_8 m other)

-- a test of two numbers' bytes is a test of the numbers
same_test : (w : Width) (n m : ℕ) → (to_be_bytes w n ≡ to_be_bytes w m → n ≡ m)
    → bytes_eq (to_be_bytes w n) (to_be_bytes w m) ≡ (n == m)
same_test w n m same =
    same_from_decides {P = n ≡ m} (bytes_eq (to_be_bytes w n) (to_be_bytes w m)) (n == m)
    (Decides-like (bytes_eq (to_be_bytes w n) (to_be_bytes w m)) same (ap (λ k. to_be_bytes w k))
    (bytes_eq-Decides (to_be_bytes w n) (to_be_bytes w m)))
    (Decides-eqb n m)

pub same_test_4 : (n m : ℕ) → n < 2 ^ 32 → m < 2 ^ 32
    → bytes_eq (to_be_bytes w32 n) (to_be_bytes w32 m) ≡ (n == m)
same_test_4 n m below other = same_test w32 n m (same_numbers_4 n m below other)

pub same_test_8 : (n m : ℕ) → n < 2 ^ 64 → m < 2 ^ 64
    → bytes_eq (to_be_bytes w64 n) (to_be_bytes w64 m) ≡ (n == m)
same_test_8 n m below other = same_test w64 n m (same_numbers_8 n m below other)

-- a number in front of a rest
pub front_4 : (n m : ℕ) (rest other : List ℕ) → n < 2 ^ 32 → m < 2 ^ 32
    → to_be_bytes w32 n ++ rest ≡ to_be_bytes w32 m ++ other → (n ≡ m) × (rest ≡ other)
front_4 n m rest other below above whole =
    let parts = same_parts (to_be_bytes w32 n) (to_be_bytes w32 m) rest other refl whole in
    (same_numbers_4 n m below above parts.0, parts.1)

pub front_8 : (n m : ℕ) (rest other : List ℕ) → n < 2 ^ 64 → m < 2 ^ 64
    → to_be_bytes w64 n ++ rest ≡ to_be_bytes w64 m ++ other → (n ≡ m) × (rest ≡ other)
front_8 n m rest other below above whole =
    let parts = same_parts (to_be_bytes w64 n) (to_be_bytes w64 m) rest other refl whole in
    (same_numbers_8 n m below above parts.0, parts.1)
