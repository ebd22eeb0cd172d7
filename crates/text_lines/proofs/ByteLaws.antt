-- The test of two lists of bytes.
use Rattle.std.proofs.Common.{◌≡◌, ◌≢◌, ℕ, ◌<◌, true, false, List, length, ap, arith}
use Rattle.std.specs.Str.{bytes_eq}
use Rattle.std.proofs.lemmas.Bool.{false_from_ne_true}
use Rattle.std.proofs.lemmas.Slice.Eq.{bytes_eq-Decides}

-- bytes that pass the test are the same
pub same_bytes : (a b : List ℕ) → bytes_eq a b ≡ true → a ≡ b
same_bytes a b h = (bytes_eq-Decides a b).0 h

pub bytes_eq-same : (a b : List ℕ) → a ≡ b → bytes_eq a b ≡ true
bytes_eq-same a b h = (bytes_eq-Decides a b).1 h

pub bytes_eq-differ : (a b : List ℕ) → a ≢ b → bytes_eq a b ≡ false
bytes_eq-differ a b differ = false_from_ne_true (bytes_eq a b) (λ same. differ (same_bytes a b same))

-- more bytes are others
pub bytes_eq-longer : (a b : List ℕ) → length b < length a → bytes_eq a b ≡ false
bytes_eq-longer a b longer =
    bytes_eq-differ a b (λ same. let e : length a ≡ length b = ap length same in omega arith)
