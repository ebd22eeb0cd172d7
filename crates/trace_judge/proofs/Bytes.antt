-- Texts that are equal byte by byte.
use Rattle.std.proofs.Common.{◌≡◌, ℕ, List, true, arith}
use Rattle.std.specs.Str.{bytes_eq}
use Rattle.std.proofs.lemmas.Slice.Eq.{bytes_eq-Decides}

-- equal bytes
pub same_bytes : (xs ys : List ℕ) → bytes_eq xs ys ≡ true → xs ≡ ys
same_bytes xs ys same = Prim.grind (arith, bytes_eq-Decides xs ys)
