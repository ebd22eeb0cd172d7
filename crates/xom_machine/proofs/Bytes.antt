-- A byte of RAM, read as a range of one.
use Rattle.std.proofs.Common.{◌≡◌, ℕ, zero, suc, ◌+◌, ◌≤◌, List, [], ◌∷◌, length, take, drop, get_or, slice_get, Some, refl, arith}

pub byte_at : (ram : List ℕ) (address d : ℕ) → address + 1 ≤ length ram
    → Some (get_or (take 1 (drop address ram)) 0 d) ≡ slice_get ram address
byte_at [] address d inside = absurd (omega (arith, inside))
byte_at (byte ∷ ram) zero d inside = refl
byte_at (byte ∷ ram) (suc address) d inside = byte_at ram address d (omega (arith, inside))
