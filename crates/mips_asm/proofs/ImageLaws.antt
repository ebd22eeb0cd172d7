-- Bytes of an image, one chunk after another.
use Rattle.std.proofs.Common.{◌≡◌, ℕ, ◌-◌, cond, List, [], ◌∷◌, ◌++◌, get_or, max, refl, arith}
use Rattle.mips_asm.specs.Images.{PlacedBytes, byte_over, chunk_end, chunks_end, piece_covers}

-- bytes at a place
abbrev pub chunk_at : ℕ → List ℕ → PlacedBytes
chunk_at place bytes = record { place = place; bytes = bytes }

-- one more chunk's end
pub chunks_end-push : (xs : List PlacedBytes) (x : PlacedBytes)
    → chunks_end (xs ++ x ∷ []) ≡ max (chunks_end xs) (chunk_end x)
unfolding chunks_end
chunks_end-push [] x = grind arith
chunks_end-push (y ∷ xs) x = rw (chunks_end-push xs x) (grind arith)

pub chunks_end_none : chunks_end [] ≡ 0
unfolding chunks_end
chunks_end_none = refl

-- what stands at a place, with one more chunk
pub byte_over-push : (byte : ℕ) (xs : List PlacedBytes) (x : PlacedBytes) (k : ℕ)
    → byte_over byte (xs ++ x ∷ []) k ≡ cond (piece_covers x k) (get_or x.bytes (k - x.place) 0)
    (byte_over byte xs k)
unfolding byte_over
byte_over-push byte [] x k = refl
byte_over-push byte (y ∷ xs) x k =
    byte_over-push (cond (piece_covers y k) (get_or y.bytes (k - y.place) 0) byte) xs x k

pub byte_over_nil : (byte k : ℕ) → byte_over byte [] k ≡ byte
unfolding byte_over
byte_over_nil byte k = refl
