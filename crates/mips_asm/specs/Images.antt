-- The bytes of an image, from the bytes that the statements write.
use Rattle.std.specs.Prelude.{◌≡◌, ℕ, ◌+◌, ◌-◌, ◌<◌, ◌&&◌, nat_le, nat_lt, Bool, if◌then◌else◌, List, [], ◌∷◌, length, max, slice_index}

-- the bytes that a statement writes, from a place on
pub record PlacedBytes : Type 0 where
  pub place : ℕ
  pub bytes : List ℕ

-- one of the bytes stands at this place
abbrev pub piece_covers : PlacedBytes → ℕ → Bool
piece_covers chunk k = nat_le chunk.place k && nat_lt k (chunk.place + length chunk.bytes)

-- what stands at each place once these bytes are written at a place
abbrev pub IsOver : (place : ℕ) → (own old new : List ℕ) → Type 0
IsOver place own old new =
    (k : ℕ) → slice_index new k ≡ (if nat_le place k && nat_lt k (place + length own)
    then slice_index own (k - place) else slice_index old k)

-- the place behind its last byte, or 0 where it has none
abbrev pub chunk_end : PlacedBytes → ℕ
chunk_end chunk = if nat_lt 0 (length chunk.bytes) then chunk.place + length chunk.bytes else 0

-- the place behind the last byte of all, or 0 where there is none
unfoldable pub chunks_end : List PlacedBytes → ℕ
chunks_end [] = 0
chunks_end (chunk ∷ more) = max (chunk_end chunk) (chunks_end more)

-- what stands at a place where this byte stood, once the chunks are written
unfoldable pub byte_over : ℕ → List PlacedBytes → ℕ → ℕ
byte_over byte [] k = byte
byte_over byte (chunk ∷ more) k =
    byte_over (if piece_covers chunk k then slice_index chunk.bytes (k - chunk.place) else byte) more k

-- these are the bytes, once the chunks are written in their order over zeros
pub record IsWritten (chunks : List PlacedBytes) (bytes : List ℕ) : Type 0 where
  pub whole : length bytes ≡ chunks_end chunks
  pub each : (k : ℕ) → k < length bytes → slice_index bytes k ≡ byte_over 0 chunks k
