-- What whoever writes ranges may know of the bytes that are there afterwards.
use Rattle.std.specs.Prelude.{◌≡◌, ◌⊎◌, ℕ, ◌+◌, ◌*◌, ◌≤◌, ◌<◌, List, length}
use Rattle.xom_base.specs.Frames.{frame_size}
use Rattle.line_ram.specs.Bytes.{HoldsFrame, HoldsRange, bytes_at, frame_lines, ram_with_bytes, ram_with_line, tags_offset}
use Rattle.xom_base.specs.Sizes.{line_size}
use Rattle.line_ram.specs.Lending.{stored_through}

-- the first range ends before the second begins, or behind it
abbrev pub AreApart : ℕ → ℕ → ℕ → ℕ → Type 0
AreApart address count other length = (address + count ≤ other) ⊎ (other + length ≤ address)

-- what was stored is read again
abbrev pub StoredIsRead : Type 0
StoredIsRead =
    (ram bytes : List ℕ) (address : ℕ) → HoldsRange ram address (length bytes)
    → bytes_at (ram_with_bytes ram address bytes) address (length bytes) ≡ bytes

-- a range apart from it is read as before
abbrev pub OthersStay : Type 0
OthersStay = (ram bytes : List ℕ) (address other count : ℕ) → HoldsRange ram address (length bytes)
    → AreApart address (length bytes) other count
    → bytes_at (ram_with_bytes ram address bytes) other count ≡ bytes_at ram other count

-- the size stays
abbrev pub SizeStays : Type 0
SizeStays =
    (ram bytes : List ℕ) (address : ℕ) → HoldsRange ram address (length bytes)
    → length (ram_with_bytes ram address bytes) ≡ length ram

-- a range in which some bytes were stored, put back, is RAM in which they were stored
abbrev pub StoredInside : Type 0
StoredInside = (ram bytes : List ℕ) (address count place : ℕ) → HoldsRange ram address count
    → place + length bytes ≤ count
    → ram_with_bytes ram address (ram_with_bytes (bytes_at ram address count) place bytes) ≡ ram_with_bytes ram
    (address + place) bytes

-- the bytes of a frame with a ciphertext and a tag at a line
abbrev pub frame_with_line : List ℕ → ℕ → List ℕ → List ℕ → List ℕ
frame_with_line bytes index ciphertext tag =
    ram_with_bytes (ram_with_bytes bytes (line_size * index) ciphertext) (tags_offset + line_size * index) tag

-- a frame in which a line was written through its two loans, put back, is RAM with that line
abbrev pub LinesAreLent : Type 0
LinesAreLent = (ram ciphertext tag : List ℕ) (frame index : ℕ)
    → HoldsFrame ram frame → index < frame_lines → length ciphertext ≡ line_size
    → length tag ≡ line_size
    → let bytes = bytes_at ram (frame * frame_size) frame_size in
    stored_through ram (frame * frame_size) (frame_with_line bytes index ciphertext tag)
    ≡ ram_with_line ram frame index ciphertext tag
