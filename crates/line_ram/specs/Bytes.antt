-- RAM as a list of bytes, its ranges, and where a sealed line lies in a frame.
use Rattle.std.specs.Prelude.{ℕ, ◌+◌, ◌*◌, ◌≤◌, List, ◌++◌, length, take, drop}
use Rattle.xom_base.specs.Frames.{frame_size}
use Rattle.xom_base.specs.Sizes.{line_size, page_lines}

-- how many lines a frame has: those of one page
abbrev pub frame_lines : ℕ
frame_lines = page_lines

-- where a frame has its tags, behind its ciphertexts
abbrev pub tags_offset : ℕ
tags_offset = frame_lines * line_size

-- the bytes of a range
abbrev pub bytes_at : List ℕ → ℕ → ℕ → List ℕ
bytes_at ram address count = take count (drop address ram)

-- RAM with these bytes from the address on
abbrev pub ram_with_bytes : List ℕ → ℕ → List ℕ → List ℕ
ram_with_bytes ram address bytes = take address ram ++ (bytes ++ drop (address + length bytes) ram)

-- RAM holds the range: address plus length, as whole numbers, is at most its size
abbrev pub HoldsRange : List ℕ → ℕ → ℕ → Type 0
HoldsRange ram address count = address + count ≤ length ram

-- the frame lies in RAM
abbrev pub HoldsFrame : List ℕ → ℕ → Type 0
HoldsFrame ram frame = HoldsRange ram (frame * frame_size) frame_size

-- where a frame has the ciphertext of its line of this index
abbrev pub ciphertext_place : ℕ → ℕ → ℕ
ciphertext_place frame index = frame * frame_size + line_size * index

-- where a frame has the tag of its line of this index
abbrev pub tag_place : ℕ → ℕ → ℕ
tag_place frame index = frame * frame_size + tags_offset + line_size * index

-- RAM with this ciphertext and this tag at a frame's line
abbrev pub ram_with_line : List ℕ → ℕ → ℕ → List ℕ → List ℕ → List ℕ
ram_with_line ram frame index ciphertext tag =
    ram_with_bytes (ram_with_bytes ram (ciphertext_place frame index) ciphertext) (tag_place frame index) tag
