-- Where the labels and statements of a source stand, and how many bytes each writes.
use Rattle.std.specs.Prelude.{◌≡◌, ℕ, ◌+◌, ◌-◌, ◌*◌, ◌%◌, ◌^◌, ◌<◌, ◌≤◌, Bool, ◌&&◌, nat_lt, nat_le, if◌then◌else◌, List, [], ◌∷◌, length, max}
use Rattle.xom_base.specs.Sizes.{window_size}
use Rattle.asm_tokens.specs.declared.integers.Integer.{Integer}
use Rattle.asm_source.specs.declared.content.Content.{Content}
use Rattle.asm_source.specs.declared.content.Content.TheVariants.{Label, Words, Bytes, Ascii, Space, Align, Org, Entry, LoadNumber, LoadAddress, Instruction}
use Rattle.asm_source.specs.declared.content.Part.{Part}
use Rattle.mips_asm.specs.Places.{Placed}

-- the number is from -low to high
abbrev pub in_range : (low high : ℕ) → Integer → Bool
in_range low high n = if n.negative then nat_le n.magnitude low else nat_le n.magnitude high

-- `li` makes one instruction of a number from -32768 to 65535, and else two
abbrev pub takes_one_word : Integer → Bool
takes_one_word n = in_range 32768 65535 n

-- how many bytes lead from a place to the next multiple of 2^n; an n above 12 is out of its range,
-- and writes nothing
abbrev pub padding : ℕ → ℕ → ℕ
padding n place = if nat_le n 12 then (2 ^ n - place % 2 ^ n) % 2 ^ n else 0

-- how many bytes a label or a statement writes at a place
unfoldable pub statement_size : ℕ → Content → ℕ
statement_size place (Label name) = 0
statement_size place (Words values) = 4 * length values
statement_size place (Bytes numbers) = length numbers
statement_size place (Ascii bytes) = length bytes
statement_size place (Space n) = n
statement_size place (Align n) = padding n place
statement_size place (Org n) = 0
statement_size place (Entry value) = 0
statement_size place (LoadNumber r n) = if takes_one_word n then 4 else 8
statement_size place (LoadAddress r name) = 8
statement_size place (Instruction name arguments) = 4

-- the next place behind what stands at a place
unfoldable pub place_after : ℕ → Content → ℕ
place_after place (Org n) = n
place_after place content = place + statement_size place content

-- Each label and statement with the place at which it stands and its size. A label stands where the
-- next statement would.
unfoldable pub layout : ℕ → List Part → List Placed
layout place [] = []
layout place (part ∷ parts) =
    record { place = place; size = statement_size place part.content; part = part }
    ∷ layout (place_after place part.content) parts

-- the bytes that an image may have
abbrev pub limit : ℕ
limit = window_size

-- it writes a byte at this place
abbrev pub covers : Placed → ℕ → Bool
covers placed k = nat_le placed.place k && nat_lt k (placed.place + placed.size)

-- it writes a byte past the limit
abbrev pub is_too_long : Placed → Bool
is_too_long placed = nat_lt 0 placed.size && nat_lt limit (placed.place + placed.size)

-- all that it writes is within the limit
abbrev pub IsInsideImage : Placed → Type 0
IsInsideImage placed = 0 < placed.size → placed.place + placed.size ≤ limit

-- the place behind its last byte, or 0 where it writes none
abbrev pub statement_end : Placed → ℕ
statement_end placed = if nat_lt 0 placed.size then placed.place + placed.size else 0

-- the place behind the last byte that is written, or 0 where none is
unfoldable pub last_end : List Placed → ℕ
last_end [] = 0
last_end (placed ∷ more) = max (statement_end placed) (last_end more)

-- its size is that of what stands there
abbrev pub IsSized : Placed → Type 0
IsSized placed = placed.size ≡ statement_size placed.place placed.part.content
