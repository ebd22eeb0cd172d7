-- Pieces of printed texts. This project's own.
use Rattle.std.specs.Prelude.{◌≡◌, ℕ, List, ◌++◌}
use Rattle.std.specs.Int.{w32, to_be_bytes}
use Rattle.hex.specs.Hex.{encode_lower}

-- a 32-bit number as eight hexadecimal digits, lower case
abbrev pub hex8 : ℕ → List ℕ
hex8 n = encode_lower (to_be_bytes w32 n)

-- a text stands at the front of another one
abbrev pub Begins : List ℕ → List ℕ → Type 0
Begins front text = (more : List ℕ) × (text ≡ front ++ more)
