-- Two ranges of the size of a line that are lent at once.
use Rattle.std.specs.Prelude.{ℕ, ◌+◌, ◌≤◌, List}
use Rattle.std.specs.Borrow.{Array, Fml, LendsBoth, MutBor, u8}
use Rattle.line_ram.specs.Bytes.{HoldsRange, ram_with_bytes}
use Rattle.xom_base.specs.Sizes.{line_size}

-- both places have the bytes of a line, the first ones before the second
abbrev pub IsPair : List ℕ → ℕ → ℕ → Type 0
IsPair bytes first second = (first + line_size ≤ second) × HoldsRange bytes second line_size

-- the places hold the last bytes written through the two loans, and all else is as it was
abbrev pub LendsPair : MutBor (List ℕ) → ℕ → ℕ → MutBor (List ℕ) × MutBor (List ℕ) → Fml
LendsPair bytes first second loans =
    LendsBoth (Array u8 0) (Array u8 0) (Array u8 0) bytes loans
    (λ one other. ram_with_bytes (ram_with_bytes bytes.now first one) second other)
