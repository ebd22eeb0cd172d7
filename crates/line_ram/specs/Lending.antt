-- What RAM ends as, once a `&mut` into it has ended.
use Rattle.std.specs.Prelude.{ℕ, List, length}
use Rattle.std.specs.Borrow.{Array, Fml, Lends, MutBor, u8}
use Rattle.std.specs.List.{refill}
use Rattle.line_ram.specs.Bytes.{ram_with_bytes}
use Rattle.line_ram.specs.contracts.ram.LineRam.{the_row}

-- RAM with what a loan of the range left there. A loan keeps its length, so this is `stored`
abbrev pub stored_through : List ℕ → ℕ → List ℕ → List ℕ
stored_through ram address bytes = refill (length ram) ram (ram_with_bytes ram address bytes)

-- RAM holds the last bytes written through the loan from the address on, and all else is as it was
abbrev pub LendsRange : MutBor (List ℕ) → ℕ → MutBor (List ℕ) → Fml
LendsRange ram address loan = Lends the_row (Array u8 0) ram loan (stored_through ram.now address)
