-- Loans of a cached line's bytes.
use Rattle.std.specs.Prelude.{ℕ, List}
use Rattle.std.specs.Borrow.{Lends, MutBor, Fml, Array, u8}
use Rattle.line_cache.specs.declared.way.Way.{Way}
use Rattle.line_cache.specs.contracts.way.Way as way
use Rattle.line_cache.specs.contracts.cache.LineCache as cache
use Rattle.line_cache.specs.Ways.{Cache, cache_with_bytes, way_with_bytes}

-- the way ends with the last bytes behind the loan, still to be written back
abbrev pub LendsWay : MutBor Way → MutBor (List ℕ) → Fml
LendsWay s loan = Lends way.the_row (Array u8 32) s loan (way_with_bytes s.now)

-- the place ends with the last bytes behind the loan, still to be written back
abbrev pub LendsBytes : MutBor Cache → ℕ → MutBor (List ℕ) → Fml
LendsBytes s place loan = Lends cache.the_row (Array u8 32) s loan (cache_with_bytes s.now place)
