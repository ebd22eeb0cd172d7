-- The tables of the searches, as functions.
use Rattle.std.specs.Prelude.{ℕ, Bool, List, Option, Box, is_some}
use Rattle.std.specs.Option.{option_map}
use Rattle.std.specs.declared.alloc.Global.{Global}
use Rattle.text_table.specs.Tables.{value_in}
use Rattle.trace_judge.specs.declared.hashes.First.{First}
use Rattle.trace_judge.specs.declared.hashes.Hashes.{Hashes}
use Rattle.trace_judge.specs.declared.names.Names.{Names}

-- the first Hash of a digest, or none
abbrev pub first_in : Hashes → List ℕ → Option First
first_in hashes digest =
    option_map (λ (boxed : Box First Global). boxed.value) (value_in hashes.table digest)

-- the name stands in the set
abbrev pub has_name : Names → List ℕ → Bool
has_name names name = is_some (value_in names.table name)
