-- What names hold, as a finite map from the bytes of each name to its bytes. It is this project's
-- own.
use Rattle.std.specs.Prelude.{ℕ, List, map, String, string_bytes}
use Rattle.std.specs.Ordering.{nat_cmp}
use Rattle.std.specs.Cmp.Lexicographic.{slice_cmp}
use Rattle.std.specs.FinMap.{FinMap, from_entries}
use Rattle.std.specs.BTreeMap.{BTreeMap}
use Rattle.std.specs.declared.alloc.Global.{Global}

-- names in the order of their bytes
abbrev pub Named : Type 0
Named = FinMap (slice_cmp nat_cmp) (List ℕ)

-- the map of an ordered list of names
abbrev pub names_of_map : BTreeMap (String Global) (List ℕ) → Named
names_of_map files = from_entries (map (λ file. (string_bytes file.0, file.1)) files.entries)
