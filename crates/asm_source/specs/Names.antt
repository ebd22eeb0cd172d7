-- The bytes of a name, which stand in it or in memory of their own.
use Rattle.std.specs.Prelude.{ℕ, ◌≤◌, List, take}
use Rattle.asm_source.specs.declared.name.NameBytes.{NameBytes}
use Rattle.asm_source.specs.declared.name.NameBytes.TheVariants.{Short, Long}

-- the bytes of the name
abbrev pub bytes_of_name : NameBytes → List ℕ
bytes_of_name (Short size bytes) = take size bytes
bytes_of_name (Long bytes) = bytes.value

-- a short name has no more bytes than there is room for
abbrev pub IsShortEnough : NameBytes → Type 0
IsShortEnough (Short size bytes) = size ≤ 14
IsShortEnough (Long bytes) = Unit {0}
