-- The journal as a list of entries, with a number of bytes that are spare for more.
use Rattle.std.specs.Prelude.{ℕ, ◌+◌, ◌-◌, List, [], ◌∷◌, ◌++◌, length}
use Rattle.xom_base.specs.declared.entry.Entry.{Entry}
use Rattle.xom_base.specs.declared.entry.Entry.TheVariants as entry

-- the entries, and how many bytes are spare
pub record Log : Type 0 where
  pub entries : List Entry
  pub spare : ℕ

-- what an entry costs: its payload bytes, where a digest has 32, and 48 more
abbrev pub cost : Entry → ℕ
cost (entry.Install n slot id place begin lines) = 48
cost (entry.Step n step) = 48
cost (entry.Trap n cause) = 48
cost (entry.Seal key message) = 48 + (length key + length message)
cost (entry.Accept key message place) = 48 + (length key + length message)
cost (entry.Hash preimage digest) = 48 + (length preimage + 32)
cost (entry.Stop n rule) = 48
cost (entry.Kill n) = 48
cost (entry.Out byte) = 48

-- the journal with one more entry
abbrev pub log_with_entry : Log → Entry → Log
log_with_entry log entry = record { entries = log.entries ++ entry ∷ []; spare = log.spare - cost entry }
