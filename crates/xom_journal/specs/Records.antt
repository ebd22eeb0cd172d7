-- Entries as records of fixed size beside one block of payload bytes: keys, messages and preimages.
use Rattle.std.specs.Prelude.{ℕ, ◌≡◌, ◌+◌, ◌≤◌, List, [], ◌++◌, length, take, drop}
use Rattle.xom_base.specs.declared.entry.Entry.{Entry}
use Rattle.xom_base.specs.declared.entry.Entry.TheVariants as entry
use Rattle.xom_journal.specs.declared.record.Record.{Record}
use Rattle.xom_journal.specs.declared.record.Record.TheVariants as record_

-- so many bytes of the block, from this place on
abbrev pub part_of_block : ℕ → ℕ → List ℕ → List ℕ
part_of_block at count bytes = take count (drop at bytes)

-- the entry of a record, whose payload stands in these bytes
abbrev pub entry_at : List ℕ → Record → Entry
entry_at bytes (record_.Install n slot id place begin lines) =
    entry.Install n slot id place begin lines
entry_at bytes (record_.Step n step) = entry.Step n step
entry_at bytes (record_.Trap n cause) = entry.Trap n cause
entry_at bytes (record_.Seal at key message) =
    entry.Seal (part_of_block at key bytes) (part_of_block (at + key) message bytes)
entry_at bytes (record_.Accept at key message place) =
    entry.Accept (part_of_block at key bytes) (part_of_block (at + key) message bytes) place
entry_at bytes (record_.Hash at preimage digest) = entry.Hash (part_of_block at preimage bytes) digest
entry_at bytes (record_.Stop n rule) = entry.Stop n rule
entry_at bytes (record_.Kill n) = entry.Kill n
entry_at bytes (record_.Out byte) = entry.Out byte

-- the payload of an entry that stands in the block
abbrev pub payload : Entry → List ℕ
payload (entry.Install n slot id place begin lines) = []
payload (entry.Step n step) = []
payload (entry.Trap n cause) = []
payload (entry.Seal key message) = key ++ message
payload (entry.Accept key message place) = key ++ message
payload (entry.Hash preimage digest) = preimage
payload (entry.Stop n rule) = []
payload (entry.Kill n) = []
payload (entry.Out byte) = []

-- the record of an entry, whose payload stands from here on
abbrev pub record_at : ℕ → Entry → Record
record_at at (entry.Install n slot id place begin lines) = record_.Install n slot id place begin
    lines
record_at at (entry.Step n step) = record_.Step n step
record_at at (entry.Trap n cause) = record_.Trap n cause
record_at at (entry.Seal key message) = record_.Seal at (length key) (length message)
record_at at (entry.Accept key message place) = record_.Accept at (length key) (length message)
    place
record_at at (entry.Hash preimage digest) = record_.Hash at (length preimage) digest
record_at at (entry.Stop n rule) = record_.Stop n rule
record_at at (entry.Kill n) = record_.Kill n
record_at at (entry.Out byte) = record_.Out byte

-- the payload of the record stands within so many bytes, and isn't too long for its entry
abbrev pub IsWithin : ℕ → Record → Type 0
IsWithin size (record_.Install n slot id place begin lines) = Unit {0}
IsWithin size (record_.Step n step) = Unit {0}
IsWithin size (record_.Trap n cause) = Unit {0}
IsWithin size (record_.Seal at key message) =
    (at + key + message ≤ size) × (key ≤ 96) × (message ≤ 96)
IsWithin size (record_.Accept at key message place) =
    (at + key + message ≤ size) × (key ≤ 96) × (message ≤ 96)
IsWithin size (record_.Hash at preimage digest) = (at + preimage ≤ size) × (preimage ≤ 260)
IsWithin size (record_.Stop n rule) = Unit {0}
IsWithin size (record_.Kill n) = Unit {0}
IsWithin size (record_.Out byte) = Unit {0}

-- the block, with more bytes behind or as it was
pub record BlockExtends (old new : List ℕ) : Type 0 where
  pub more : List ℕ
  pub items : new ≡ old ++ more

-- this text stands in the block from this place on
pub record HasTextAt (at : ℕ) (text bytes : List ℕ) : Type 0 where
  pub within : at + length text ≤ length bytes
  pub same : part_of_block at (length text) bytes ≡ text
