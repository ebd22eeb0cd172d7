-- The lanes and columns of a picture: where an entry of a journal is drawn. This project's own.
use Rattle.std.specs.Prelude.{ℕ, zero, suc, ◌+◌, ◌-◌, ◌/◌, ◌==◌, Bool, true, false, List, [], ◌∷◌, Option, Some, None, filter, length, take, drop, max}
use Rattle.std.specs.List.{prefix_len}
use Rattle.xom_base.specs.declared.entry.Entry.{Entry}
use Rattle.xom_base.specs.declared.entry.Entry.TheVariants as entry

-- ---- Lanes

-- The lane that an entry is drawn in: that of its install, which has the install's number. What the
-- machine and its kernel do with memory and with the console is drawn in lane 0.
abbrev pub lane_of : Entry → ℕ
lane_of (entry.Install n slot id place begin lines) = n
lane_of (entry.Step n step) = n
lane_of (entry.Trap n why) = n
lane_of (entry.Seal key message) = 0
lane_of (entry.Accept key message place) = 0
lane_of (entry.Hash preimage digest) = 0
lane_of (entry.Stop n why) = n
lane_of (entry.Kill n) = n
lane_of (entry.Out byte) = 0

-- whether an entry is drawn in this lane
abbrev pub is_in_lane : ℕ → Entry → Bool
is_in_lane lane e = lane_of e == lane

-- the entries that are drawn in this lane, in their order
abbrev pub entries_in : ℕ → List Entry → List Entry
entries_in lane es = filter (is_in_lane lane) es

-- ---- Columns

-- whether the machine hashed a text
abbrev pub is_hash : Entry → Bool
is_hash (entry.Hash preimage digest) = true
is_hash other = false

-- and whether there is an entry that says so
abbrev pub is_some_hash : Option Entry → Bool
is_some_hash None = false
is_some_hash (Some e) = is_hash e

-- how many entries stand in a column, of a journal of so many: just one up to 100,000 entries
abbrev pub column_size : ℕ → ℕ
column_size entries = (entries - 1) / 100000 + 1

-- The length of the first column of these entries. Hashes that follow one another stand in one
-- column, however many there are.
abbrev pub column_length : ℕ → List Entry → ℕ
column_length size es = max size (prefix_len is_hash es)

-- these entries cut into columns, at most so many
abbrev pub columns_from : ℕ → ℕ → List Entry → List (List Entry)
columns_from zero size es = []
columns_from (suc most) size [] = []
columns_from (suc most) size (e ∷ es) =
    take (column_length size (e ∷ es)) (e ∷ es)
    ∷ columns_from most size (drop (column_length size (e ∷ es)) (e ∷ es))

-- all of these entries cut into columns
abbrev pub columns_by : ℕ → List Entry → List (List Entry)
columns_by size es = columns_from (length es) size es

-- the columns of a journal, from left to right
abbrev pub columns_of : List Entry → List (List Entry)
columns_of es = columns_by (column_size (length es)) es
