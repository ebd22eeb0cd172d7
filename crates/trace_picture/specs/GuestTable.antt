-- The table of a picture's guests: what a journal records of each install. This project's own.
use Rattle.std.specs.Prelude.{ℕ, ◌+◌, ◌^◌, ◌<◌, ◌==◌, Bool, true, false, List, [], ◌∷◌, ◌++◌, Option, Some, None, codes, count_by, filter_map, if◌then◌else◌, nat_lt, nat_le, ◌&&◌}
use Rattle.std.specs.Fmt.{decimal}
use Rattle.hex.specs.Hex.{encode_lower}
use Rattle.xom_base.specs.declared.entry.Entry.{Entry}
use Rattle.xom_base.specs.declared.entry.Entry.TheVariants as entry
use Rattle.xom_base.specs.declared.key.ImageId.{ImageId}
use Rattle.xom_base.specs.declared.step.StepEnd.{StepEnd}
use Rattle.xom_base.specs.declared.step.StepEnd.TheVariants as step_end
use Rattle.journal_text.specs.JournalTexts.{journal_rule_text}
use Rattle.trace_picture.specs.declared.guests.GuestRow.{GuestRow}
use Rattle.trace_picture.specs.declared.guests.InstallEnd.{InstallEnd}
use Rattle.trace_picture.specs.declared.guests.InstallEnd.TheVariants.{Open, Ended, Stopped, Killed}

-- ---- How an install ended

-- whether a step is the last one
abbrev pub exit_in : StepEnd → InstallEnd
exit_in step_end.Goes = Open
exit_in (step_end.Call code) = Open
exit_in step_end.Exit = Ended

-- the end of this install that an entry records, or Open where it records none
abbrev pub end_told_by : ℕ → Entry → InstallEnd
end_told_by n (entry.Install install slot id place begin lines) = Open
end_told_by n (entry.Step install step) = if install == n then exit_in step.end else Open
end_told_by n (entry.Trap install why) = Open
end_told_by n (entry.Seal key message) = Open
end_told_by n (entry.Accept key message place) = Open
end_told_by n (entry.Hash preimage digest) = Open
end_told_by n (entry.Stop install rule) = if install == n then Stopped rule else Open
end_told_by n (entry.Kill install) = if install == n then Killed else Open
end_told_by n (entry.Out byte) = Open

-- the earlier of two ends, of which either may be Open
abbrev pub first_end : InstallEnd → InstallEnd → InstallEnd
first_end Open later = later
first_end end later = end

-- the first end of this install that these entries record
abbrev pub install_end : ℕ → List Entry → InstallEnd
install_end n [] = Open
install_end n (e ∷ es) = first_end (end_told_by n e) (install_end n es)

-- an end, in the words of a judge's report
abbrev pub install_end_text : InstallEnd → List ℕ
install_end_text Open = codes "open"
install_end_text Ended = codes "ended"
install_end_text (Stopped rule) = codes "stopped " ++ journal_rule_text rule
install_end_text Killed = codes "killed"

-- ---- The rows

-- whether the entry is a step of this install
abbrev pub is_step_of : ℕ → Entry → Bool
is_step_of n (entry.Step install step) = install == n
is_step_of n other = false

-- whether the entry is a trap of this install
abbrev pub is_trap_of : ℕ → Entry → Bool
is_trap_of n (entry.Trap install why) = install == n
is_trap_of n other = false

-- the row of an Install entry, with its slot and id and nothing else so far
abbrev pub fresh_row : Entry → Option GuestRow
fresh_row (entry.Install n slot id place begin lines) =
    Some (record { slot = slot; id = id; steps = 0; traps = 0; end = Open })
fresh_row other = None

-- the row with the steps, the traps and the end that these entries record of an install
abbrev pub row_with : ℕ → List Entry → GuestRow → GuestRow
row_with n es row = record {
  slot = row.slot;
  id = row.id;
  steps = count_by (is_step_of n) es;
  traps = count_by (is_trap_of n) es;
  end = install_end n es;
}

-- the same of each row, the first of which is that of this install
abbrev pub rows_with : ℕ → List Entry → List GuestRow → List GuestRow
rows_with n es [] = []
rows_with n es (row ∷ rows) = row_with n es row ∷ rows_with (n + 1) es rows

-- The rows of a journal, one for each Install entry, in their order. They are numbered from 1, as
-- installs are.
abbrev pub guest_rows : List Entry → List GuestRow
guest_rows es = rows_with 1 es (filter_map fresh_row es)

-- ---- One more entry

-- no count of the row is the largest number of 64 bits
abbrev pub IsSmall : GuestRow → Type 0
IsSmall row = (row.steps + 1 < 2 ^ 64) × (row.traps + 1 < 2 ^ 64)

-- whether this is the number of one of so many installs
abbrev pub is_install_among : ℕ → ℕ → Bool
is_install_among guests n = nat_lt 0 n && nat_le n guests

-- a row with one more entry, of this install or of another one
abbrev pub row_after : ℕ → Entry → GuestRow → GuestRow
row_after n e row = record {
  slot = row.slot;
  id = row.id;
  steps = row.steps + (if is_step_of n e then 1 else 0);
  traps = row.traps + (if is_trap_of n e then 1 else 0);
  end = first_end row.end (end_told_by n e);
}

-- the rows with one more entry, where the first of them is that of this install
abbrev pub rows_after : ℕ → Entry → List GuestRow → List GuestRow
rows_after n e [] = []
rows_after n e (row ∷ rows) = row_after n e row ∷ rows_after (n + 1) e rows

-- ---- Their texts

-- a cell with a number
abbrev pub number_cell_text : ℕ → List ℕ
number_cell_text n = codes "<td>" ++ decimal n

-- the cell of an id, in hexadecimal digits
abbrev pub id_cell_text : ImageId → List ℕ
id_cell_text id = codes "<td>" ++ encode_lower id.0

-- the row of an install, as cells of a table
abbrev pub guest_row_text : ℕ → GuestRow → List ℕ
guest_row_text n row =
    codes "<tr>" ++ (number_cell_text n ++ (number_cell_text row.slot ++ (id_cell_text row.id
    ++ (number_cell_text row.steps ++ (number_cell_text row.traps
    ++ (codes "<td>" ++ (install_end_text row.end ++ codes "\n")))))))

-- the rows from this install on
abbrev pub guest_rows_text : ℕ → List GuestRow → List ℕ
guest_rows_text n [] = []
guest_rows_text n (row ∷ rows) = guest_row_text n row ++ guest_rows_text (n + 1) rows

-- the name of an install's lane
abbrev pub lane_name_text : ℕ → List ℕ
lane_name_text n = codes "<li>guest " ++ (decimal n ++ codes "\n")

-- the names of the lanes of these rows, the first of which is that of this install
abbrev pub lane_names_text : ℕ → List GuestRow → List ℕ
lane_names_text n [] = []
lane_names_text n (row ∷ rows) = lane_name_text n ++ lane_names_text (n + 1) rows
