-- The marks of a picture. A mark stands for the entries of one lane in one column. This project's own.
use Rattle.std.specs.Prelude.{◌≡◌, ℕ, ◌+◌, ◌==◌, nat_lt, Bool, List, [], ◌∷◌, ◌++◌, codes, filter, if◌then◌else◌}
use Rattle.std.specs.List.{flat_map, list_any}
use Rattle.std.specs.Fmt.{decimal}
use Rattle.xom_base.specs.declared.entry.Entry.{Entry}
use Rattle.xom_base.specs.declared.entry.Entry.TheVariants as entry
use Rattle.journal_text.specs.JournalTexts.{journal_line_text}
use Rattle.trace_picture.specs.Lanes.{columns_of, entries_in, is_in_lane, lane_of}

-- the column, counted from 0 on the left, the lane, the first entry, and the other ones
pub record Mark : Type 0 where
  pub column : ℕ
  pub lane : ℕ
  pub first : Entry
  pub others : List Entry

-- all entries of a mark
abbrev pub mark_entries : Mark → List Entry
mark_entries m = m.first ∷ m.others

-- ---- The marks of a journal

-- the mark that begins with an entry of a column, where none before it is in the same lane
abbrev pub mark_at : ℕ → List Entry → Entry → List Entry → List Mark
mark_at column before e behind =
    if list_any (is_in_lane (lane_of e)) before then []
    else record {
      column = column;
      lane = lane_of e;
      first = e;
      others = entries_in (lane_of e) behind;
    } ∷ []

-- the marks of what is left of a column behind these entries
abbrev pub column_marks : ℕ → List Entry → List Entry → List Mark
column_marks column before [] = []
column_marks column before (e ∷ es) =
    mark_at column before e es ++ column_marks column (before ++ e ∷ []) es

-- the marks of these columns, the first of which has this number
abbrev pub marks_from : ℕ → List (List Entry) → List Mark
marks_from column [] = []
marks_from column (es ∷ columns) = column_marks column [] es ++ marks_from (column + 1) columns

-- the marks of a journal, column by column
abbrev pub marks_of : List Entry → List Mark
marks_of es = marks_from 0 (columns_of es)

-- ---- What they show

-- whether a mark stands in this lane
abbrev pub is_mark_in : ℕ → Mark → Bool
is_mark_in lane m = m.lane == lane

-- the entries that the marks of a lane stand for, from left to right
abbrev pub shown_in : ℕ → List Mark → List Entry
shown_in lane marks = flat_map mark_entries (filter (is_mark_in lane) marks)

-- The marks of each lane stand for just the entries of this lane, each once and in their order. So
-- each entry of the journal has one mark, in its lane, and there is no other mark.
abbrev pub ShowEachOnce : List Entry → List Mark → Type 0
ShowEachOnce es marks = (lane : ℕ) → shown_in lane marks ≡ entries_in lane es

-- ---- Their text

-- how much an entry tells beside others of its mark
abbrev pub weight_of : Entry → ℕ
weight_of (entry.Install n slot id place begin lines) = 6
weight_of (entry.Step n step) = 0
weight_of (entry.Trap n why) = 5
weight_of (entry.Seal key message) = 2
weight_of (entry.Accept key message place) = 3
weight_of (entry.Hash preimage digest) = 1
weight_of (entry.Stop n why) = 8
weight_of (entry.Kill n) = 7
weight_of (entry.Out byte) = 4

-- of two entries the one that tells more, the first where they tell the same
abbrev pub telling_of_two : Entry → Entry → Entry
telling_of_two e other = if nat_lt (weight_of e) (weight_of other) then other else e

-- the entry that tells most of a mark, by which it is drawn
abbrev pub telling_of : Entry → List Entry → Entry
telling_of e [] = e
telling_of e (other ∷ es) = telling_of (telling_of_two e other) es

-- what an entry is drawn as: a class of the page's style
abbrev pub class_text : Entry → List ℕ
class_text (entry.Install n slot id place begin lines) = codes "install"
class_text (entry.Step n step) = codes "step"
class_text (entry.Trap n why) = codes "trap"
class_text (entry.Seal key message) = codes "seal"
class_text (entry.Accept key message place) = codes "accept"
class_text (entry.Hash preimage digest) = codes "hash"
class_text (entry.Stop n why) = codes "stop"
class_text (entry.Kill n) = codes "kill"
class_text (entry.Out byte) = codes "out"

-- how far below the upper edge of its lane an entry's mark begins, in hundredths of the lane
abbrev pub drop_text : Entry → List ℕ
drop_text (entry.Install n slot id place begin lines) = codes ".05"
drop_text (entry.Step n step) = codes ".35"
drop_text (entry.Trap n why) = codes ".15"
drop_text (entry.Seal key message) = codes ".10"
drop_text (entry.Accept key message place) = codes ".55"
drop_text (entry.Hash preimage digest) = codes ".40"
drop_text (entry.Stop n why) = codes ".05"
drop_text (entry.Kill n) = codes ".05"
drop_text (entry.Out byte) = codes ".25"

-- the rectangle of a mark in this column and this lane, drawn as this entry
abbrev pub rectangle_text : ℕ → ℕ → Entry → List ℕ
rectangle_text column lane e =
    codes "<rect class=\"" ++ (class_text e ++ (codes "\" x=\"" ++ (decimal column
    ++ (codes "\" y=\"" ++ (decimal lane ++ (drop_text e ++ codes "\"><title>"))))))

-- a mark: its rectangle with the journal's lines of its entries as the title
abbrev pub mark_text : Mark → List ℕ
mark_text m =
    rectangle_text m.column m.lane (telling_of m.first m.others)
    ++ (journal_line_text m.first
    ++ (flat_map journal_line_text m.others ++ codes "</title></rect>\n"))
