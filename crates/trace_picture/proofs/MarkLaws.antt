-- The marks of a lane stand for just its entries, each once and in their order.
use Rattle.std.proofs.Common.{◌≡◌, ℕ, suc, ◌+◌, ◌≤◌, ◌||◌, ◌==◌, Bool, true, false, cond, List, [], ◌∷◌, ◌++◌, length, take, drop, refl, sym, ap, subst, ◌∙◌, append-nil, arith}
use Rattle.std.specs.Prelude.{filter}
use Rattle.std.specs.List.{flat_map, list_any}
use Rattle.std.proofs.lemmas.Bool.{eqb-true}
use Rattle.std.proofs.lemmas.Grind.{flat_map-append}
use Rattle.std.proofs.lemmas.List.Elements.{filter-append}
use Rattle.std.proofs.lemmas.List.Folds.{list_any-append}
use Rattle.xom_base.specs.declared.entry.Entry.{Entry}
use Rattle.trace_picture.specs.Lanes.{column_size, columns_by, columns_of, entries_in, is_in_lane, lane_of}
use Rattle.trace_picture.specs.Marks.{Mark, ShowEachOnce, column_marks, is_mark_in, mark_at, mark_entries, marks_from, marks_of, shown_in}
use Rattle.trace_picture.proofs.ColumnLaws.{joined, joined-columns}

shown-append : (lane : ℕ) (ms ns : List Mark)
    → shown_in lane (ms ++ ns) ≡ shown_in lane ms ++ shown_in lane ns
shown-append lane ms ns =
    ap (flat_map mark_entries) (filter-append (is_mark_in lane) ms ns)
    ∙ flat_map-append mark_entries (filter (is_mark_in lane) ms) (filter (is_mark_in lane) ns)

-- the mark that begins with an entry, of the entry's own lane
own_shown : (column : ℕ) (before : List Entry) (e : Entry) (behind : List Entry) (seen same : Bool)
    → list_any (is_in_lane (lane_of e)) before ≡ seen → (lane_of e == lane_of e) ≡ same
    → same ≡ true
    → shown_in (lane_of e) (mark_at column before e behind)
    ≡ cond seen [] (e ∷ entries_in (lane_of e) behind)
own_shown column before e behind true same was own is = rw was refl
own_shown column before e behind false same was own is =
    rw (was, own ∙ is) (append-nil (e ∷ entries_in (lane_of e) behind))

-- and of another lane
other_shown : (column lane : ℕ) (before : List Entry) (e : Entry) (behind : List Entry)
    (seen : Bool)
    → list_any (is_in_lane (lane_of e)) before ≡ seen → (lane_of e == lane) ≡ false
    → shown_in lane (mark_at column before e behind) ≡ []
other_shown column lane before e behind true was differs = rw was refl
other_shown column lane before e behind false was differs = rw (was, differs) refl

-- what a column shows in a lane, behind entries that have this lane or don't
abbrev left_in : ℕ → Bool → List Entry → List Entry
left_in lane seen es = cond seen [] (entries_in lane es)

left_none : (lane : ℕ) (seen : Bool) → [] ≡ left_in lane seen []
left_none lane true = refl
left_none lane false = refl

-- the entry is in the lane, and what follows is in its mark
with_own : (lane : ℕ) (e : Entry) (es : List Entry) (seen : Bool) → is_in_lane lane e ≡ true
    → cond seen [] (e ∷ entries_in lane es) ++ left_in lane (seen || (true || false)) es
    ≡ left_in lane seen (e ∷ es)
with_own lane e es true own = refl
with_own lane e es false own = rw own (append-nil (e ∷ entries_in lane es))

with_other : (lane : ℕ) (e : Entry) (es : List Entry) (seen : Bool) → is_in_lane lane e ≡ false
    → left_in lane (seen || (false || false)) es ≡ left_in lane seen (e ∷ es)
with_other lane e es true differs = refl
with_other lane e es false differs = rw differs refl

-- an entry's mark, and what the rest of the column shows
one_more : (column lane : ℕ) (before : List Entry) (e : Entry) (es : List Entry) (own : Bool)
    → is_in_lane lane e ≡ own
    → shown_in lane (mark_at column before e es)
    ++ left_in lane (list_any (is_in_lane lane) before || (own || false)) es
    ≡ left_in lane (list_any (is_in_lane lane) before) (e ∷ es)
one_more column lane before e es true own =
    let same : lane_of e ≡ lane = eqb-true (lane_of e) lane own in
    let shown : shown_in lane (mark_at column before e es)
    ≡ cond (list_any (is_in_lane lane) before) [] (e ∷ entries_in lane es) =
    subst (λ l. shown_in l (mark_at column before e es)
    ≡ cond (list_any (is_in_lane l) before) [] (e ∷ entries_in l es)) same
    (own_shown column before e es (list_any (is_in_lane (lane_of e)) before)
    (lane_of e == lane_of e) refl refl (subst (λ l. (lane_of e == l) ≡ true) (sym same) own)) in
    ap (λ (front : List Entry). front ++ left_in lane (list_any (is_in_lane lane) before
    || (true || false)) es) shown
    ∙ with_own lane e es (list_any (is_in_lane lane) before) own
one_more column lane before e es false differs =
    ap (λ (front : List Entry). front ++ left_in lane (list_any (is_in_lane lane) before
    || (false || false)) es)
    (other_shown column lane before e es (list_any (is_in_lane (lane_of e)) before) refl differs)
    ∙ with_other lane e es (list_any (is_in_lane lane) before) differs

pub column_shown : (column lane : ℕ) (before es : List Entry)
    → shown_in lane (column_marks column before es)
    ≡ left_in lane (list_any (is_in_lane lane) before) es
column_shown column lane before [] = left_none lane (list_any (is_in_lane lane) before)
column_shown column lane before (e ∷ es) =
    shown-append lane (mark_at column before e es) (column_marks column (before ++ e ∷ []) es)
    ∙ ap (λ (rest : List Entry). shown_in lane (mark_at column before e es) ++ rest)
    (column_shown column lane (before ++ e ∷ []) es
    ∙ ap (λ seen. left_in lane seen es) (list_any-append (is_in_lane lane) before (e ∷ [])))
    ∙ one_more column lane before e es (is_in_lane lane e) refl

pub columns_shown : (column lane : ℕ) (columns : List (List Entry))
    → shown_in lane (marks_from column columns) ≡ entries_in lane (joined columns)
columns_shown column lane [] = refl
columns_shown column lane (es ∷ columns) =
    shown-append lane (column_marks column [] es) (marks_from (column + 1) columns)
    ∙ ap (λ (front : List Entry). front ++ shown_in lane (marks_from (column + 1) columns))
    (column_shown column lane [] es)
    ∙ ap (λ (rest : List Entry). entries_in lane es ++ rest)
    (columns_shown (column + 1) lane columns)
    ∙ sym (filter-append (is_in_lane lane) es (joined columns))

pub show_each_once : (es : List Entry) → ShowEachOnce es (marks_of es)
show_each_once es lane =
    columns_shown 0 lane (columns_of es)
    ∙ ap (entries_in lane)
    (joined-columns (length es) (column_size (length es)) es (omega arith) (omega arith))
