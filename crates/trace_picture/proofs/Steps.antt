-- Steps of loops that add to a text, and of loops over a journal's columns.
use Rattle.std.proofs.Common.{◌≡◌, ℕ, suc, ◌+◌, ◌-◌, ◌<◌, ◌≤◌, inl, inr, Bool, true, false, cond, List, [], ◌∷◌, ◌++◌, Option, Some, None, Result, Ok, Err, length, take, drop, get_or, refl, sym, ap, subst, ◌∙◌, append_assoc, append-nil, arith}
use Rattle.std.specs.Prelude.{OnOk, min, slice_get}
use Rattle.std.specs.List.{flat_map, list_any, prefix_len}
use Rattle.std.specs.Option.{option_to_list}
use Rattle.std.proofs.lemmas.Grind.{flat_map-append}
use Rattle.std.proofs.lemmas.List.{drop-drop, drop_all, drop_more, length-drop, take_more}
use Rattle.std.proofs.lemmas.Option.{slice_get_cases, slice_get_within}
use Rattle.xom_base.specs.declared.entry.Entry.{Entry}
use Rattle.xom_base.specs.declared.list.NoMemory.{NoMemory}
use Rattle.xom_journal.proofs.PlaceLaws.{behind_some, past_end}
use Rattle.journal_text.specs.JournalTexts.{journal_line_text}
use Rattle.trace_picture.specs.GuestTable.{lane_name_text, lane_names_text}
use Rattle.trace_picture.specs.declared.guests.GuestRow.{GuestRow}
use Rattle.trace_picture.specs.Lanes.{column_length, columns_by, entries_in, is_hash, is_in_lane, is_some_hash, lane_of}
use Rattle.trace_picture.specs.Marks.{column_marks, mark_at, mark_text, marks_from, telling_of, telling_of_two}
use Rattle.trace_picture.proofs.ColumnLaws.{columns-next, long_enough}

-- a piece was added, which stood in front of what is left
pub text_on : {A : Type 0} (old new piece left rest whole : List A) → new ≡ old ++ piece
    → rest ≡ piece ++ left → old ++ rest ≡ whole → new ++ left ≡ whole
text_on {A} old new piece left rest whole is more all =
    ap (λ (t : List A). t ++ left) is ∙ append_assoc old piece left
    ∙ ap (λ (t : List A). old ++ t) (sym more) ∙ all

-- the first item of what is left
pub first_behind : {A : Type 0} (xs : List A) (i : ℕ) → i < length xs
    → (x : A) × (drop i xs ≡ x ∷ drop (i + 1) xs)
first_behind [] i within = absurd (omega (arith, within))
first_behind (x ∷ xs) i within = (get_or (x ∷ xs) i x, drop_more (x ∷ xs) i x within)

-- there is an item at a place that is within
pub some_within : {A : Type 0} (xs : List A) (i : ℕ) → i < length xs
    → (x : A) × (slice_get xs i ≡ Some x)
some_within xs i within = elim (slice_get_cases xs i).1 [
  | inl one ↦ (one.0, one.2)
  | inr past ↦ absurd (omega (arith, past.0, within))
]

-- the entries up to a place, with one more
pub entries_on : (es : List Entry) (i n : ℕ) (e : Entry) (list new whole : List Entry)
    → slice_get es i ≡ Some e → i < n → new ≡ list ++ e ∷ []
    → list ++ take (n - i) (drop i es) ≡ whole
    → new ++ take (n - (i + 1)) (drop (i + 1) es) ≡ whole
entries_on es i n e list new whole some below is all =
    let on : n - i ≡ suc (n - (i + 1)) = omega (arith, below) in
    text_on list new (e ∷ []) (take (n - (i + 1)) (drop (i + 1) es)) (take (n - i) (drop i es)) whole
    is (ap (λ k. take k (drop i es)) on ∙ ap (take (suc (n - (i + 1)))) (behind_some es i e some)) all

-- the same of the entry at a place that is within
pub option_on : (es : List Entry) (i n : ℕ) (list new whole : List Entry) → i < length es → i < n
    → new ≡ list ++ option_to_list (slice_get es i) → list ++ take (n - i) (drop i es) ≡ whole
    → new ++ take (n - (i + 1)) (drop (i + 1) es) ≡ whole
option_on es i n list new whole within below is all =
    let some = some_within es i within in
    entries_on es i n some.0 list new whole some.1 below
    (is ∙ ap (λ o. list ++ option_to_list o) some.1) all

-- ---- Columns

module _ (es : List Entry) (size start k : ℕ) (some : 1 ≤ size) (below : start < length es)
    (is : k ≡ min (column_length size (drop start es)) (length (drop start es))) where
  pub column_some : 1 ≤ k
  column_some =
      let left = length-drop start es in let least = long_enough size (drop start es) some in
      omega (arith, left, least, is, below)

  pub column_within : start + k ≤ length es
  column_within = let left = length-drop start es in omega (arith, left, is, below)

  pub columns_on : columns_by size (drop start es)
      ≡ take k (drop start es) ∷ columns_by size (drop (start + k) es)
  columns_on =
      let left = length-drop start es in
      columns-next size k (drop start es) some (omega (arith, left, below)) is
      ∙ ap (λ (rest : List Entry). take k (drop start es) ∷ columns_by size rest)
      (drop-drop k start es)

-- the marks of the first column, and those of the columns behind it
pub marks_on : (column : ℕ) (all behind : List (List Entry)) (first : List Entry)
    → all ≡ first ∷ behind
    → flat_map mark_text (marks_from column all)
    ≡ flat_map mark_text (column_marks column [] first)
    ++ flat_map mark_text (marks_from (column + 1) behind)
marks_on column all behind first is =
    ap (λ (c : List (List Entry)). flat_map mark_text (marks_from column c)) is
    ∙ flat_map-append mark_text (column_marks column [] first) (marks_from (column + 1) behind)

-- ---- Hashes

some_hash : (o : Option Entry) → is_some_hash o ≡ true → (e : Entry) × (o ≡ Some e)
    × (is_hash e ≡ true)
some_hash None is = absurd (cc)
some_hash (Some e) is = (e, refl, is)

-- one hash more
pub hash_on : (es : List Entry) (at : ℕ) → is_some_hash (slice_get es at) ≡ true
    → (at < length es) × (prefix_len is_hash (drop at es) ≡ 1 + prefix_len is_hash (drop (at + 1) es))
hash_on es at is =
    let found = some_hash (slice_get es at) is in (
      slice_get_within es at found.0 found.1,
      ap (prefix_len is_hash) (behind_some es at found.0 found.1)
          ∙ ap (λ b. cond b (1 + prefix_len is_hash (drop (at + 1) es)) 0) found.2,
    )

end_by : (es : List Entry) (at : ℕ) (o : Option Entry) → slice_get es at ≡ o
    → is_some_hash o ≡ false → prefix_len is_hash (drop at es) ≡ 0
end_by es at None none is = rw (drop_all at es (past_end es at none)) refl
end_by es at (Some e) some is =
    ap (prefix_len is_hash) (behind_some es at e some)
    ∙ ap (λ b. cond b (1 + prefix_len is_hash (drop (at + 1) es)) 0) is

-- no hash more
pub hash_end : (es : List Entry) (at : ℕ) → is_some_hash (slice_get es at) ≡ false
    → prefix_len is_hash (drop at es) ≡ 0
hash_end es at is = end_by es at (slice_get es at) refl is

-- ---- Entries of one column

-- the mark that begins with the next entry, and the marks behind it
pub column_on : (column i : ℕ) (es : List Entry) (d : Entry) → i < length es
    → flat_map mark_text (column_marks column (take i es) (drop i es))
    ≡ flat_map mark_text (mark_at column (take i es) (get_or es i d) (drop (i + 1) es))
    ++ flat_map mark_text (column_marks column (take (i + 1) es) (drop (i + 1) es))
column_on column i es d within =
    ap (λ (rest : List Entry). flat_map mark_text (column_marks column (take i es) rest))
    (drop_more es i d within)
    ∙ flat_map-append mark_text (mark_at column (take i es) (get_or es i d) (drop (i + 1) es))
    (column_marks column (take i es ++ get_or es i d ∷ []) (drop (i + 1) es))
    ∙ ap (λ (front : List Entry). flat_map mark_text (mark_at column (take i es) (get_or es i d)
    (drop (i + 1) es)) ++ flat_map mark_text (column_marks column front (drop (i + 1) es)))
    (sym (take_more es i d within))

-- the entries of a lane, where the next one is in it
pub lane_on : (lane i : ℕ) (es : List Entry) (d : Entry) → i < length es
    → is_in_lane lane (get_or es i d) ≡ true
    → entries_in lane (drop i es) ≡ get_or es i d ∷ entries_in lane (drop (i + 1) es)
lane_on lane i es d within own =
    ap (entries_in lane) (drop_more es i d within)
    ∙ ap (λ b. cond b (get_or es i d ∷ entries_in lane (drop (i + 1) es))
    (entries_in lane (drop (i + 1) es))) own

-- and where it isn't
pub lane_past : (lane i : ℕ) (es : List Entry) (d : Entry) → i < length es
    → is_in_lane lane (get_or es i d) ≡ false
    → entries_in lane (drop i es) ≡ entries_in lane (drop (i + 1) es)
lane_past lane i es d within differs =
    ap (entries_in lane) (drop_more es i d within)
    ∙ ap (λ b. cond b (get_or es i d ∷ entries_in lane (drop (i + 1) es))
    (entries_in lane (drop (i + 1) es))) differs

-- ---- Pieces of a text

-- a piece that is the same as another one
pub same_piece : (old new piece other : List ℕ) → new ≡ old ++ piece → piece ≡ other
    → new ≡ old ++ other
same_piece old new piece other is same = is ∙ ap (λ (t : List ℕ). old ++ t) same

-- the name of the next lane
pub names_on : (n i : ℕ) (rows : List GuestRow) → i < length rows
    → lane_names_text n (drop i rows) ≡ lane_name_text n ++ lane_names_text (n + 1) (drop (i + 1) rows)
names_on n i rows within = ap (lane_names_text n) (first_behind rows i within).1

-- a piece was added, and what the last call added stands behind it
pub then_piece : (r : Result (Unit {0}) NoMemory) (start next end piece rest : List ℕ)
    → next ≡ start ++ piece → OnOk r (end ≡ next ++ rest) → OnOk r (end ≡ start ++ (piece ++ rest))
then_piece (Ok done) start next end piece rest is more =
    more ∙ ap (λ (t : List ℕ). t ++ rest) is ∙ append_assoc start piece rest
then_piece (Err why) start next end piece rest is more = tt

-- the same of a text that was made whole
pub behind_piece : (start next end piece rest : List ℕ) → next ≡ start ++ piece → end ≡ next ++ rest
    → end ≡ start ++ (piece ++ rest)
behind_piece start next end piece rest is more =
    more ∙ ap (λ (t : List ℕ). t ++ rest) is ∙ append_assoc start piece rest

-- a last piece that is the same as another one
pub same_end : (r : Result (Unit {0}) NoMemory) (old new piece other : List ℕ)
    → OnOk r (new ≡ old ++ piece) → piece ≡ other → OnOk r (new ≡ old ++ other)
same_end (Ok done) old new piece other is same = same_piece old new piece other is same
same_end (Err why) old new piece other is same = tt
