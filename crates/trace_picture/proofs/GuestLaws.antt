-- The rows of the guests, with one more entry.
use Rattle.std.proofs.Common.{◌≡◌, ◌≢◌, ℕ, zero, suc, ◌+◌, ◌-◌, ◌<◌, ◌≤◌, ◌⊎◌, inl, inr, ◌^◌, ◌==◌, Bool, true, false, cond, List, [], ◌∷◌, ◌++◌, Some, None, length, take, get_or, refl, sym, ap, subst, ◌∙◌, arith}
use Rattle.std.specs.Prelude.{slice_get, slice_set}
use Rattle.std.specs.List.{All, cons_option, count_by, filter_map}
use Rattle.std.proofs.Math.Decide.{dec_le}
use Rattle.std.proofs.lemmas.Bool.{eqb-true}
use Rattle.std.proofs.lemmas.Bool.Decides.{nat_tests}
use Rattle.trace_picture.proofs.Steps.{first_behind}
use Rattle.std.proofs.lemmas.List.Elements.{All-cons, All-nil, filter_map-append}
use Rattle.std.proofs.lemmas.List.Sums.{count_by-le-length, sum_by_push}
use Rattle.std.proofs.lemmas.List.{length-take}
use Rattle.xom_journal.proofs.PlaceLaws.{front_none, front_some}
use Rattle.xom_base.specs.declared.entry.Entry.{Entry}
use Rattle.xom_base.specs.declared.entry.Entry.TheVariants as entry
use Rattle.trace_picture.specs.GuestTable.{IsSmall, end_told_by, first_end, fresh_row, install_end, is_install_among, is_step_of, is_trap_of, row_after, row_with, rows_after, rows_with}
use Rattle.trace_picture.specs.Lanes.{lane_of}
use Rattle.trace_picture.specs.declared.guests.GuestRow.{GuestRow}
use Rattle.trace_picture.specs.declared.guests.InstallEnd.{InstallEnd}
use Rattle.trace_picture.specs.declared.guests.InstallEnd.TheVariants.{Open, Ended, Stopped, Killed}

-- ---- Ends

first_open : (end : InstallEnd) → first_end end Open ≡ end
first_open Open = refl
first_open Ended = refl
first_open (Stopped rule) = refl
first_open Killed = refl

first_assoc : (a b c : InstallEnd) → first_end a (first_end b c) ≡ first_end (first_end a b) c
first_assoc Open b c = refl
first_assoc Ended b c = refl
first_assoc (Stopped rule) b c = refl
first_assoc Killed b c = refl

end_more : (n : ℕ) (es : List Entry) (e : Entry)
    → install_end n (es ++ e ∷ []) ≡ first_end (install_end n es) (end_told_by n e)
end_more n [] e = first_open (end_told_by n e)
end_more n (first ∷ es) e =
    ap (first_end (end_told_by n first)) (end_more n es e)
    ∙ first_assoc (end_told_by n first) (install_end n es) (end_told_by n e)

-- ---- Rows

abbrev row_by : GuestRow → ℕ → ℕ → InstallEnd → GuestRow
row_by row steps traps end = record {
  slot = row.slot;
  id = row.id;
  steps = steps;
  traps = traps;
  end = end;
}

same_row : (row : GuestRow) (s t u v : ℕ) (a b : InstallEnd) → s ≡ u → t ≡ v → a ≡ b
    → row_by row s t a ≡ row_by row u v b
same_row row s t u v a b steps traps end = λ i. row_by row (steps i) (traps i) (end i)

row_more : (n : ℕ) (es : List Entry) (e : Entry) (row : GuestRow)
    → row_with n (es ++ e ∷ []) row ≡ row_after n e (row_with n es row)
row_more n es e row =
    same_row row _ _ _ _ _ _ (sum_by_push (λ x. cond (is_step_of n x) 1 0) es e)
    (sum_by_push (λ x. cond (is_trap_of n x) 1 0) es e) (end_more n es e)

pub rows_more : (n : ℕ) (es : List Entry) (e : Entry) (rows : List GuestRow)
    → rows_with n (es ++ e ∷ []) rows ≡ rows_after n e (rows_with n es rows)
rows_more n es e [] = refl
rows_more n es e (row ∷ rows) =
    λ i. row_more n es e row i ∷ rows_more (n + 1) es e rows i

-- before any entry the rows are fresh
fresh_kept : (n : ℕ) (e : Entry) (es : List Entry) (rest : (m : ℕ) → rows_with m []
    (filter_map fresh_row es) ≡ filter_map fresh_row es)
    → rows_with n [] (filter_map fresh_row (e ∷ es)) ≡ filter_map fresh_row (e ∷ es)
fresh_kept n (entry.Install install slot id place begin lines) es rest =
    ap (λ (rows : List GuestRow). record {
      slot = slot;
      id = id;
      steps = 0;
      traps = 0;
      end = Open;
    } ∷ rows) (rest (n + 1))
fresh_kept n (entry.Step install step) es rest = rest n
fresh_kept n (entry.Trap install why) es rest = rest n
fresh_kept n (entry.Seal key message) es rest = rest n
fresh_kept n (entry.Accept key message place) es rest = rest n
fresh_kept n (entry.Hash preimage digest) es rest = rest n
fresh_kept n (entry.Stop install why) es rest = rest n
fresh_kept n (entry.Kill install) es rest = rest n
fresh_kept n (entry.Out byte) es rest = rest n

pub rows_fresh : (n : ℕ) (es : List Entry)
    → rows_with n [] (filter_map fresh_row es) ≡ filter_map fresh_row es
rows_fresh n [] = refl
rows_fresh n (e ∷ es) = fresh_kept n e es (λ m. rows_fresh m es)

-- ---- One row changes

-- numbers that differ are no equal ones
apart : (a b : ℕ) → (a ≡ b → ⊥) → (a == b) ≡ false
apart a b differ = elim (a == b) as (λ (x : Bool). (a == b) ≡ x → x ≡ false) [
  | true ↦ λ is. absurd (differ (eqb-true a b is))
  | false ↦ λ is. refl
] refl

row_stays : (row : GuestRow) → row_by row (row.steps + 0) (row.traps + 0) (first_end row.end Open)
    ≡ row
row_stays row =
    same_row row (row.steps + 0) (row.traps + 0) row.steps row.traps (first_end row.end Open)
    row.end (omega arith) (omega arith) (first_open row.end)

-- an entry of another install
row_same : (n : ℕ) (e : Entry) (row : GuestRow) → (lane_of e == n) ≡ false → row_after n e row ≡ row
row_same n (entry.Install install slot id place begin lines) row differs = row_stays row
row_same n (entry.Step install step) row differs = rw differs (row_stays row)
row_same n (entry.Trap install why) row differs = rw differs (row_stays row)
row_same n (entry.Seal key message) row differs = row_stays row
row_same n (entry.Accept key message place) row differs = row_stays row
row_same n (entry.Hash preimage digest) row differs = row_stays row
row_same n (entry.Stop install why) row differs = rw differs (row_stays row)
row_same n (entry.Kill install) row differs = rw differs (row_stays row)
row_same n (entry.Out byte) row differs = row_stays row

-- an entry of an install in front of these rows
pub rows_in_front : (n : ℕ) (e : Entry) (rows : List GuestRow) → lane_of e < n
    → rows_after n e rows ≡ rows
rows_in_front n e [] low = refl
rows_in_front n e (row ∷ rows) low =
    let differs : (lane_of e == n) ≡ false = apart (lane_of e) n (λ same. omega (arith, same, low)) in
    λ i. row_same n e row differs i ∷ rows_in_front (n + 1) e rows (omega (arith, low)) i

-- and of one behind them
pub rows_behind : (n : ℕ) (e : Entry) (rows : List GuestRow) → n + length rows ≤ lane_of e
    → rows_after n e rows ≡ rows
rows_behind n e [] high = refl
rows_behind n e (row ∷ rows) high =
    let differs : (lane_of e == n) ≡ false = apart (lane_of e) n (λ same. omega (arith, same, high)) in
    λ i. row_same n e row differs i ∷ rows_behind (n + 1) e rows (omega (arith, high)) i

-- an entry of one of them
pub rows_at : (n k : ℕ) (e : Entry) (rows : List GuestRow) (d : GuestRow) → lane_of e ≡ n + k
    → k < length rows
    → rows_after n e rows ≡ slice_set rows k (row_after (n + k) e (get_or rows k d))
rows_at n k e [] d is within = absurd (omega (arith, within))
rows_at n zero e (row ∷ rows) d is within =
    let here : n ≡ n + 0 = omega arith in
    λ i. row_after (here i) e row ∷ rows_in_front (n + 1) e rows (omega (arith, is)) i
rows_at n (suc k) e (row ∷ rows) d is within =
    let differs : (lane_of e == n) ≡ false = apart (lane_of e) n (λ same. omega (arith, same, is)) in
    let on : n + 1 + k ≡ n + suc k = omega arith in
    (λ i. row_same n e row differs i ∷ rows_at (n + 1) k e rows d (omega (arith, is)) (omega
    (arith, within)) i)
    ∙ ap (λ m. row ∷ slice_set rows k (row_after m e (get_or rows k d))) on

guest_within : (guests n : ℕ) → is_install_among guests n ≡ true → (1 ≤ n) × (n ≤ guests)
guest_within guests n is = (grind (arith, nat_tests, is), grind (arith, nat_tests, is))

guest_beside : (guests n : ℕ) → is_install_among guests n ≡ false → (n < 1) ⊎ (guests < n)
guest_beside guests n is = elim (dec_le n guests) [
  | yes low ↦ inl (grind (arith, nat_tests, is, low))
  | no high ↦ inr (omega (arith, high))
]

-- the row of the entry's install was changed
pub rows_changed : (e : Entry) (install : ℕ) (rows new : List GuestRow) → install ≡ lane_of e
    → is_install_among (length rows) install ≡ true
    → ((d : GuestRow) → new ≡ slice_set rows (install - 1) (row_after install e (get_or rows (install - 1) d)))
    → new ≡ rows_after 1 e rows
rows_changed e install rows new is within changed =
    let range = guest_within (length rows) install within in
    let d = (first_behind rows (install - 1) (omega (arith, range.0, range.1))).0 in
    let same : install ≡ 1 + (install - 1) = omega (arith, range.0) in
    changed d
    ∙ ap (λ n. slice_set rows (install - 1) (row_after n e (get_or rows (install - 1) d))) same
    ∙ sym (rows_at 1 (install - 1) e rows d (sym is ∙ same) (omega (arith, range.0, range.1)))

-- no row is that of the entry's install
pub rows_same : (e : Entry) (install : ℕ) (rows : List GuestRow) → install ≡ lane_of e
    → is_install_among (length rows) install ≡ false → rows ≡ rows_after 1 e rows
rows_same e install rows is beside = elim (guest_beside (length rows) install beside) [
  | inl low ↦ sym (rows_in_front 1 e rows (omega (arith, is, low)))
  | inr high ↦ sym (rows_behind 1 e rows (omega (arith, is, high)))
]

-- ---- Bounds

pub rows_small : (n : ℕ) (es : List Entry) (rows : List GuestRow) → length es + 1 < 2 ^ 64
    → All IsSmall (rows_with n es rows)
rows_small n es [] few = All-nil IsSmall
rows_small n es (row ∷ rows) few =
    All-cons IsSmall (row_with n es row) (rows_with (n + 1) es rows) (
      omega (arith, few, count_by-le-length (is_step_of n) es),
      omega (arith, few, count_by-le-length (is_trap_of n) es),
    )
    (rows_small (n + 1) es rows few)

-- ---- Loops over a journal

-- the fresh rows, with one more entry
pub fresh_on : (es : List Entry) (i : ℕ) (e : Entry) (rows new : List GuestRow)
    → slice_get es i ≡ Some e → new ≡ rows ++ cons_option (fresh_row e) []
    → rows ≡ filter_map fresh_row (take i es) → new ≡ filter_map fresh_row (take (i + 1) es)
fresh_on es i e rows new some is before =
    is ∙ ap (λ (r : List GuestRow). r ++ cons_option (fresh_row e) []) before
    ∙ sym (filter_map-append fresh_row (take i es) (e ∷ []))
    ∙ ap (filter_map fresh_row) (sym (front_some es i e some))

pub fresh_past : (es : List Entry) (i : ℕ) (rows : List GuestRow) → slice_get es i ≡ None
    → rows ≡ filter_map fresh_row (take i es) → rows ≡ filter_map fresh_row (take (i + 1) es)
fresh_past es i rows none before =
    before ∙ ap (filter_map fresh_row) (sym (front_none es i none))

-- the rows of the entries so far, with one more
pub counted_on : (es : List Entry) (i : ℕ) (e : Entry) (fresh rows new : List GuestRow)
    → slice_get es i ≡ Some e → new ≡ rows_after 1 e rows → rows ≡ rows_with 1 (take i es) fresh
    → new ≡ rows_with 1 (take (i + 1) es) fresh
counted_on es i e fresh rows new some is before =
    is ∙ ap (rows_after 1 e) before ∙ sym (rows_more 1 (take i es) e fresh)
    ∙ ap (λ (t : List Entry). rows_with 1 t fresh) (sym (front_some es i e some))

pub counted_past : (es : List Entry) (i : ℕ) (fresh rows : List GuestRow) → slice_get es i ≡ None
    → rows ≡ rows_with 1 (take i es) fresh → rows ≡ rows_with 1 (take (i + 1) es) fresh
counted_past es i fresh rows none before =
    before ∙ ap (λ (t : List Entry). rows_with 1 t fresh) (sym (front_none es i none))

-- so far no count is at its top
pub counted_small : (es : List Entry) (i : ℕ) (fresh rows : List GuestRow) → i + 1 < 2 ^ 64
    → rows ≡ rows_with 1 (take i es) fresh → All IsSmall rows
counted_small es i fresh rows few before =
    subst (All IsSmall) (sym before)
    (rows_small 1 (take i es) fresh (let short = length-take i es in omega (arith, short, few)))
