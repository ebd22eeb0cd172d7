-- The installs, entry by entry.
use Rattle.std.proofs.Common.{◌≡◌, ℕ, ◌+◌, ◌-◌, ◌≤◌, ◌<◌, ◌^◌, ◌%◌, Bool, true, false, List, [], ◌∷◌, ◌++◌, zero, suc, length, map, refl, sym, ◌∙◌, ap, arith, length-append, subst}
use Rattle.std.specs.Prelude.{Option, Some, None, if◌then◌else◌, slice_get, ◌==◌}
use Rattle.std.specs.List.{filter_map, cons_option}
use Rattle.std.specs.Option.{unwrap_or}
use Rattle.std.proofs.lemmas.List.{append-nil, append_assoc, map-append, length-set}
use Rattle.std.proofs.lemmas.Bool.{false_from_ne_true}
use Rattle.std.proofs.lemmas.List.Elements.{filter_map-append}
use Rattle.xom_base.specs.Padded.{same_at_both}
use Rattle.xom_base.specs.declared.entry.Entry.{Entry}
use Rattle.xom_base.specs.declared.entry.Entry.TheVariants as entry
use Rattle.xom_base.specs.declared.step.Step.{Step}
use Rattle.xom_base.specs.declared.step.StepEnd.{StepEnd}
use Rattle.xom_base.specs.declared.step.StepEnd.TheVariants as ends
use Rattle.xom_base.specs.declared.key.ImageId.{ImageId}
use Rattle.xom_base.specs.Entries.{step_in, steps_of}
use Rattle.xom_owners.specs.declared.owner.Owner.{Owner}
use Rattle.xom_owners.specs.Owners.{owner_of}
use Rattle.trace_judge.specs.declared.report.GuestEnd.{GuestEnd}
use Rattle.trace_judge.specs.declared.report.GuestEnd.TheVariants.{Ended, Stopped, Killed, Running}
use Rattle.trace_judge.specs.declared.report.GuestLine.{GuestLine}
use Rattle.trace_judge.specs.Judgement.{end_in, exit_of, guest_end_of, guest_line_of_entry, guest_lines, verdict_by}
use Rattle.mips_plain.specs.Machine.{State, plain}
use Rattle.mips_plain.specs.Follows.{given_of, is_step, verdict_from}
use Rattle.trace_judge.specs.declared.guests.Watch.{Watch}
use Rattle.trace_judge.specs.declared.guests.Watch.TheVariants.{NoOwner, Runs, Over, Departed}
use Rattle.trace_judge.specs.declared.guests.Guest.{Guest}
use Rattle.trace_judge.specs.Numbers.{install_count, installs_in, is_installed, may_stand}
use Rattle.trace_judge.specs.GuestWatch.{IsCounted, IsFed, Ranked, end_after, end_after_entry, guests_after, guests_after_at, line_after, new_guest, next_guest, next_guests, verdict_after, verdict_behind_end, watch_after, watch_after_step, watch_in, watch_of}

-- nothing was fed
pub nothing_fed : (owners : List Owner) → IsFed owners [] []
nothing_fed owners = record {
  lines = λ more. refl;
  fresh = λ n above more. (refl, refl);
  ranked =
      tt;
  counted = refl;
}

-- the lines of the report
pub lines_now : (owners : List Owner) (gs : List Guest) (es : List Entry) → IsFed owners gs es
    → map (λ g. line_after g []) gs ≡ guest_lines owners es
lines_now owners gs es fed =
    fed.lines [] ∙ ap (λ all. filter_map (guest_line_of_entry owners all) es) (append-nil es)

-- ---- one guest

-- behind its end a program does no step
verdict-over : (p : State) (steps : List Step) (count : ℕ) → p.over ≡ true
    → verdict_behind_end count steps ≡ verdict_from p steps count
unfolding plain
verdict-over p [] count over = refl
verdict-over p (step ∷ steps) count over = rw over refl

-- the verdict by what is known in a state
verdict-watch_in : (b : Bool) (p : State) (count : ℕ) (steps : List Step) → p.over ≡ b
    → verdict_after (if b then Over count else Runs p count) steps ≡ verdict_from p steps count
verdict-watch_in true p count steps over = verdict-over p steps count over
verdict-watch_in false p count steps over = refl

-- the verdict by what is known after one more step
verdict-if : (b : Bool) (p : State) (count : ℕ) (steps : List Step)
    → verdict_after (if b then watch_in p count else Departed count)
    steps ≡ (if b then verdict_from p steps count else verdict_after (Departed count) steps)
verdict-if true p count steps = verdict-watch_in p.over p count steps refl
verdict-if false p count steps = refl

-- a count doesn't wrap
pub next-count : (m count : ℕ) → m + 1 < 2 ^ 64 → count ≤ m → (count + 1) % 2 ^ 64 ≡ count + 1
next-count m count small counted = omega arith

watched_next : (m : ℕ) (w : Watch) (step : Step) (steps : List Step) → m + 1 < 2 ^ 64
    → IsCounted m w → verdict_after (watch_after_step w step) steps ≡ verdict_after w (step ∷ steps)
watched_next m NoOwner step steps small counted = refl
watched_next m (Departed place) step steps small counted = refl
watched_next m (Over count) step steps small counted =
    ap (λ n. verdict_after (Departed n) steps) (next-count m count small counted)
watched_next m (Runs p count) step steps small counted =
    ap (λ n. verdict_after (if is_step step (plain p (given_of step.received)).0
    then watch_in (plain p (given_of step.received)).1 n else Departed n) steps)
    (next-count m count small counted)
    ∙ verdict-if (is_step step (plain p (given_of step.received)).0)
    (plain p (given_of step.received)).1 (count + 1) steps

watched_by : (m : ℕ) (w : Watch) (found : Option Step) (steps : List Step) → m + 1 < 2 ^ 64
    → IsCounted m w
    → verdict_after (watch_after w found) steps ≡ verdict_after w (cons_option found steps)
watched_by m w None steps small counted = refl
watched_by m w (Some step) steps small counted = watched_next m w step steps small counted

-- an end that an entry has isn't Running
ended_by : (found : Option GuestEnd) (n : ℕ) (more : List Entry) → (found ≡ Some Running → ⊥)
    → end_after (unwrap_or found Running) n more ≡ unwrap_or found (guest_end_of n more)
ended_by None n more never = refl
ended_by (Some Ended) n more never = refl
ended_by (Some (Stopped rule)) n more never = refl
ended_by (Some Killed) n more never = refl
ended_by (Some Running) n more never = absurd (never refl)

never_if : (b : Bool) (x : Option GuestEnd) → (x ≡ Some Running → ⊥)
    → (if b then x else None) ≡ Some Running → ⊥
never_if true x never is = never is
never_if false x never is = let e : None ≡ Some Running = is in cc

never_exit : (end : StepEnd) → exit_of end ≡ Some Running → ⊥
never_exit ends.Exit is = let e : Some Ended ≡ Some Running = is in cc
never_exit ends.Goes is = let e : None ≡ Some Running = is in cc
never_exit (ends.Call n) is = let e : None ≡ Some Running = is in cc

pub never_running : (n : ℕ) (e : Entry) → end_in n e ≡ Some Running → ⊥
never_running n (entry.Step m step) is =
    never_if (m == n) (exit_of step.end) (never_exit step.end) is
never_running n (entry.Stop m rule) is =
    never_if (m == n) (Some (Stopped rule))
    (λ x. let e : Some (Stopped rule) ≡ Some Running = x in cc) is
never_running n (entry.Kill m) is =
    never_if (m == n) (Some Killed) (λ x. let e : Some Killed ≡ Some Running = x in cc) is
never_running n (entry.Install m slot id place begin lines) is =
    let e : None ≡ Some Running = is in cc
never_running n (entry.Trap m cause) is = let e : None ≡ Some Running = is in cc
never_running n (entry.Seal key message) is = let e : None ≡ Some Running = is in cc
never_running n (entry.Accept key message place) is = let e : None ≡ Some Running = is in cc
never_running n (entry.Hash preimage digest) is = let e : None ≡ Some Running = is in cc
never_running n (entry.Out byte) is = let e : None ≡ Some Running = is in cc

ended_next : (x : GuestEnd) (n : ℕ) (e : Entry) (more : List Entry)
    → end_after (end_after_entry x n e) n more ≡ end_after x n (e ∷ more)
ended_next Running n e more = ended_by (end_in n e) n more (never_running n e)
ended_next Ended n e more = refl
ended_next (Stopped rule) n e more = refl
ended_next Killed n e more = refl

-- the line of the guest that takes the entry
line_next : (m : ℕ) (g : Guest) (e : Entry) (more : List Entry) → m + 1 < 2 ^ 64
    → IsCounted m g.watch → line_after (next_guest g e) more ≡ line_after g (e ∷ more)
line_next m g e more small counted =
    same_at_both (λ v x. let line : GuestLine = record {
      install = g.install;
      slot = g.slot;
      id =
          g.id;
      verdict = v;
      end = x;
    } in line)
    (watched_by m g.watch (step_in g.install e) (steps_of g.install more) small counted)
    (ended_next g.end g.install e more)

-- an entry that tells nothing of an install
abbrev IsOther : ℕ → Entry → Type 0
IsOther n e = (step_in n e ≡ None) × (end_in n e ≡ None)

ended_other : (x : GuestEnd) (n : ℕ) (e : Entry) (more : List Entry) → end_in n e ≡ None
    → end_after x n more ≡ end_after x n (e ∷ more)
ended_other Running n e more none = ap (λ found. unwrap_or found (guest_end_of n more)) (sym none)
ended_other Ended n e more none = refl
ended_other (Stopped rule) n e more none = refl
ended_other Killed n e more none = refl

line_other : (g : Guest) (e : Entry) (more : List Entry) → IsOther g.install e
    → line_after g more ≡ line_after g (e ∷ more)
line_other g e more other =
    same_at_both (λ v x. let line : GuestLine = record {
      install = g.install;
      slot = g.slot;
      id =
          g.id;
      verdict = v;
      end = x;
    } in line)
    (ap (λ found. verdict_after g.watch (cons_option found (steps_of g.install more)))
    (sym other.0))
    (ended_other g.end g.install e more other.1)

-- ---- all guests

both_lines : {x y : GuestLine} {xs ys : List GuestLine} → x ≡ y → xs ≡ ys → x ∷ xs ≡ y ∷ ys
both_lines head tail = same_at_both (λ (z : GuestLine) zs. z ∷ zs) head tail

lines_other : (gs : List Guest) (e : Entry) (more : List Entry) → ((n : ℕ) → IsOther n e)
    → map (λ g. line_after g more) gs ≡ map (λ g. line_after g (e ∷ more)) gs
lines_other [] e more others = refl
lines_other (g ∷ gs) e more others =
    both_lines (line_other g e more (others g.install)) (lines_other gs e more others)

-- those behind the one that takes it
lines_behind : (m i n : ℕ) (gs : List Guest) (e : Entry) (more : List Entry) → Ranked m i gs → n < i
    → ((j : ℕ) → (j ≡ n → ⊥) → IsOther j e)
    → map (λ g. line_after g more) gs ≡ map (λ g. line_after g (e ∷ more)) gs
lines_behind m i n [] e more ranked above others = refl
lines_behind m i n (g ∷ gs) e more ranked above others =
    both_lines (line_other g e more (others g.install (λ same. let r : g.install ≡ i = ranked.0 in
    omega arith)))
    (lines_behind m (i + 1) n gs e more ranked.2 (omega arith) others)

moved_deeper : (g : Guest) (gs : List Guest) (k : ℕ) (found : Option Guest) (e : Entry)
    → guests_after_at (g ∷ gs) (suc k) found e ≡ g ∷ guests_after_at gs k found e
moved_deeper g gs k None e = refl
moved_deeper g gs k (Some h) e = refl

lines_moved : (m i k n : ℕ) (gs : List Guest) (e : Entry) (more : List Entry) → m + 1 < 2 ^ 64
    → Ranked m i gs → n ≡ i + k → ((j : ℕ) → (j ≡ n → ⊥) → IsOther j e)
    → map (λ g. line_after g more) (guests_after_at gs k (slice_get gs k) e) ≡ map
    (λ g. line_after g (e ∷ more)) gs
lines_moved m i k n [] e more small ranked at others = refl
lines_moved m i zero n (g ∷ gs) e more small ranked at others =
    both_lines (line_next m g e more small ranked.1) (lines_behind m (i + 1) n gs e more ranked.2
    (omega arith) others)
lines_moved m i (suc k) n (g ∷ gs) e more small ranked at others =
    ap (map (λ g. line_after g more)) (moved_deeper g gs k (slice_get gs k) e)
    ∙ both_lines (line_other g e more (others g.install (λ same. let r : g.install ≡ i = ranked.0 in
    omega arith)))
    (lines_moved m (i + 1) k n gs e more small ranked.2 (omega arith) others)

-- ---- ranks

counted_more : (m : ℕ) (w : Watch) → IsCounted m w → IsCounted (m + 1) w
counted_more m NoOwner counted = counted
counted_more m (Departed place) counted = counted
counted_more m (Over count) counted =
    let c : count ≤ m = counted in let d : count ≤ m + 1 = omega arith in d
counted_more m (Runs p count) counted =
    let c : count ≤ m = counted in let d : count ≤ m + 1 = omega arith in d

counted_in : (b : Bool) (m : ℕ) (p : State) (n : ℕ) → n ≤ m
    → IsCounted m (if b then Over n else Runs p n)
counted_in true m p n le = le
counted_in false m p n le = le

counted_if : (b : Bool) (m : ℕ) (p : State) (n place : ℕ) → n ≤ m
    → IsCounted m (if b then watch_in p n else Departed place)
counted_if true m p n place le = counted_in p.over m p n le
counted_if false m p n place le = tt

counted_by : (m : ℕ) (w : Watch) (found : Option Step) → IsCounted m w
    → IsCounted (m + 1) (watch_after w found)
counted_by m w None counted = counted_more m w counted
counted_by m NoOwner (Some step) counted = tt
counted_by m (Departed place) (Some step) counted = tt
counted_by m (Over count) (Some step) counted = tt
counted_by m (Runs p count) (Some step) counted =
    counted_if (is_step step (plain p (given_of step.received)).0) (m + 1)
    ((plain p (given_of step.received)).1) ((count + 1) % 2 ^ 64) ((count + 1) % 2 ^ 64)
    (let c : count ≤ m = counted in omega arith)

ranked_more : (m i : ℕ) (gs : List Guest) → Ranked m i gs → Ranked (m + 1) i gs
ranked_more m i [] ranked = tt
ranked_more m i (g ∷ gs) ranked =
    (ranked.0, counted_more m g.watch ranked.1, ranked_more m (i + 1) gs ranked.2)

ranked_moved : (m i k : ℕ) (gs : List Guest) (e : Entry) → Ranked m i gs
    → Ranked (m + 1) i (guests_after_at gs k (slice_get gs k) e)
ranked_moved m i k [] e ranked = tt
ranked_moved m i zero (g ∷ gs) e ranked = (
  ranked.0,
  counted_by m g.watch (step_in g.install e) ranked.1,
  ranked_more m (i + 1) gs
      ranked.2,
)
ranked_moved m i (suc k) (g ∷ gs) e ranked =
    subst (Ranked (m + 1) i) (sym (moved_deeper g gs k (slice_get gs k) e))
    (ranked.0, counted_more m g.watch ranked.1, ranked_moved m (i + 1) k gs e ranked.2)

ranked_push : (m i : ℕ) (gs : List Guest) (g : Guest) → Ranked m i gs → g.install ≡ i + length gs
    → IsCounted m g.watch → Ranked m i (gs ++ g ∷ [])
ranked_push m i [] g ranked at counted =
    ((let a : g.install ≡ i + 0 = at in omega arith), counted, tt)
ranked_push m i (h ∷ gs) g ranked at counted = (
  ranked.0,
  ranked.1,
  ranked_push m (i + 1) gs g ranked.2
      (let a : g.install ≡ i + suc (length gs) = at in omega arith) counted,
)

length_moved : (gs : List Guest) (k : ℕ) (found : Option Guest) (e : Entry)
    → length (guests_after_at gs k found e) ≡ length gs
length_moved gs k None e = refl
length_moved gs k (Some g) e = length-set gs k (next_guest g e)

-- ---- one more entry

-- the lists of entries, cut behind the new one
regroup : (es : List Entry) (e : Entry) (more : List Entry)
    → (es ++ e ∷ []) ++ more ≡ es ++ e ∷ more
regroup es e more = append_assoc es (e ∷ []) more

fresh_more : (n : ℕ) (es : List Entry) (e : Entry) (more : List Entry) → IsOther n e
    → (steps_of n (es ++ e ∷ more) ≡ steps_of n (e ∷ more))
    × (guest_end_of n (es ++ e ∷ more) ≡ guest_end_of n (e ∷ more))
    → (steps_of n ((es ++ e ∷ []) ++ more) ≡ steps_of n more)
    × (guest_end_of n ((es ++ e ∷ []) ++ more) ≡ guest_end_of n more)
fresh_more n es e more other was = (
  ap (steps_of n) (regroup es e more) ∙ was.0 ∙ ap (λ found. cons_option found (steps_of n more))
      other.0,
  ap (guest_end_of n) (regroup es e more) ∙ was.1 ∙ ap (λ found. unwrap_or found (guest_end_of n more)) other.1,
)

lines_grow : (owners : List Owner) (es : List Entry) (e : Entry) (more : List Entry)
    → filter_map (guest_line_of_entry owners ((es ++ e ∷ []) ++ more)) (es ++ e ∷ []) ≡ filter_map
    (guest_line_of_entry owners (es ++ e ∷ more)) es ++ cons_option (guest_line_of_entry owners (es ++ e ∷ more) e) []
lines_grow owners es e more =
    ap (λ all. filter_map (guest_line_of_entry owners all) (es ++ e ∷ [])) (regroup es e more)
    ∙ filter_map-append (guest_line_of_entry owners (es ++ e ∷ more)) es (e ∷ [])

pub longer : (es : List Entry) (e : Entry) → length (es ++ e ∷ []) ≡ length es + 1
longer es e = length-append es (e ∷ [])

-- how many installs there are with one more entry
pub install_count-more : (es : List Entry) (e : Entry)
    → install_count (es ++ e ∷ []) ≡ install_count es + installs_in e
install_count-more [] e = omega arith
install_count-more (first ∷ es) e =
    let more : install_count (es ++ e ∷ [])
    ≡ install_count es + installs_in e = install_count-more es e in omega arith

-- an entry that is no install: the lines stand as they will be, the ranks hold, and no later
-- install is told of
fed_by : (owners : List Owner) (gs gs' : List Guest) (es : List Entry) (e : Entry)
    → ((all : List Entry) → guest_line_of_entry owners all e ≡ None) → installs_in e ≡ 0
    → ((more : List Entry) → map (λ g. line_after g more) gs' ≡ map (λ g. line_after g (e ∷ more))
    gs)
    → Ranked (length es + 1) 1 gs' → length gs' ≡ length gs
    → ((n : ℕ) → length gs < n → IsOther n e) → IsFed owners gs es → IsFed owners gs' (es ++ e ∷ [])
fed_by owners gs gs' es e none quiet moves ranks same others fed = record {
  lines = λ more.
      moves more ∙ fed.lines (e ∷ more)
      ∙ sym (lines_grow owners es e more ∙ ap (λ found. filter_map (guest_line_of_entry owners (es ++ e ∷ more))
      es ++ cons_option found []) (none (es ++ e ∷ more))
      ∙ append-nil (filter_map (guest_line_of_entry owners (es ++ e ∷ more)) es));
  fresh = λ n above more.
      let high : length gs < n = (let s : length gs' ≡ length gs = same in let a : length gs' < n =
      above in omega arith) in
      fresh_more n es e more (others n high) (fed.fresh n high (e ∷ more));
  ranked = subst (λ m. Ranked m 1 gs') (sym (longer es e)) ranks;
  counted = let was : length gs ≡ install_count es = fed.counted in let now : install_count
      (es ++ e ∷ []) ≡ install_count es + installs_in e = install_count-more es e in omega arith;
}

fed_quiet : (owners : List Owner) (gs : List Guest) (es : List Entry) (e : Entry)
    → ((all : List Entry) → guest_line_of_entry owners all e ≡ None) → installs_in e ≡ 0
    → ((n : ℕ) → IsOther n e) → IsFed owners gs es → IsFed owners gs (es ++ e ∷ [])
fed_quiet owners gs es e none quiet others fed =
    fed_by owners gs gs es e none quiet (λ more. lines_other gs e more others)
    (ranked_more (length es) 1 gs fed.ranked) refl (λ n above. others n) fed

-- a Hash adds nothing
pub hash_passed : (owners : List Owner) (gs : List Guest) (es : List Entry)
    (preimage digest : List ℕ)
    → IsFed owners gs es → IsFed owners gs (es ++ entry.Hash preimage digest ∷ [])
hash_passed owners gs es preimage digest fed =
    fed_quiet owners gs es (entry.Hash preimage digest) (λ all. refl) refl (λ j. (refl, refl)) fed

fed_moved : (owners : List Owner) (gs : List Guest) (es : List Entry) (e : Entry) (n : ℕ)
    → length es + 1 < 2 ^ 64 → is_installed (length gs) n ≡ true
    → ((all : List Entry) → guest_line_of_entry owners all e ≡ None) → installs_in e ≡ 0
    → ((j : ℕ) → (j ≡ n → ⊥) → IsOther j e) → IsFed owners gs es
    → IsFed owners (guests_after gs n e) (es ++ e ∷ [])
fed_moved owners gs es e n small stands none quiet others fed =
    let (some, few) = installed_range (length gs) n stands in
    fed_by owners gs (guests_after gs n e) es e none quiet
    (λ more. lines_moved (length es) 1 (n - 1) n gs e more small fed.ranked (omega arith) others)
    (ranked_moved (length es) 1 (n - 1) gs e fed.ranked)
    (length_moved gs (n - 1) (slice_get gs (n - 1)) e)
    (λ j above. others j (λ same. omega arith))
    fed
  where
    installed_range : (count n : ℕ) → is_installed count n ≡ true → (1 ≤ n) × (n ≤ count)
    installed_range count n is = Prim.grind (arith)

eqb_same : (n j : ℕ) → (n == j) ≡ true → j ≡ n
eqb_same n j same = Prim.grind (arith)

-- equal numbers
same_number : (n m : ℕ) → (n == m) ≡ true → n ≡ m
same_number n m same = Prim.grind (arith)

-- an entry of another install
if_other : {A : Type 0} (j n : ℕ) (x : Option A) → (j ≡ n → ⊥) → (if n == j then x else None) ≡ None
if_other j n x apart =
    ap (λ b. if b then x else None) (false_from_ne_true _ (λ same. apart (eqb_same n j same)))

-- the verdict of a new install
watched_of : (o : Option Owner) (steps : List Step)
    → verdict_after (watch_of o) steps ≡ verdict_by o steps
watched_of None steps = refl
watched_of (Some owner) steps = refl

counted_of : (m : ℕ) (o : Option Owner) → IsCounted m (watch_of o)
counted_of m None = tt
counted_of m (Some owner) = let z : 0 ≤ m = omega arith in z

fed_install : (owners : List Owner) (gs : List Guest) (es : List Entry)
    (n slot place begin size : ℕ) (id : ImageId)
    → n ≡ length gs + 1 → IsFed owners gs es
    → IsFed owners (gs ++ new_guest owners n slot id ∷ []) (es ++ entry.Install n slot id place
    begin size ∷ [])
fed_install owners gs es n slot place begin size id next fed =
    let e : Entry = entry.Install n slot id place begin size in
    let g : Guest = new_guest owners n slot id in
    let high : length gs < n = omega arith in
    record {
      lines = λ more.
          map-append (λ h. line_after h more) gs (g ∷ [])
          ∙ same_at_both (λ xs (x : GuestLine). xs ++ x ∷ [])
          (lines_other gs e more (λ j. (refl, refl)) ∙ fed.lines (e ∷ more))
          (same_at_both (λ v x. let line : GuestLine = record {
            install = n;
            slot = slot;
            id =
                id;
            verdict = v;
            end = x;
          } in line)
          (watched_of (owner_of owners id) (steps_of n more) ∙ ap (verdict_by (owner_of owners id))
          (sym (fed.fresh n high (e ∷ more)).0))
          (sym (fed.fresh n high (e ∷ more)).1))
          ∙ sym (lines_grow owners es e more);
      fresh = λ j above more.
          let higher : length gs < j = (let a : length (gs ++ g ∷ []) < j = above in
          let l : length (gs ++ g ∷ []) ≡ length gs + 1 = length-append gs (g ∷ []) in
          omega arith) in
          fresh_more j es e more (refl, refl) (fed.fresh j higher (e ∷ more));
      ranked = subst (λ m. Ranked m 1 (gs ++ g ∷ [])) (sym (longer es e))
          (ranked_push (length es + 1) 1 gs g (ranked_more (length es) 1 gs fed.ranked) (omega arith)
          (counted_of (length es + 1) (owner_of owners id)));
      counted = let was : length gs ≡ install_count es = fed.counted in let now : install_count
          (es ++ e ∷ []) ≡ install_count es + 1 = install_count-more es e in length-append gs (g ∷ [])
          ∙ (let t : length gs + 1 ≡ install_count (es ++ e ∷ []) = omega arith in t);
    }

fed_next : (owners : List Owner) (gs : List Guest) (es : List Entry) (e : Entry)
    → length es + 1 < 2 ^ 64 → may_stand (length gs) e ≡ true → IsFed owners gs es
    → IsFed owners (next_guests owners gs e) (es ++ e ∷ [])
fed_next owners gs es (entry.Install n slot id place begin size) small may fed =
    fed_install owners gs es n slot place begin size id (same_number n (length gs + 1) may) fed
fed_next owners gs es (entry.Step n step) small may fed =
    fed_moved owners gs es (entry.Step n step) n small may (λ all. refl) refl
    (λ j apart. (if_other j n (Some step) apart, if_other j n (exit_of step.end) apart)) fed
fed_next owners gs es (entry.Stop n rule) small may fed =
    fed_moved owners gs es (entry.Stop n rule) n small may (λ all. refl) refl
    (λ j apart. (refl, if_other j n (Some (Stopped rule)) apart)) fed
fed_next owners gs es (entry.Kill n) small may fed =
    fed_moved owners gs es (entry.Kill n) n small may (λ all. refl) refl
    (λ j apart. (refl, if_other j n (Some Killed) apart)) fed
fed_next owners gs es (entry.Trap n cause) small may fed =
    fed_quiet owners gs es (entry.Trap n cause) (λ all. refl) refl (λ j. (refl, refl)) fed
fed_next owners gs es (entry.Seal key message) small may fed =
    fed_quiet owners gs es (entry.Seal key message) (λ all. refl) refl (λ j. (refl, refl)) fed
fed_next owners gs es (entry.Accept key message place) small may fed =
    fed_quiet owners gs es (entry.Accept key message place) (λ all. refl) refl (λ j. (refl, refl))
    fed
fed_next owners gs es (entry.Hash preimage digest) small may fed =
    hash_passed owners gs es preimage digest fed
fed_next owners gs es (entry.Out byte) small may fed =
    fed_quiet owners gs es (entry.Out byte) (λ all. refl) refl (λ j. (refl, refl)) fed

pub fed_one : (owners : List Owner) (gs gs' : List Guest) (es : List Entry) (e : Entry)
    → gs' ≡ next_guests owners gs e → length es + 1 < 2 ^ 64 → may_stand (install_count es) e ≡ true
    → IsFed owners gs es → IsFed owners gs' (es ++ e ∷ [])
fed_one owners gs gs' es e made small may fed =
    subst (λ hs. IsFed owners hs (es ++ e ∷ [])) (sym made)
    (fed_next owners gs es e small (ap (λ count. may_stand count e) fed.counted ∙ may) fed)
