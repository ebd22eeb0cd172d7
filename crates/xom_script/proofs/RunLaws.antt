-- The function of run files has just the values of their grammar.
use Rattle.std.proofs.Common.{◌≡◌, ℕ, ◌+◌, ◌*◌, ◌<◌, Bool, true, false, not, ◌&&◌, eqb, ltb, inl, inr, List, [], ◌∷◌, length, Some, None, Result, Ok, Err, refl, sym, ap, subst, ◌∙◌}
use Rattle.std.specs.Prelude.{◌↔◌}
use Rattle.std.specs.Str.{bytes_eq}
use Rattle.std.proofs.lemmas.Bool.{and_parts, both_ways, cases_Bool, false_from_ne_true, leb-true, le-leb, ltb-true, lt-ltb, true≢false}
use Rattle.std.proofs.lemmas.Option.{none-some, option_and_then_some as steps, same_Some, some_pair_parts}
use Rattle.std.proofs.lemmas.Slice.Eq.{bytes_eq-Decides}
use Rattle.xom_base.specs.declared.key.ImageId.{ImageId}
use Rattle.text_lines.specs.declared.lines.TextFault.{TextFault}
use Rattle.text_lines.specs.Lines.{AnswersRead, AnswersText, Reads, Tells, at_end, lines_of, read_from}
use Rattle.text_lines.proofs.LineLaws.{Tells-words, bad_from, ok_err, only_bad, only_reads, reads_from, same_Err, same_Ok}
use Rattle.text_lines.proofs.TextLaws.{AnswersText-exact}
use Rattle.text_lines.proofs.NumberLaws.{cond_then}
use Rattle.xom_script.specs.RunFiles.{IsBadRun, IsRunFile, IsRunRow, RunFormat, run_file_at, run_file_from, run_row_of, run_step, whole_file}
use Rattle.xom_script.specs.RunLines.{run_line_of}
use Rattle.xom_script.specs.RunOrder.{Follows, HasRoom, IsNewId, IsWhole, after_files, after_line, draft_with_guest, first_draft, fits_ram, has_id, has_room, is_whole, last_event, run_file, takes_owner, takes_poke, with_owner, with_poke}
use Rattle.xom_script.specs.declared.progress.Draft.{Draft}
use Rattle.xom_script.specs.declared.progress.Progress.{Progress}
use Rattle.xom_script.specs.declared.progress.Progress.TheVariants as progress
use Rattle.xom_script.specs.declared.run_file.GuestFile.{GuestFile}
use Rattle.xom_script.specs.declared.run_file.KernelLine.{KernelLine}
use Rattle.xom_script.specs.declared.run_file.KernelLine.TheVariants as kernel
use Rattle.xom_script.specs.declared.run_file.OwnerFile.{OwnerFile}
use Rattle.xom_script.specs.declared.run_file.RunFile.{RunFile}
use Rattle.xom_script.specs.declared.run_line.RunLine.{RunLine}
use Rattle.xom_script.specs.declared.run_line.RunLine.TheVariants as line
use Rattle.xom_script.proofs.FieldLaws.{no_items}
use Rattle.xom_script.proofs.RunLineLaws.{run_line_of-exact}

-- ---- rules on earlier lines

-- an id that no owner has
has_id-new : (id : ImageId) (owners : List OwnerFile) → IsNewId id owners → has_id id owners ≡ false
has_id-new id [] new = refl
has_id-new id (owner ∷ owners) new =
    rw (false_from_ne_true (bytes_eq owner.id.0 id.0)
    (λ same. new.0 ((bytes_eq-Decides owner.id.0 id.0).0 same))) (has_id-new id owners new.1)

new-has_id : (id : ImageId) (owners : List OwnerFile) → has_id id owners ≡ false → IsNewId id owners
new-has_id id [] h = tt
new-has_id id (owner ∷ owners) h =
    elim (cases_Bool (bytes_eq owner.id.0 id.0)) [
      | inl same ↦ absurd (true≢false (rw same at h))
      | inr other ↦ (
        λ is. both_ways (bytes_eq owner.id.0 id.0) other ((bytes_eq-Decides owner.id.0 id.0).1 is),
        new-has_id id owners (rw other at h),
      )
    ]

not-true : (b : Bool) → not b ≡ true → b ≡ false
not-true true h = absurd (true≢false (sym h))
not-true false h = refl

takes_owner-true : (draft : Draft) (id : ImageId) → draft.guests ≡ [] → length draft.owners < 16
    → IsNewId id draft.owners → takes_owner draft id ≡ true
takes_owner-true draft id none few new =
    rw (none, lt-ltb (length draft.owners) 16 few, has_id-new id draft.owners new) refl

true-has_room : (kernel : KernelLine) (frames guests : ℕ) → has_room kernel frames guests ≡ true
    → HasRoom kernel frames guests
true-has_room (kernel.Script file) frames guests h = tt
true-has_room (kernel.Image file) frames guests h = tt
true-has_room (kernel.Xomos pages) frames guests h = leb-true (guests * (52 + pages)) frames h

has_room-true : (kernel : KernelLine) (frames guests : ℕ) → HasRoom kernel frames guests
    → has_room kernel frames guests ≡ true
has_room-true (kernel.Script file) frames guests h = refl
has_room-true (kernel.Image file) frames guests h = refl
has_room-true (kernel.Xomos pages) frames guests h = le-leb (guests * (52 + pages)) frames h

-- ---- the order of lines

follows-files : (draft : Draft) (n : ℕ) (next : RunLine) (after : Progress)
    → after_files draft n next ≡ Some after → Follows (progress.Files draft) n next after
unfolding after_files
follows-files draft n (line.Owner owner) after h =
    let t = cond_then (takes_owner draft owner.id) (Some (progress.Files (with_owner draft owner))) after
    h in
    let p = and_parts (eqb (length draft.guests) 0) (ltb (length draft.owners) 16
    && not (has_id owner.id draft.owners)) t.0 in
    let q = and_parts (ltb (length draft.owners) 16) (not (has_id owner.id draft.owners)) p.1 in (
      draft,
      refl,
      no_items draft.guests p.0,
      ltb-true (length draft.owners) 16 q.0,
      new-has_id owner.id draft.owners (not-true (has_id owner.id draft.owners) q.1),
      sym (same_Some (progress.Files (with_owner draft owner)) after t.1),
    )
follows-files draft n (line.Guest sealed input) after h =
    let guest : GuestFile = record { line = n; sealed = sealed; input = input } in
    let t = cond_then (ltb (length draft.guests) 16) (Some (progress.Files (draft_with_guest draft guest)))
    after h in (
      draft,
      refl,
      ltb-true (length draft.guests) 16 t.0,
      sym (same_Some (progress.Files (draft_with_guest draft guest)) after t.1),
    )
follows-files draft n (line.Kernel kernel) after h =
    let t = cond_then (has_room kernel draft.frames (length draft.guests))
    (Some (progress.Kernel draft kernel n)) after h in (
      draft,
      refl,
      true-has_room kernel draft.frames (length draft.guests) t.0,
      sym (same_Some (progress.Kernel draft kernel n) after t.1),
    )
follows-files draft n _ after h = absurd (none-some after h)

follows : (before : Progress) (n : ℕ) (next : RunLine) (after : Progress)
    → after_line before n next ≡ Some after → Follows before n next after
unfolding after_line
follows progress.Start n (line.Machine machine) after h =
    (refl, sym (same_Some (progress.Keyed machine) after h))
follows (progress.Keyed machine) n (line.Boot boot) after h =
    (machine, refl, sym (same_Some (progress.Booted machine boot) after h))
follows (progress.Booted machine boot) n (line.Frames frames) after h =
    (machine, boot, refl, sym (same_Some (progress.Framed machine boot frames) after h))
follows (progress.Framed machine boot frames) n (line.Budget budget) after h = (
  machine,
  boot,
  frames,
  refl,
  sym (same_Some (progress.Files (first_draft machine boot frames budget)) after h),
)
follows (progress.Files draft) n next after h = follows-files draft n next after h
follows (progress.Kernel draft kernel number) n (line.Interrupt interrupts) after h = (
  draft,
  kernel,
  number,
  refl,
  sym (same_Some (progress.Whole (run_file draft kernel number interrupts)) after h),
)
follows (progress.Whole file) n (line.Poke poke) after h =
    let t = cond_then (takes_poke file poke) (Some (progress.Whole (with_poke file poke))) after h in
    let p = and_parts (ltb (last_event file.schedule.pokes) poke.event) (fits_ram poke file.frames)
    t.0 in (
      file,
      refl,
      ltb-true (last_event file.schedule.pokes) poke.event p.0,
      leb-true (poke.address + length poke.bytes) (file.frames * 8192) p.1,
      sym (same_Some (progress.Whole (with_poke file poke)) after t.1),
    )
follows _ n _ after h = absurd (none-some after h)

after_line-only : (before : Progress) (n : ℕ) (next : RunLine) (after : Progress)
    → Follows before n next after → after_line before n next ≡ Some after
unfolding after_line after_files
after_line-only before n (line.Machine machine) after f = rw (f.0, f.1) refl
after_line-only before n (line.Boot boot) after f = rw (f.1, f.2) refl
after_line-only before n (line.Frames frames) after f = rw (f.2, f.3) refl
after_line-only before n (line.Budget budget) after f = rw (f.3, f.4) refl
after_line-only before n (line.Owner owner) after f =
    rw (f.1, f.5) (rw (takes_owner-true f.0 owner.id f.2 f.3 f.4) refl)
after_line-only before n (line.Guest sealed input) after f =
    rw (f.1, f.3) (rw (lt-ltb (length f.0.guests) 16 f.2) refl)
after_line-only before n (line.Kernel kernel) after f =
    rw (f.1, f.3) (rw (has_room-true kernel f.0.frames (length f.0.guests) f.2) refl)
after_line-only before n (line.Interrupt interrupts) after f = rw (f.3, f.4) refl
after_line-only before n (line.Poke poke) after f =
    rw (f.1, f.4) (rw (
      lt-ltb (last_event f.0.schedule.pokes) poke.event f.2,
      le-leb
          (poke.address + length poke.bytes) (f.0.frames * 8192) f.3,
    ) refl)

pub after_line-exact : (before : Progress) (n : ℕ) (next : RunLine) (after : Progress)
    → (after_line before n next ≡ Some after) ↔ Follows before n next after
after_line-exact before n next after =
    (follows before n next after, after_line-only before n next after)

-- ---- the lines, one after another

no_words : run_line_of [] ≡ None
unfolding run_line_of
no_words = refl

tells : Tells run_step RunFormat
tells = Tells-words run_row_of IsRunRow record {
  reads = λ before n words value after h.
      steps _ (run_line_of words) (value, after) h (λ next read h.
      steps _ (after_line before n next) (value, after) h (λ then is same. (
        next,
        (run_line_of-exact words next).0 read,
        follows before n next after
            (is ∙ ap Some (some_pair_parts tt value then after same).1),
      )));
  only = λ before n words value after row.
      rw ((run_line_of-exact words row.0).1 row.1, after_line-only before n row.0 after row.2) refl;
  some = λ before n. rw no_words refl;
}

-- ---- the whole

module _ (text : List ℕ) where
  abbrev missing : ℕ
  missing = 1 + length (lines_of text)

  abbrev given : Result (List (Unit {0}) × Progress) ℕ
  given = read_from run_step progress.Start 1 (lines_of text)

  is_file : (last : Progress) (file : RunFile) → whole_file missing last ≡ Ok file
      → last ≡ progress.Whole file
  is_file (progress.Whole other) file h = ap progress.Whole (same_Ok other file h)
  is_file progress.Start file h = absurd (ok_err file missing (sym h))
  is_file (progress.Keyed machine) file h = absurd (ok_err file missing (sym h))
  is_file (progress.Booted machine boot) file h = absurd (ok_err file missing (sym h))
  is_file (progress.Framed machine boot frames) file h = absurd (ok_err file missing (sym h))
  is_file (progress.Files draft) file h = absurd (ok_err file missing (sym h))
  is_file (progress.Kernel draft kernel number) file h = absurd (ok_err file missing (sym h))

  is_missing : (last : Progress) (bad : ℕ) → whole_file missing last ≡ Err bad
      → (bad ≡ missing) × (IsWhole last → ⊥)
  is_missing (progress.Whole file) bad h = absurd (ok_err file bad h)
  is_missing progress.Start bad h = (sym (same_Err missing bad h), λ never. never)
  is_missing (progress.Keyed machine) bad h = (sym (same_Err missing bad h), λ never. never)
  is_missing (progress.Booted machine boot) bad h = (sym (same_Err missing bad h), λ never. never)
  is_missing (progress.Framed machine boot frames) bad h =
      (sym (same_Err missing bad h), λ never. never)
  is_missing (progress.Files draft) bad h = (sym (same_Err missing bad h), λ never. never)
  is_missing (progress.Kernel draft kernel number) bad h =
      (sym (same_Err missing bad h), λ never. never)

  no_file : (last : Progress) → (IsWhole last → ⊥) → whole_file missing last ≡ Err missing
  no_file (progress.Whole file) never = absurd (never tt)
  no_file progress.Start never = refl
  no_file (progress.Keyed machine) never = refl
  no_file (progress.Booted machine boot) never = refl
  no_file (progress.Framed machine boot frames) never = refl
  no_file (progress.Files draft) never = refl
  no_file (progress.Kernel draft kernel number) never = refl

  file_found : (read : Result (List (Unit {0}) × Progress) ℕ) (file : RunFile) → given ≡ read
      → run_file_from missing read ≡ Ok file → IsRunFile text file
  file_found (Ok read) file is h = (
    read.0,
    subst (Reads RunFormat progress.Start 1 (lines_of text) read.0)
        (is_file read.1 file h) (reads_from run_step RunFormat tells progress.Start 1
        (lines_of text) read.0 read.1 is),
  )
  file_found (Err bad) file is h = absurd (ok_err file bad (sym h))

  bad_found : (read : Result (List (Unit {0}) × Progress) ℕ) (bad : ℕ) → given ≡ read
      → run_file_from missing read ≡ Err bad → IsBadRun text bad
  bad_found (Ok read) bad is h =
      let m = is_missing read.1 bad h in
      inr record {
        values = read.0;
        state = read.1;
        number = m.0;
        reads = reads_from run_step RunFormat tells progress.Start 1 (lines_of text) read.0 read.1
            is;
        goes_on = m.1;
      }
  bad_found (Err other) bad is h =
      inl (bad_from run_step RunFormat tells progress.Start 1 (lines_of text) bad
      (is ∙ ap Err (same_Err other bad h)))

  -- the function has a run file exactly where the text is this run file
  pub run_file_at-exact : (file : RunFile) → (run_file_at text ≡ Ok file) ↔ IsRunFile text file
  unfolding run_file_at
  run_file_at-exact file = (
    λ h. file_found given file refl h,
    λ is. rw (only_reads run_step RunFormat tells progress.Start 1 (lines_of text) is.0
        (progress.Whole file) is.1) refl,
  )

  bad_only : (bad : ℕ) → IsBadRun text bad → run_file_from missing given ≡ Err bad
  bad_only bad (inl first) =
      rw (only_bad run_step RunFormat tells progress.Start 1 (lines_of text) bad first) refl
  bad_only bad (inr early) =
      rw (only_reads run_step RunFormat tells progress.Start 1 (lines_of text) early.values
      early.state early.reads) (no_file early.state early.goes_on)
      ∙ ap Err (sym early.number)

  -- and a line exactly where it is the first bad one
  pub run_file_at-bad : (bad : ℕ) → (run_file_at text ≡ Err bad) ↔ IsBadRun text bad
  unfolding run_file_at
  run_file_at-bad bad = (λ h. bad_found given bad refl h, bad_only bad)

  pub run_file_answers : (r : Result RunFile TextFault) → AnswersRead (run_file_at text) r
      → AnswersText (IsRunFile text) (IsBadRun text) r
  run_file_answers =
      AnswersText-exact (run_file_at text) (IsRunFile text) (IsBadRun text) run_file_at-exact
      (λ bad. (run_file_at-bad bad).0)

-- ---- the end of the text

-- where the text may not end, nothing is read
pub at_end-whole : (behind : ℕ) (read : Result (List (Unit {0}) × Progress) ℕ)
    (rows : List (Unit {0})) (last : Progress)
    → at_end is_whole behind read ≡ Ok (rows, last) → is_whole last ≡ true
at_end-whole behind (Ok read) rows last h =
    elim (cases_Bool (is_whole read.1)) [
      | inl may ↦
          let same : ◌≡◌ {A = List (Unit {0}) × Progress} read (rows, last) =
          same_Ok read (rows, last) (rw may at h) in
          sym (ap (λ (p : List (Unit {0}) × Progress). is_whole p.1) same) ∙ may
      | inr away ↦ absurd (ok_err (rows, last) behind (sym (rw away at h)))
    ]
at_end-whole behind (Err bad) rows last h = absurd (ok_err (rows, last) bad (sym h))

pub run_file_from-whole : (behind : ℕ) (read : Result (List (Unit {0}) × Progress) ℕ)
    (rows : List (Unit {0})) (file : RunFile)
    → at_end is_whole behind read ≡ Ok (rows, progress.Whole file)
    → run_file_from behind read ≡ Ok file
run_file_from-whole behind (Ok read) rows file h =
    elim (cases_Bool (is_whole read.1)) [
      | inl may ↦
          let same : ◌≡◌ {A = List (Unit {0}) × Progress} read (rows, progress.Whole file) =
          same_Ok read (rows, progress.Whole file) (rw may at h) in
          ap (λ (p : List (Unit {0}) × Progress). whole_file behind p.1) same
      | inr away ↦ absurd (ok_err (rows, progress.Whole file) behind (sym (rw away at h)))
    ]
run_file_from-whole behind (Err bad) rows file h =
    absurd (ok_err (rows, progress.Whole file) bad (sym h))

not_whole : (behind : ℕ) (last : Progress) → is_whole last ≡ false
    → whole_file behind last ≡ Err behind
not_whole behind (progress.Whole file) h = absurd (true≢false h)
not_whole behind progress.Start h = refl
not_whole behind (progress.Keyed machine) h = refl
not_whole behind (progress.Booted machine boot) h = refl
not_whole behind (progress.Framed machine boot frames) h = refl
not_whole behind (progress.Files draft) h = refl
not_whole behind (progress.Kernel draft kernel number) h = refl

pub run_file_from-bad : (behind : ℕ) (read : Result (List (Unit {0}) × Progress) ℕ) (bad : ℕ)
    → at_end is_whole behind read ≡ Err bad → run_file_from behind read ≡ Err bad
run_file_from-bad behind (Ok read) bad h =
    elim (cases_Bool (is_whole read.1)) [
      | inl may ↦ absurd (ok_err read bad (rw may at h))
      | inr away ↦ not_whole behind read.1 away ∙ ap Err (same_Err behind bad (rw away at h))
    ]
run_file_from-bad behind (Err other) bad h = ap Err (same_Err other bad h)
