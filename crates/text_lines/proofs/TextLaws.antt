-- How the readers of formats answer, all by one law.
use Rattle.std.proofs.Common.{◌≡◌, ℕ, ◌+◌, Bool, true, List, [], length, Option, None, Some, Result, Ok, Err, inl, inr, refl, sym, ap, ◌∙◌}
use Rattle.std.specs.Prelude.{◌↔◌, IfOk}
use Rattle.std.proofs.lemmas.Bool.{cases_Bool, both_ways}
use Rattle.xom_base.specs.Memory.{OrOut}
use Rattle.text_lines.specs.Lines.{AnswersRead, AnswersText, Format, IsFirstBad, IsFirstBadOf, IsRows, IsText, IsWholeText, LineStep, Reads, Rows, Tells, at_end, lines_of, made_of, read_from, rows_of, rows_step, whole_from}
use Rattle.text_lines.proofs.LineLaws.{Tells-rows, bad_from, ok_err, only_reads, reads_from, same_Err, same_Ok}
use Rattle.text_lines.specs.declared.lines.TextFault.{TextFault}
use Rattle.text_lines.specs.declared.lines.TextFault.TheVariants as text_fault

-- ---- one law for all formats

-- what is made of lines is made of what they give
made_ok : {S X A : Type 0} (make : List X → S → A) (read : Result (List X × S) ℕ) (value : A)
    → made_of make read ≡ Ok value
    → (values : List X) × (last : S) × (read ≡ Ok (values, last)) × (value ≡ make values last)
made_ok make (Ok read) value h = (read.0, read.1, refl, sym (same_Ok (make read.0 read.1) value h))
made_ok make (Err bad) value h = absurd (ok_err value bad (sym h))

made_err : {S X A : Type 0} (make : List X → S → A) (read : Result (List X × S) ℕ) (bad : ℕ)
    → made_of make read ≡ Err bad → read ≡ Err bad
made_err make (Ok read) bad h = absurd (ok_err (make read.0 read.1) bad h)
made_err make (Err other) bad h = ap Err (same_Err other bad h)

module _ {S X A : Type 0} (make : List X → S → A) (read : Result (List X × S) ℕ) (Gives : List X → S
    → Type 0) (IsBad : ℕ → Type 0)
    (found : (values : List X) (last : S) → read ≡ Ok (values, last) → Gives values last)
    (only : (values : List X) (last : S) → Gives values last → read ≡ Ok (values, last))
    (bad : (n : ℕ) → read ≡ Err n → IsBad n) where
  -- the values of a text
  abbrev pub IsGiven : A → Type 0
  IsGiven value = (values : List X) × (last : S) × Gives values last × (value ≡ make values last)

  found_by : (r : Result A TextFault) → AnswersRead (made_of make read) r → IfOk r IsGiven
  found_by (Ok value) h = let m = made_ok make read value h in (m.0, m.1, found m.0 m.1 m.2, m.3)
  found_by (Err fault) h = tt

  only_by : (r : Result A TextFault) → AnswersRead (made_of make read) r → (value : A)
      → IsGiven value → OrOut text_fault.NoMemory (Ok value) r
  only_by (Ok other) h value is =
      inl (ap Ok (same_Ok other value (sym h ∙ ap (made_of make) (only is.0 is.1 is.2)
      ∙ ap Ok (sym is.3))))
  only_by (Err (text_fault.Line n)) h value is =
      absurd (ok_err (make is.0 is.1) n (sym (ap (made_of make) (only is.0 is.1 is.2)) ∙ h))
  only_by (Err text_fault.NoMemory) h value is = inr refl

  bad_by : (r : Result A TextFault) → AnswersRead (made_of make read) r → (n : ℕ)
      → r ≡ Err (text_fault.Line n) → IsBad n
  bad_by (Ok value) h n is = absurd (ok_err value (text_fault.Line n) is)
  bad_by (Err (text_fault.Line m)) h n is =
      let same : m ≡ n = cc in
      bad n (made_err make read n (h ∙ ap Err same))
  bad_by (Err text_fault.NoMemory) h n is = absurd cc

  pub AnswersText-given : (r : Result A TextFault) → AnswersRead (made_of make read) r
      → AnswersText IsGiven IsBad r
  AnswersText-given r h = record { found = found_by r h; only = only_by r h; bad = bad_by r h }

-- ---- texts that may end behind each line

module _ {S X A : Type 0} (step : LineStep S X) (format : Format S X) (tells : Tells step format)
    (make : List X → S → A) (first : S) (text : List ℕ) where
  pub AnswersText-lines : (r : Result A TextFault)
      → AnswersRead (made_of make (read_from step first 1 (lines_of text))) r
      → AnswersText (IsText format make first text) (IsFirstBad format first 1 (lines_of text)) r
  AnswersText-lines =
      AnswersText-given make (read_from step first 1 (lines_of text))
      (λ values last. Reads format first 1 (lines_of text) values last)
      (IsFirstBad format first 1 (lines_of text))
      (reads_from step format tells first 1 (lines_of text))
      (only_reads step format tells first 1 (lines_of text))
      (bad_from step format tells first 1 (lines_of text))

-- ---- texts that may end too early

module _ {S X A : Type 0} (step : LineStep S X) (format : Format S X) (tells : Tells step format)
    (may_end : S → Bool) (Ends : S → Type 0)
    (ends : (s : S) → (may_end s ≡ true) ↔ Ends s) (make : List X → S → A) (first : S)
    (text : List ℕ) where
  abbrev missing : ℕ
  missing = 1 + length (lines_of text)

  abbrev given : Result (List X × S) ℕ
  given = read_from step first 1 (lines_of text)

  end_found : (read : Result (List X × S) ℕ) (values : List X) (last : S)
      → at_end may_end missing read ≡ Ok (values, last)
      → (read ≡ Ok (values, last)) × (may_end last ≡ true)
  end_found (Ok read) values last h =
      elim (cases_Bool (may_end read.1)) [
        | inl may ↦
            let same : ◌≡◌ {A = List X × S} read (values, last) = same_Ok read (values, last)
            (rw may at h) in
            (ap Ok same, sym (ap (λ (p : List X × S). may_end p.1) same) ∙ may)
        | inr not ↦ absurd (ok_err (values, last) missing (sym (rw not at h)))
      ]
  end_found (Err bad) values last h = absurd (ok_err (values, last) bad (sym h))

  end_bad : (read : Result (List X × S) ℕ) (n : ℕ) → given ≡ read
      → at_end may_end missing read ≡ Err n → IsFirstBadOf format Ends first text n
  end_bad (Ok read) n is h =
      elim (cases_Bool (may_end read.1)) [
        | inl may ↦ absurd (ok_err read n (rw may at h))
        | inr not ↦ inr record {
          values = read.0;
          state = read.1;
          number = sym (same_Err missing n (rw not at h));
          reads = reads_from step format tells first 1 (lines_of text) read.0 read.1 is;
          goes_on = λ e. both_ways (may_end read.1) not ((ends read.1).1 e);
        }
      ]
  end_bad (Err bad) n is h =
      inl (bad_from step format tells first 1 (lines_of text) n (is ∙ ap Err (same_Err bad n h)))

  pub AnswersText-whole : (r : Result A TextFault)
      → AnswersRead (made_of make (whole_from step may_end first text)) r
      → AnswersText (IsWholeText format Ends make first text) (IsFirstBadOf format Ends first text)
      r
  AnswersText-whole =
      AnswersText-given make (whole_from step may_end first text)
      (λ values last. Reads format first 1 (lines_of text) values last × Ends last)
      (IsFirstBadOf format Ends first text)
      (λ values last h.
      let e = end_found given values last h in
      (reads_from step format tells first 1 (lines_of text) values last e.0, (ends last).0 e.1))
      (λ values last h. rw (
        only_reads step format tells first 1 (lines_of text) values last h.0,
        (ends last).1 h.1,
      ) refl)
      (λ n h. end_bad given n refl h)

-- ---- texts whose lines say their values, wherever they stand

module _ {X : Type 0} (make : List (List ℕ) → Option X) (row : List (List ℕ) → X → Type 0)
    (exact : (words : List (List ℕ)) (value : X) → (make words ≡ Some value) ↔ row words value)
    (some : make [] ≡ None) (text : List ℕ) where
  pub AnswersText-rows : (r : Result (List X) TextFault) → AnswersRead (rows_of make text) r
      → AnswersText (IsRows row text) (IsFirstBad (Rows row) tt 1 (lines_of text)) r
  AnswersText-rows r h =
      let a = AnswersText-lines (rows_step make) (Rows row) (Tells-rows make row exact some)
      (λ values last. values) tt text r h in
      record {
        found = alone r a.found;
        only = λ values is. a.only values (values, tt, is, refl);
        bad = a.bad;
      }
    where
      alone : (r : Result (List X) TextFault)
          → IfOk r (IsText (Rows row) (λ values last. values) tt text) → IfOk r (IsRows row text)
      alone (Ok values) is = rw is.3 is.2
      alone (Err fault) is = tt

-- ---- formats whose function is tied to their relations

module _ {A : Type 0} (read : Result A ℕ) (IsOf : A → Type 0) (IsBad : ℕ → Type 0)
    (exact : (value : A) → (read ≡ Ok value) ↔ IsOf value) (bad : (n : ℕ) → read ≡ Err n
    → IsBad n) where
  exact_only : (r : Result A TextFault) → AnswersRead read r → (value : A) → IsOf value
      → OrOut text_fault.NoMemory (Ok value) r
  exact_only (Ok other) h value is = inl (ap Ok (same_Ok other value (sym h ∙ (exact value).1 is)))
  exact_only (Err (text_fault.Line n)) h value is =
      absurd (ok_err value n (sym ((exact value).1 is) ∙ h))
  exact_only (Err text_fault.NoMemory) h value is = inr refl

  exact_bad : (r : Result A TextFault) → AnswersRead read r → (n : ℕ) → r ≡ Err (text_fault.Line n)
      → IsBad n
  exact_bad (Ok value) h n is = absurd (ok_err value (text_fault.Line n) is)
  exact_bad (Err (text_fault.Line m)) h n is =
      let same : m ≡ n = cc in
      bad n (h ∙ ap Err same)
  exact_bad (Err text_fault.NoMemory) h n is = absurd cc

  exact_found : (r : Result A TextFault) → AnswersRead read r → IfOk r IsOf
  exact_found (Ok value) h = (exact value).0 h
  exact_found (Err fault) h = tt

  pub AnswersText-exact : (r : Result A TextFault) → AnswersRead read r → AnswersText IsOf IsBad r
  AnswersText-exact r h = record {
    found = exact_found r h;
    only = exact_only r h;
    bad =
        exact_bad r h;
  }
