-- A journal's text, heard line by line.
use Rattle.std.proofs.Common.{◌≡◌, ℕ, ◌+◌, ◌<◌, ◌^◌, true, false, List, [], ◌∷◌, ◌++◌, length, Option, Some, None, Result, Ok, Err, refl, sym, ap, subst, ◌∙◌, append-nil, arith}
use Rattle.std.specs.Option.{option_to_list}
use Rattle.std.proofs.lemmas.List.{length-append}
use Rattle.text_lines.proofs.LineLaws.{read_from-bad, read_from-none, read_from-one}
use Rattle.text_lines.specs.Lines.{lines_of, made_of, read_from, with_front}
use Rattle.xom_base.specs.Results.{◌>>=◌}
use Rattle.text_lines.specs.Words.{words_of}
use Rattle.xom_base.specs.declared.entry.Entry.{Entry}
use Rattle.xom_base.specs.declared.key.Key256.{Key256}
use Rattle.xom_owners.specs.declared.owner.Owner.{Owner}
use Rattle.journal_text.specs.declared.line_reader.BadLine.{BadLine}
use Rattle.journal_text.specs.JournalLines.{journal_step}
use Rattle.journal_text.specs.Readings.{AnswersStep, Reading, entries_alone}
use Rattle.journal_text.proofs.ReadLaws.{step_anywhere, step_of_err, step_of_ok}
use Rattle.journal_text.proofs.RowLaws.{tells}
use Rattle.trace_judge.specs.Numbers.{install_count, installs_in, may_stand}
use Rattle.trace_judge.proofs.GuestLaws.{install_count-more}
use Rattle.cli_base.specs.Inputs.{in_lines}
use Rattle.cli_base.specs.declared.answer.Answer.{Answer}
use Rattle.cli_base.specs.declared.refusal.InputFault.{InputFault}
use Rattle.cli_base.specs.declared.refusal.InputFault.TheVariants.{BadLine as BadLineOf}
use Rattle.cli_judge.specs.Hearings.{HasHeard, IsHeardTo, judged_at}
use Rattle.cli_judge.specs.Judge.{judge_answer}
use Rattle.cli_judge.specs.declared.hearing.Hearing.{Hearing}
use Rattle.cli_judge.proofs.Numbered.{rows_may_stand}

-- what lines give, behind nothing
front_of_none : (read : Result (List Entry × ℕ) ℕ) → with_front [] read ≡ read
front_of_none (Ok more) = refl
front_of_none (Err bad) = refl

module _ (machine : Key256) (owners : List Owner) (text : List ℕ) where
  -- the answer by what the lines of the text gave
  abbrev ending : Result (List Entry × ℕ) ℕ → Result Answer InputFault
  ending read =
      in_lines (made_of entries_alone read) >>= (λ entries. Ok (judge_answer machine owners entries))

  -- nothing was read as yet
  pub heard_nothing : (h : Hearing) (reading : Reading) → reading ≡ record {
    last = 0;
    lines =
        0;
    bad = false;
  } → HasHeard machine owners h [] → IsHeardTo machine owners text h reading text
  heard_nothing h reading is heard = record {
    entries = [];
    heard = heard;
    good = ap (λ (r : Reading). r.bad) is;
    last = ap (λ (r : Reading). r.last) is;
    few = omega arith;
    within = let none : reading.lines ≡ 0 = ap (λ (r : Reading). r.lines) is in omega arith;
    read = rw is (front_of_none (read_from journal_step 0 1 (lines_of text)));
  }

  module _ (h : Hearing) (old new : Reading) (line rest after : List ℕ)
      (upto : IsHeardTo machine owners text h old rest) (lines_are : lines_of rest ≡ line
      ∷ lines_of after) (shorter : length after < length rest) where
    -- what the lines from this one on give
    from_here : with_front upto.entries (read_from journal_step old.last (old.lines + 1)
        (line ∷ lines_of after)) ≡ read_from journal_step 0 1 (lines_of text)
    from_here = rw lines_are at upto.read

    -- a line that gave an entry, or none
    read_on : (found : Option Entry) → AnswersStep (journal_step old.last 0 line) old (Ok found) new
        → with_front (upto.entries ++ option_to_list found)
        (read_from journal_step new.last (new.lines + 1) (lines_of after)) ≡ read_from
        journal_step 0 1 (lines_of text)
    read_on found answer =
        let parts = step_of_ok (journal_step old.last 0 line) old new found answer in
        let one = read_from-one journal_step upto.entries old.last new.last (old.lines + 1) found
        line (lines_of after) (step_anywhere old.last (old.lines + 1) 0 line ∙ parts.0) in
        rw parts.1 (sym one ∙ from_here)

    pub heard_blank : AnswersStep (journal_step old.last 0 line) old (Ok None) new
        → IsHeardTo machine owners text h new after
    heard_blank answer =
        let parts = step_of_ok (journal_step old.last 0 line) old new None answer in
        let row = tells.reads old.last 0 line None new.last parts.0 in
        let read = read_on None answer in
        record {
          entries = upto.entries;
          heard = upto.heard;
          good = parts.2;
          last = row.1 ∙ upto.last;
          few = omega (arith, parts.1, upto.few);
          within = omega (arith, parts.1, shorter, upto.within);
          read = rw append-nil at read;
        }

    pub heard_entry : (e : Entry) (next : Hearing)
        → AnswersStep (journal_step old.last 0 line) old (Ok (Some e)) new → old.lines + 1 < 2 ^ 64
        → ((m : Key256) (os : List Owner) (es : List Entry) → length es + 1 < 2 ^ 64
        → may_stand (install_count es) e ≡ true → HasHeard m os h es → HasHeard m os next
        (es ++ e ∷ []))
        → IsHeardTo machine owners text next new after
    heard_entry e next answer small hears =
        let parts = step_of_ok (journal_step old.last 0 line) old new (Some e) answer in
        let row = rows_may_stand old.last new.last (words_of line) e
        (tells.reads old.last 0 line (Some e) new.last parts.0) in
        let longer : length (upto.entries ++ e ∷ []) ≡ length upto.entries + 1 =
        length-append upto.entries (e ∷ []) in
        record {
          entries = upto.entries ++ e ∷ [];
          heard = hears machine owners upto.entries (omega (arith, small, upto.few))
              (subst (λ n. may_stand n e ≡ true) upto.last row.0) upto.heard;
          good = parts.2;
          last = row.1 ∙ ap (λ n. n + installs_in e) upto.last
              ∙ sym (install_count-more upto.entries e);
          few = omega (arith, parts.1, upto.few, longer);
          within = omega (arith, parts.1, shorter, upto.within);
          read = read_on (Some e) answer;
        }

    pub heard_bad : (bad : BadLine) → AnswersStep (journal_step old.last 0 line) old (Err bad) new
        → judged_at machine owners text ≡ Err (BadLineOf bad.0)
    heard_bad bad answer =
        let parts = step_of_err (journal_step old.last 0 line) old new bad answer in
        let refused = read_from-bad journal_step upto.entries old.last (old.lines + 1) line
        (lines_of after) (step_anywhere old.last (old.lines + 1) 0 line ∙ parts.0) in
        ap ending (sym from_here ∙ refused) ∙ ap (λ (n : ℕ). Err (BadLineOf n)) (sym parts.1)

  -- the end of the text
  pub heard_all : (h : Hearing) (reading : Reading) (upto : IsHeardTo machine owners text h reading
      [])
      → judged_at machine owners text ≡ Ok (judge_answer machine owners upto.entries)
  heard_all h reading upto =
      ap ending
      (sym upto.read ∙ read_from-none journal_step upto.entries reading.last (reading.lines + 1))

  pub answered : (h : Hearing) (reading : Reading) (rest : List ℕ) (answer : Answer)
      → IsHeardTo machine owners text h reading rest → rest ≡ []
      → ((m : Key256) (os : List Owner) (es : List Entry) → HasHeard m os h es → answer ≡ judge_answer m
      os es)
      → judged_at machine owners text ≡ Ok answer
  answered h reading rest answer heard empty tells_all =
      let upto = subst (IsHeardTo machine owners text h reading) empty heard in
      heard_all h reading upto ∙ ap Ok (sym (tells_all machine owners upto.entries upto.heard))
