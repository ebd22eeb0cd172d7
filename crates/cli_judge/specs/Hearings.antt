-- A judge at work on a journal's text.
use Rattle.std.specs.Prelude.{◌≡◌, ◌+◌, ◌≤◌, ℕ, false, List, length, Result, Ok}
use Rattle.std.specs.List.{list_any}
use Rattle.text_lines.specs.Lines.{lines_of, read_from, with_front}
use Rattle.xom_base.specs.Results.{◌>>=◌}
use Rattle.xom_base.specs.declared.entry.Entry.{Entry}
use Rattle.xom_base.specs.declared.key.Key256.{Key256}
use Rattle.xom_owners.specs.declared.owner.Owner.{Owner}
use Rattle.journal_text.specs.JournalLines.{journal_step}
use Rattle.journal_text.specs.Readings.{Reading}
use Rattle.trace_judge.specs.Judging.{HasJudged}
use Rattle.trace_judge.specs.Numbers.{install_count}
use Rattle.trace_judge.specs.Suspicion.{is_stop}
use Rattle.cli_base.specs.declared.answer.Answer.{Answer}
use Rattle.cli_base.specs.declared.refusal.InputFault.{InputFault}
use Rattle.cli_base.specs.Inputs.{in_lines}
use Rattle.cli_judge.specs.Judge.{entries_at, judge_answer}
use Rattle.cli_judge.specs.declared.hearing.Hearing.{Hearing}

-- the judge was fed these entries, and it is known whether one of them is a Stop
pub record HasHeard (machine : Key256) (owners : List Owner) (h : Hearing) (es : List Entry) : Type
    0 where
  pub judged : HasJudged machine owners h.judge es
  pub stopped : h.stopped ≡ list_any is_stop es

-- The lines of a text were read up to this rest: none was bad, and the entries that they gave were
-- heard.
pub record IsHeardTo (machine : Key256) (owners : List Owner) (text : List ℕ) (h : Hearing)
    (reading : Reading) (rest : List ℕ) : Type 0 where
  pub entries : List Entry
  pub heard : HasHeard machine owners h entries
  pub good : reading.bad ≡ false
  pub last : reading.last ≡ install_count entries
  pub few : length entries ≤ reading.lines
  pub within : reading.lines + length rest ≤ length text
  pub read : with_front entries (read_from journal_step reading.last (reading.lines + 1)
      (lines_of rest)) ≡ read_from journal_step 0 1 (lines_of text)

-- the judgement of a journal's text, or its first bad line
abbrev pub judged_at : Key256 → List Owner → List ℕ → Result Answer InputFault
judged_at machine owners text = do
  entries ← in_lines (entries_at text)
  Ok (judge_answer machine owners entries)
