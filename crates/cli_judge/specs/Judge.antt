-- `judge RUN JOURNAL`: what a journal shows of its guests, judged by the owners of a run file.
use Rattle.std.specs.Prelude.{ℕ, List, None, Result, Ok, if◌then◌else◌}
use Rattle.std.specs.List.{list_any}
use Rattle.text_lines.specs.Lines.{lines_of, made_of, read_from}
use Rattle.xom_base.specs.declared.entry.Entry.{Entry}
use Rattle.xom_base.specs.declared.key.Key256.{Key256}
use Rattle.xom_owners.specs.declared.owner.Owner.{Owner}
use Rattle.journal_text.specs.JournalLines.{journal_step}
use Rattle.journal_text.specs.Readings.{entries_alone}
use Rattle.trace_judge.specs.declared.report.Report.{Report}
use Rattle.trace_judge.specs.Judgement.{judgement}
use Rattle.trace_judge.specs.ReportText.{report_text}
use Rattle.trace_judge.specs.Suspicion.{is_stop, is_suspect}
use Rattle.cli_base.specs.declared.answer.Answer.{Answer}
use Rattle.cli_base.specs.declared.refusal.Refusal.{Refusal}
use Rattle.cli_base.specs.Inputs.{◌>>=◌, Held, in_lines, input_of}
use Rattle.cli_runs.specs.OwnerImages.{owners_of}
use Rattle.cli_runs.specs.RunFiles.{run_file_of}

-- ---- What is read

-- at most so many bytes are in a journal
abbrev pub journal_limit : ℕ
journal_limit = 268435456

-- the entries of a journal's text, or the number of its first bad line
abbrev pub entries_at : List ℕ → Result (List Entry) ℕ
entries_at text = made_of entries_alone (read_from journal_step 0 1 (lines_of text))

-- the entries of the journal that a file holds, or why they can't be had
unfoldable pub journal_of : Held → List ℕ → Result (List Entry) Refusal
journal_of = input_of journal_limit (λ text. in_lines (entries_at text))

-- ---- What is answered

-- the first of these that holds: the report is suspect, a guest was stopped
abbrev pub judge_status : Report → List Entry → ℕ
judge_status report entries =
    if is_suspect report then 9 else (if list_any is_stop entries then 8 else 0)

-- the report on these entries, with that status
abbrev pub report_answer : Report → List Entry → Answer
report_answer report entries = record {
  text = report_text report;
  file = None;
  status =
      judge_status report entries;
}

-- by the machine key and the owners
abbrev pub judge_answer : Key256 → List Owner → List Entry → Answer
judge_answer machine owners entries = report_answer (judgement machine owners entries) entries

-- The answer of the command: the run file, the images of its owners, and the journal are read in
-- this order. No other file that
-- the run file names is looked at.
unfoldable pub judge_of : Held → List ℕ → List ℕ → Result Answer Refusal
judge_of held run journal = do
  file ← run_file_of held run
  owners ← owners_of held file.owners
  entries ← journal_of held journal
  Ok (judge_answer file.machine owners entries)
