-- `trace RUN` and `trace RUN JOURNAL`: the run that a run file tells, and the judgement of the
-- journal that it made.
use Rattle.std.specs.Prelude.{◌≡◌, ℕ, ◌⊎◌, Bool, true, false, List, ◌++◌, Option, Some, None, Result, Ok, unwrap_or, is_some, if◌then◌else◌}
use Rattle.std.specs.List.{list_any}
use Rattle.xom_base.specs.declared.entry.Entry.{Entry}
use Rattle.trace_judge.specs.declared.report.Report.{Report}
use Rattle.trace_judge.specs.Judgement.{judgement}
use Rattle.trace_judge.specs.ReportText.{report_text}
use Rattle.trace_judge.specs.Suspicion.{is_stop, is_suspect}
use Rattle.xom_model.specs.declared.outcome.NullFault.{NullFault}
use Rattle.xom_model.specs.declared.outcome.Turn.{Turn}
use Rattle.xom_model.specs.Run.{run_from}
use Rattle.xom_model.specs.Seen.{View}
use Rattle.xom_model.specs.State.{Record}
use Rattle.power_on.specs.Shipped.{shipped_versions}
use Rattle.power_on.specs.Start.{first_of}
use Rattle.kernels.specs.Turns.{image_told, script_told}
use Rattle.journal_text.specs.JournalTexts.{journal_text}
use Rattle.cli_base.specs.declared.answer.Answer.{Answer}
use Rattle.cli_base.specs.declared.answer.OutputFile.{OutputFile}
use Rattle.cli_base.specs.declared.refusal.Refusal.{Refusal}
use Rattle.cli_base.specs.Inputs.{◌>>=◌, Held}
use Rattle.xom_script.specs.declared.run_file.RunFile.{RunFile}
use Rattle.cli_runs.specs.declared.guest_image.GuestImage.{GuestImage}
use Rattle.cli_runs.specs.declared.kernel_file.KernelFile.{KernelFile}
use Rattle.cli_runs.specs.declared.kernel_file.KernelFile.TheVariants as kernel
use Rattle.cli_runs.specs.declared.parts.Parts.{Parts}
use Rattle.cli_runs.specs.Parts.{parts_of}
use Rattle.headline_law.specs.Headline.{IsJudgedWell}
use Rattle.xom_io.specs.Answers.{FilesTold}
use Rattle.run_text.specs.Console.{console_lines, console_of}
use Rattle.run_text.specs.EventsLine.{events_text}

-- ---- What is run and judged

-- the machine after the run of a kernel that tells its turns, under the schedule and within the
-- budget of a run file
abbrev pub last_under : {K : Type 0} → (K → View → Option (Turn × (List ℕ × K))) → K → RunFile
    → Record → Record
last_under told k file first =
    unwrap_or (run_from shipped_versions told file.schedule file.budget 0 first k) first

-- the machine after the run that a script or a kernel's image makes of a run file and its guests
abbrev pub last_by : RunFile → List GuestImage → KernelFile → Record
last_by file guests (kernel.Script script) =
    last_under script_told script.lines file (first_of file guests (kernel.Script script))
last_by file guests (kernel.Image image) =
    last_under image_told tt file (first_of file guests (kernel.Image image))

-- the machine after the run of all its parts
unfoldable pub last_record : Parts → Record
last_record parts = last_by parts.file parts.guests parts.kernel

-- the judgement of its journal, by the machine key and the owners of the run file
abbrev pub report_of : Parts → Report
report_of parts = judgement parts.file.machine parts.owners (last_record parts).core.entries

-- ---- What is printed

-- how many events there were, and how the run ended
abbrev pub events_line : Record → List ℕ
events_line r = events_text r.events r.halted r.fault

-- ---- What is answered

-- 0 where the kernel halted, 7 where it faulted, 6 where the budget was reached before
abbrev pub stop_status : Option (ℕ × NullFault) → ℕ
stop_status None = 0
stop_status (Some fault) = 7

-- the status of how a run ended
abbrev pub ending_status : Bool → Option (ℕ × NullFault) → ℕ
ending_status true fault = stop_status fault
ending_status false fault = 6

-- the first of these that holds: the report is suspect, a guest was stopped, the run ended by a
-- fault or by its budget
abbrev pub trace_status : Report → Record → ℕ
trace_status report r =
    if is_suspect report then 9 else (if list_any is_stop r.core.entries then 8 else ending_status
    r.halted r.fault)

-- the console in whole lines, the report, and the line on events
abbrev pub trace_text : Report → Record → List ℕ
trace_text report r =
    (console_lines (console_of r.core.entries) ++ report_text report) ++ events_line r

-- the text of the journal as a file, where one is named
abbrev pub journal_file : Option (List ℕ) → List Entry → Option OutputFile
journal_file None entries = None
journal_file (Some name) entries = Some (record { name = name; bytes = journal_text entries })

-- that text, with the journal's file and the status
abbrev pub answer_of_run : Option (List ℕ) → Report → Record → Answer
answer_of_run journal report r =
    record {
      text = trace_text report r;
      file = journal_file journal r.core.entries;
      status =
          trace_status report r;
    }

-- the answer of `trace`, of the run of these parts
unfoldable pub trace_answer : Option (List ℕ) → Parts → Answer
trace_answer journal parts = answer_of_run journal (report_of parts) (last_record parts)

-- the answer of the command
unfoldable pub trace_of : Held → List ℕ → Option (List ℕ) → Result Answer Refusal
trace_of held run journal = do
  parts ← parts_of held run
  Ok (trace_answer journal parts)

-- ---- The headline

-- the report names a forged entry or a collision
abbrev pub NamesFinding : Report → Type 0
NamesFinding report = (is_some report.forged ≡ true) ⊎ (is_some report.collision ≡ true)

-- The owners' claim: unless the report names a forged entry or a collision, the guest of each of
-- its lines follows: none departs, and each has an owner.
abbrev pub GuestsFollow : Parts → Type 0
GuestsFollow parts = IsJudgedWell parts.file.machine parts.owners (last_record parts).core.entries

-- so it is of the run that this run file tells, where files tell what they hold
abbrev pub RunFollows : FilesTold → List ℕ → Type 0
RunFollows told run =
    (held : Held) → told ≡ Some held → (parts : Parts) → parts_of held run ≡ Ok parts
    → GuestsFollow parts
