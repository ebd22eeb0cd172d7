-- What may be said of every call: its status with its cause, what it wrote, and what the owner of a
-- guest may believe.
use Rattle.std.specs.Prelude.{◌≡◌, ◌≢◌, ◌⊎◌, ℕ, ◌<◌, List, ◌++◌, Option, Some, None, Ok, Err, IsSomeAnd, MatchOption, option_and_then, take}
use Rattle.xom_io.specs.Answers.{AppendsToSink, HoldsFile, KeepsOthers, Rises}
use Rattle.cli_base.specs.declared.answer.OutputFile.{OutputFile}
use Rattle.cli_runs.specs.declared.parts.Parts.{Parts}
use Rattle.cli_runs.specs.Parts.{parts_of}
use Rattle.cli_base.specs.declared.refusal.Refusal.TheVariants.{Unread}
use Rattle.cli_delivery.specs.Endings.{Disk, Outside}
use Rattle.cli_base.specs.Commands.{IsDone}
use Rattle.cli_base.specs.Inputs.{Held, held_without}
use Rattle.xom_cli.specs.Outcome.{IsPrinted, Printed, printed_text}
use Rattle.cli_base.specs.Refusals.{refusal_text}
use Rattle.xom_cli.specs.Rows.{Debug, Judge, Run, Trace, row_of_words, target_of}
use Rattle.xom_base.specs.declared.entry.Entry.{Entry}
use Rattle.xom_owners.specs.declared.owner.Owner.{Owner}
use Rattle.xom_script.specs.declared.run_file.RunFile.{RunFile}
use Rattle.journal_text.specs.Readings.{IsJournal}
use Rattle.trace_judge.specs.Judgement.{judgement}
use Rattle.trace_judge.specs.ReportText.{report_text}
use Rattle.xom_debug.specs.Commands.{AreCommands}
use Rattle.xom_debug.specs.declared.command.Command.{Command}
use Rattle.cli_debug.specs.Debug.{text_by}
use Rattle.cli_judge.specs.Judge.{judge_status}
use Rattle.cli_runs.specs.OwnerImages.{owners_of}
use Rattle.cli_runs.specs.RunFiles.{run_file_of}
use Rattle.run_text.specs.Console.{console_of}
use Rattle.cli_trace.specs.Trace.{GuestsFollow, NamesFinding, journal_file, last_record, report_of, trace_answer, trace_of, trace_text}

-- the statuses that there are
abbrev pub IsStatus : ℕ → Type 0
IsStatus status =
    IsDone status ⊎ (status ≡ 1) ⊎ (status ≡ 2) ⊎ (status ≡ 3) ⊎ (status ≡ 4) ⊎ (status ≡ 5)

-- 1 exactly where the words match no row, unless memory ran out
pub record WordsCause (words : List (List ℕ)) (status : ℕ) : Type 0 where
  pub only : status ≡ 1 → row_of_words words ≡ None
  pub sure : row_of_words words ≡ None → (status ≡ 1) ⊎ (status ≡ 5)

-- 2 only where the count of reads rose or, where it is told, a file that is read isn't held
abbrev pub ReadCause : List (List ℕ) → Outside → Outside → ℕ → Type 0
ReadCause words before after status =
    status ≡ 2 → Rises before.reads after.reads ⊎ IsSomeAnd before.disk.held
    (λ held. (name : List ℕ) × (held name ≡ None) × IsPrinted words held
    (printed_text (Err (Unread name))))

-- the command reads a file of this name: were it not held, that would be said
abbrev pub IsReadBy : List (List ℕ) → Held → List ℕ → Type 0
IsReadBy words held name = IsPrinted words (held_without name held) (printed_text (Err (Unread name)))

-- the line that says of a file that it can't be read was written; where it is told what files hold,
-- the command reads that file
abbrev pub SaysUnread : List (List ℕ) → Outside → Outside → Type 0
SaysUnread words before after =
    (name : List ℕ) × AppendsToSink before.output.written after.output.written (refusal_text (Unread name))
    × ((held : Held) → before.disk.held ≡ Some held → IsReadBy words held name)

-- where the count of reads rose, that is answered and said, unless memory ran out; the sink may
-- fail in the line
abbrev pub IsUnread : List (List ℕ) → Outside → Outside → ℕ → Type 0
IsUnread words before after status = before.reads < after.reads
    → (status ≡ 5) ⊎ ((status ≡ 2) × (¬ Rises before.output.faults after.output.faults
    → SaysUnread words before after))

-- the sink's count rose, or that of writes
abbrev pub FailsWriting : Outside → Outside → Type 0
FailsWriting before after =
    Rises before.output.faults after.output.faults ⊎ Rises before.disk.writes after.disk.writes

-- 3 only there
abbrev pub WriteCause : Outside → Outside → ℕ → Type 0
WriteCause before after status = status ≡ 3 → FailsWriting before after

-- a command is carried out without a fault
abbrev pub DoneCause : Outside → Outside → ℕ → Type 0
DoneCause before after status =
    IsDone status
    → (after.reads ≡ before.reads) × (after.disk.writes ≡ before.disk.writes)
    × (after.output.faults ≡ before.output.faults)

-- where it is told what files hold: but for the statuses 2, 3 and 5, the status is the defined one
abbrev pub IsDefined : List (List ℕ) → Outside → ℕ → Type 0
IsDefined words before status = (held : Held) → before.disk.held ≡ Some held → status ≢ 2
    → status ≢ 3 → status ≢ 5
    → (p : Printed) × IsPrinted words held p × (p.status ≡ status)

-- and where no count of reads rose, it is the defined one, or 5, or the command's text or file
-- couldn't be written
abbrev pub IsSure : List (List ℕ) → Outside → Outside → ℕ → Type 0
IsSure words before after status = (held : Held) → before.disk.held ≡ Some held
    → ¬ Rises before.reads after.reads
    → (status ≡ 5) ⊎ ((p : Printed) × IsPrinted words held p
    × ((status ≡ p.status) ⊎ ((status ≡ 3) × FailsWriting before after × IsDone p.status)))

-- the files hold what they held, and this file beside, where there is one
abbrev pub WritesFile : Disk → Disk → Option OutputFile → Type 0
WritesFile before after None = after.held ≡ before.held
WritesFile before after (Some file) =
    HoldsFile after.held file.name file.bytes × KeepsOthers before.held after.held file.name

-- where no count rose, and memory was found, all of the defined text and file was written
abbrev pub WritesAll : List (List ℕ) → Outside → Outside → ℕ → Type 0
WritesAll words before after status = (held : Held) → before.disk.held ≡ Some held
    → ¬ Rises before.reads after.reads → ¬ FailsWriting before after → status ≢ 5
    → (p : Printed) × IsPrinted words held p × AppendsToSink before.output.written after.output.written
    p.text × WritesFile before.disk after.disk p.file

-- A command that was carried out wrote all of the text and the file of the outcome whose status it
-- has, whatever the counts stand at.
abbrev pub WritesDone : List (List ℕ) → Outside → Outside → ℕ → Type 0
WritesDone words before after status = (held : Held) → before.disk.held ≡ Some held → IsDone status
    → (p : Printed) × IsPrinted words held p × (p.status ≡ status) × AppendsToSink before.output.written
    after.output.written p.text × WritesFile before.disk after.disk p.file

-- the first n bytes of the text were written
abbrev pub WritesFirst : Outside → Outside → ℕ → List ℕ → Type 0
WritesFirst before after n text = AppendsToSink before.output.written after.output.written (take n text)

-- Always some first bytes of the defined text were written, or none; where a read failed, of the
-- line that says so of a file
-- that the command reads.
-- Where any were, the file is there.
abbrev pub WritesPrefix : List (List ℕ) → Outside → Outside → Type 0
WritesPrefix words before after = (held : Held) → before.disk.held ≡ Some held
    → (after.output.written ≡ before.output.written)
    ⊎ ((p : Printed) × IsPrinted words held p × WritesFile before.disk after.disk p.file
    × ((n : ℕ) × WritesFirst before after n p.text))
    ⊎ (Rises before.reads after.reads × ((name : List ℕ) × IsReadBy words held name
    × ((n : ℕ) × WritesFirst before after n (refusal_text (Unread name)))))

-- Where no put failed, files hold what they held, or the command's file is there whole.
abbrev pub WritesWhole : List (List ℕ) → Outside → Outside → Type 0
WritesWhole words before after = (held : Held) → before.disk.held ≡ Some held
    → ¬ Rises before.disk.writes after.disk.writes
    → (after.disk.held ≡ before.disk.held) ⊎ ((p : Printed) × IsPrinted words held p
    × WritesFile before.disk after.disk p.file)

-- the file that the words name to be written
abbrev pub target_in : List (List ℕ) → Option (List ℕ)
target_in words = option_and_then target_of (row_of_words words)

-- no name changes but the one that the command writes
abbrev pub ChangesOnly : List (List ℕ) → Outside → Outside → Type 0
ChangesOnly words before after =
    MatchOption (target_in words) (after.disk.held ≡ before.disk.held)
    (KeepsOthers before.disk.held after.disk.held)

-- where the words name no file to be written, what files hold and their count of writes stay
abbrev pub IsUnput : List (List ℕ) → Outside → Outside → Type 0
IsUnput words before after =
    (held : Held) → before.disk.held ≡ Some held → target_in words ≡ None → after.disk ≡ before.disk

-- and none where the words, a file that is read, or an input is refused
abbrev pub KeepsFiles : Outside → Outside → ℕ → Type 0
KeepsFiles before after status =
    (status ≡ 1) ⊎ (status ≡ 2) ⊎ (status ≡ 4) → after.disk ≡ before.disk

-- where a file couldn't be put, nothing is printed
abbrev pub IsUnprinted : Outside → Outside → Type 0
IsUnprinted before after = before.disk.writes < after.disk.writes → after.output ≡ before.output

-- ---- What the owner of a guest may believe

-- The headline: where `trace` was carried out, its text is the console of the run that the run file
-- defines, the report on the journal that this run made, and the line of its events, and its file,
-- where one is named, has the text of this journal; and unless this report names a tag that was
-- accepted for bytes never sealed, or two hashed texts of one digest, each installed guest's
-- recorded steps are those of its owner's program, run alone with the values that it received.
abbrev pub GuestsRunAlone : List (List ℕ) → Outside → Outside → ℕ → Type 0
GuestsRunAlone words before after status = (held : Held) → before.disk.held ≡ Some held
    → (run : List ℕ) (journal : Option (List ℕ)) → row_of_words words ≡ Some (Trace run journal)
    → IsDone status
    → (parts : Parts) × (parts_of held run ≡ Ok parts) × AppendsToSink before.output.written
    after.output.written (trace_text (report_of parts) (last_record parts))
    × WritesFile before.disk after.disk (journal_file journal (last_record parts).core.entries)
    × GuestsFollow parts

-- Where `run` was carried out, its text is the console of the run that `trace` makes of the same
-- run file, and its status is that of this trace; and the same is so of each guest's steps.
abbrev pub PrintsConsole : List (List ℕ) → Outside → Outside → ℕ → Type 0
PrintsConsole words before after status = (held : Held) → before.disk.held ≡ Some held
    → (run : List ℕ) → row_of_words words ≡ Some (Run run) → IsDone status
    → (parts : Parts) × (parts_of held run ≡ Ok parts)
    × (trace_of held run None ≡ Ok (trace_answer None parts)) × (status ≡ (trace_answer None parts).status)
    × AppendsToSink before.output.written after.output.written
    (console_of (last_record parts).core.entries) × GuestsFollow parts

-- the words ask for the run of this run file
abbrev pub AsksForRun : List (List ℕ) → List ℕ → Type 0
AsksForRun words run =
    (row_of_words words ≡ Some (Run run))
    ⊎ ((journal : Option (List ℕ)) × (row_of_words words ≡ Some (Trace run journal)))

-- Under `run` and `trace` 9 comes only where the report names a forged entry or a collision: no
-- guest departs there, and each has an owner.
abbrev pub FindingCause : List (List ℕ) → Outside → ℕ → Type 0
FindingCause words before status = (held : Held) → before.disk.held ≡ Some held → (run : List ℕ)
    → AsksForRun words run → status ≡ 9
    → (parts : Parts) × (parts_of held run ≡ Ok parts) × NamesFinding (report_of parts)

-- Where `judge` was carried out, the journal's file is the text of a list of entries, its text is
-- the report on just these entries by the machine key and the owners of the run file, and its
-- status is 9 where this report is suspect, else 8 where an entry is a Stop, else 0.
pub record IsJudged (held : Held) (before after : Outside) (run journal : List ℕ)
    (status : ℕ) : Type 0 where
  pub file : RunFile
  pub owners : List Owner
  pub text : List ℕ
  pub entries : List Entry
  pub file_is : run_file_of held run ≡ Ok file
  pub owners_are : owners_of held file.owners ≡ Ok owners
  pub text_is : held journal ≡ Some text
  pub entries_are : IsJournal text entries
  pub status_is : status ≡ judge_status (judgement file.machine owners entries) entries
  pub prints : AppendsToSink before.output.written after.output.written
      (report_text (judgement file.machine owners entries))

-- where `judge` was carried out over files that tell what they hold, `IsJudged` says what it
-- printed
abbrev pub JudgesJournal : List (List ℕ) → Outside → Outside → ℕ → Type 0
JudgesJournal words before after status = (held : Held) → before.disk.held ≡ Some held
    → (run journal : List ℕ) → row_of_words words ≡ Some (Judge run journal) → IsDone status
    → IsJudged held before after run journal status

-- ---- What a debugger prints

-- Where `debug` was carried out, the file of commands is the text of a list of commands, its status
-- is 0, and its text is that of just these commands over the run that `trace` makes of the same run
-- file: a function of the commands, of the events of this run, and of what is seen of the machine
-- before the first and after each.
pub record IsRunDebugged (held : Held) (before after : Outside) (run commands : List ℕ)
    (status : ℕ) : Type 0 where
  pub parts : Parts
  pub text : List ℕ
  pub list : List Command
  pub parts_are : parts_of held run ≡ Ok parts
  pub text_is : held commands ≡ Some text
  pub list_is : AreCommands text list
  pub status_is : status ≡ 0
  pub prints : AppendsToSink before.output.written after.output.written
      (text_by parts.file parts.guests parts.kernel list)

-- that of a call whose words are a row of `debug`, over files that tell what they hold
abbrev pub PrintsDebug : List (List ℕ) → Outside → Outside → ℕ → Type 0
PrintsDebug words before after status = (held : Held) → before.disk.held ≡ Some held
    → (run commands : List ℕ) → row_of_words words ≡ Some (Debug run commands) → IsDone status
    → IsRunDebugged held before after run commands status

-- all of this, of a call with these words
pub record Promises (words : List (List ℕ)) (before after : Outside) (status : ℕ) : Type 0 where
  pub answers : IsStatus status
  pub words_cause : WordsCause words status
  pub read_cause : ReadCause words before after status
  pub unread : IsUnread words before after status
  pub write_cause : WriteCause before after status
  pub done_cause : DoneCause before after status
  pub defined : IsDefined words before status
  pub sure : IsSure words before after status
  pub all : WritesAll words before after status
  pub done_all : WritesDone words before after status
  pub prefix : WritesPrefix words before after
  pub changes : ChangesOnly words before after
  pub unput : IsUnput words before after
  pub whole : WritesWhole words before after
  pub keeps : KeepsFiles before after status
  pub unprinted : IsUnprinted before after
  pub headline : GuestsRunAlone words before after status
  pub console : PrintsConsole words before after status
  pub finding_cause : FindingCause words before status
  pub judges : JudgesJournal words before after status
  pub debugs : PrintsDebug words before after status
