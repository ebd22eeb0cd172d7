-- How a call ends, and what it has done to files and sink by then.
use Rattle.std.specs.Prelude.{◌≡◌, ◌⊎◌, ℕ, List, Option, Some, None, Result, Ok, Err}
use Rattle.xom_io.specs.declared.files.FileFault.{FileFault}
use Rattle.xom_io.specs.declared.files.FileFault.TheVariants as file_fault
use Rattle.xom_io.specs.declared.sink.SinkFault.{SinkFault}
use Rattle.xom_io.specs.declared.sink.SinkFault.TheVariants as sink_fault
use Rattle.xom_io.specs.Answers.{FilesTold, KeepsOthers, Puts, TakesAll}
use Rattle.cli_base.specs.declared.answer.Answer.{Answer}
use Rattle.cli_base.specs.declared.answer.OutputFile.{OutputFile}
use Rattle.cli_delivery.specs.declared.ending.Ending.{Ending}
use Rattle.cli_delivery.specs.declared.ending.Ending.TheVariants as ending
use Rattle.cli_base.specs.Commands.{IsDone}
use Rattle.cli_base.specs.declared.refusal.Refusal.{Refusal}
use Rattle.cli_base.specs.declared.refusal.Refusal.TheVariants.{Unread, Bad}
use Rattle.cli_base.specs.declared.refusal.Stop.{Stop}
use Rattle.cli_base.specs.declared.refusal.Stop.TheVariants as stop
use Rattle.cli_base.specs.Refusals.{refusal_text}

-- what files tell, and their count of writes that failed
pub record Disk : Type 0 where
  pub held : FilesTold
  pub writes : ℕ

-- what a sink tells, and its count of faults
pub record Output : Type 0 where
  pub written : Option (List ℕ)
  pub faults : ℕ

-- the files, their count of reads that failed, and the sink
pub record Outside : Type 0 where
  pub disk : Disk
  pub reads : ℕ
  pub output : Output

-- the disk, from what is told and counted
abbrev pub disk : FilesTold → ℕ → Disk
disk held writes = record { held = held; writes = writes }

-- the output that has these bytes written, and so many faults counted
abbrev pub output : Option (List ℕ) → ℕ → Output
output written faults = record { written = written; faults = faults }

-- the outside with this disk, so many reads counted, and this output
abbrev pub outside : Disk → ℕ → Output → Outside
outside files reads sink = record { disk = files; reads = reads; output = sink }

-- the status of an ending
abbrev pub status_of : Ending → ℕ
status_of (ending.Done status) = status
status_of ending.NoRow = 1
status_of ending.Unread = 2
status_of ending.WriteFault = 3
status_of ending.BadInput = 4
status_of ending.NoMemory = 5

-- ---- The sink

-- the ending of a call whose text was put with this answer of the sink
abbrev pub ending_after : Ending → Ending → Result (Unit {0}) SinkFault → Ending
ending_after whole broken (Ok done) = whole
ending_after whole broken (Err sink_fault.Failed) = broken
ending_after whole broken (Err sink_fault.NoMemory) = ending.NoMemory

-- a text was put, and the call ends by that
abbrev pub Prints : Output → Output → List ℕ → Ending → Ending → Ending → Type 0
Prints before after text whole broken result =
    (put : Result (Unit {0}) SinkFault) × TakesAll before.written after.written text before.faults
    after.faults put × (result ≡ ending_after whole broken put)

-- nothing was put, and the call ends so
abbrev pub IsSilent : Output → Output → Ending → Ending → Type 0
IsSilent before after wanted result = (result ≡ wanted) × (after ≡ before)

-- the ending of a refusal, whether or not its line could be printed
abbrev pub ending_of_refusal : Refusal → Ending
ending_of_refusal (Unread name) = ending.Unread
ending_of_refusal (Bad name fault) = ending.BadInput

-- ---- The files

-- the file of an answer was put, where it has one
abbrev pub PutsFile : Disk → Disk → Option OutputFile → Result (Unit {0}) FileFault → Type 0
PutsFile before after None put = (after ≡ before) × (put ≡ Ok tt)
PutsFile before after (Some file) put =
    Puts before.held after.held file.name file.bytes before.writes after.writes put
    × KeepsOthers before.held after.held file.name

-- its text was printed where the file was put, and nothing else was
abbrev pub PrintsBehind : Output → Output → Answer → Result (Unit {0}) FileFault → Ending → Type 0
PrintsBehind before after answer (Ok done) result =
    Prints before after answer.text (ending.Done answer.status) ending.WriteFault result
PrintsBehind before after answer (Err file_fault.Failed) result =
    IsSilent before after ending.WriteFault result
PrintsBehind before after answer (Err file_fault.TooLong) result =
    IsSilent before after ending.WriteFault result
PrintsBehind before after answer (Err file_fault.NoMemory) result =
    IsSilent before after ending.NoMemory result

-- ---- What was answered

-- the file of an answer was put, and then its text
abbrev pub Delivers : Disk → Disk → Output → Output → Answer → Ending → Type 0
Delivers disk_before disk_after before after answer result =
    (put : Result (Unit {0}) FileFault) × PutsFile disk_before disk_after answer.file put
    × PrintsBehind before after answer put result

-- the line of a refusal was printed, unless memory ran out
abbrev pub PrintsRefusal : Output → Output → Refusal → Ending → Type 0
PrintsRefusal before after refusal result =
    IsSilent before after ending.NoMemory result
    ⊎ Prints before after (refusal_text refusal) (ending_of_refusal refusal)
    (ending_of_refusal refusal) result

-- what was answered is delivered
abbrev pub Finishes : Disk → Disk → Output → Output → Result Answer Stop → Ending → Type 0
Finishes disk_before disk_after before after (Ok answer) result =
    IsDone answer.status × Delivers disk_before disk_after before after answer result
Finishes disk_before disk_after before after (Err (stop.Refused refusal)) result =
    (disk_after ≡ disk_before) × PrintsRefusal before after refusal result
Finishes disk_before disk_after before after (Err stop.NoMemory) result =
    (disk_after ≡ disk_before) × IsSilent before after ending.NoMemory result
