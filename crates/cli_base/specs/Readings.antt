-- What reading the files of a command gives, where `Wanted` says what it is to give of what files
-- hold.
use Rattle.std.specs.Prelude.{◌≡◌, ◌⊎◌, ℕ, ◌≤◌, List, Some, Result, Ok, Err, IsSomeAnd}
use Rattle.xom_io.specs.Answers.{FilesTold, Rises}
use Rattle.xom_base.specs.Memory.{OrOut}
use Rattle.text_lines.specs.declared.lines.TextFault.{TextFault}
use Rattle.text_lines.specs.declared.lines.TextFault.TheVariants as text_fault
use Rattle.cli_base.specs.declared.refusal.InputFault.TheVariants.{BadLine}
use Rattle.cli_base.specs.declared.refusal.InputStop.{InputStop}
use Rattle.cli_base.specs.declared.refusal.InputStop.TheVariants as input_stop
use Rattle.cli_base.specs.declared.refusal.Refusal.{Refusal}
use Rattle.cli_base.specs.declared.refusal.Refusal.TheVariants.{Unread, Bad}
use Rattle.cli_base.specs.declared.refusal.Stop.{Stop}
use Rattle.cli_base.specs.declared.refusal.Stop.TheVariants as stop
use Rattle.cli_base.specs.Inputs.{Held, held_without}

-- where it is told what files hold, this is what was wanted
abbrev pub IsWanted : {Y : Type 0} → FilesTold → (Held → Result Y Refusal → Type 0) → Result Y Refusal
    → Type 0
IsWanted told Wanted result = (held : Held) → told ≡ Some held → Wanted held result

-- a file of this name is read where it is told what files hold: were it not held, that would be
-- refused
abbrev pub IsRead : {Y : Type 0} → FilesTold → (Held → Result Y Refusal → Type 0) → List ℕ → Type 0
IsRead told Wanted name =
    (held : Held) → told ≡ Some held → Wanted (held_without name held) (Err (Unread name))

-- why reading stopped. The counts are those of reads, before and after
abbrev pub FilesRefuse : {Y : Type 0} → FilesTold → (Held → Result Y Refusal → Type 0) → ℕ → ℕ → Refusal
    → Type 0
FilesRefuse told Wanted before after (Unread name) =
    (before ≤ after) × (Rises before after
    ⊎ IsSomeAnd told (λ held. Wanted held (Err (Unread name)))) × IsRead told Wanted name
FilesRefuse told Wanted before after (Bad name fault) =
    (after ≡ before) × IsWanted told Wanted (Err (Bad name fault))

-- want of memory comes freely
abbrev pub FilesStop : {Y : Type 0} → FilesTold → (Held → Result Y Refusal → Type 0) → ℕ → ℕ → Stop → Type 0
FilesStop told Wanted before after (stop.Refused refusal) = FilesRefuse told Wanted before after refusal
FilesStop told Wanted before after stop.NoMemory = before ≤ after

-- what reading answered meets what was wanted
abbrev pub Meets : {Y : Type 0} → FilesTold → (Held → Result Y Refusal → Type 0) → ℕ → ℕ → Result Y Stop
    → Type 0
Meets told Wanted before after (Ok value) = (after ≡ before) × IsWanted told Wanted (Ok value)
Meets told Wanted before after (Err why) = FilesStop told Wanted before after why

-- and is what a function of what files hold gives
abbrev pub FilesGive : {Y : Type 0} → FilesTold → (Held → Result Y Refusal) → ℕ → ℕ → Result Y Stop → Type 0
FilesGive told wanted before after result =
    Meets told (λ held outcome. wanted held ≡ outcome) before after result

-- a refusal was made, unless memory ran out
abbrev pub MakesRefusal : Stop → Refusal → Type 0
MakesRefusal made refusal = (made ≡ stop.Refused refusal) ⊎ (made ≡ stop.NoMemory)

-- what the reader of a text in lines answered
abbrev pub IsLined : {A : Type 0} → Result A TextFault → Result A InputStop → Type 0
IsLined (Ok value) result = result ≡ Ok value
IsLined (Err (text_fault.Line line)) result = result ≡ Err (input_stop.Fault (BadLine line))
IsLined (Err text_fault.NoMemory) result = result ≡ Err input_stop.NoMemory

-- what a reader answered, with the name of the file
abbrev pub IsNamed : {A : Type 0} → List ℕ → Result A InputStop → Result A Stop → Type 0
IsNamed name (Ok value) result = result ≡ Ok value
IsNamed name (Err (input_stop.Fault fault)) result =
    OrOut stop.NoMemory (Err (stop.Refused (Bad name fault))) result
IsNamed name (Err input_stop.NoMemory) result = result ≡ Err stop.NoMemory
