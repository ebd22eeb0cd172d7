-- `debug RUN COMMANDS`: what the commands of a debugger print of the run that `trace RUN` makes.
use Rattle.std.specs.Prelude.{ℕ, List, [], Option, Result, Ok, unwrap_or}
use Rattle.cli_base.specs.Commands.{prints}
use Rattle.cli_base.specs.Inputs.{◌>>=◌, Held, in_lines, input_of}
use Rattle.cli_base.specs.declared.answer.Answer.{Answer}
use Rattle.cli_base.specs.declared.refusal.Refusal.{Refusal}
use Rattle.cli_runs.specs.Parts.{parts_of}
use Rattle.cli_runs.specs.declared.guest_image.GuestImage.{GuestImage}
use Rattle.cli_runs.specs.declared.kernel_file.KernelFile.{KernelFile}
use Rattle.cli_runs.specs.declared.kernel_file.KernelFile.TheVariants as kernel
use Rattle.cli_runs.specs.declared.parts.Parts.{Parts}
use Rattle.power_on.specs.Start.{first_of}
use Rattle.kernels.specs.Turns.{image_told, script_told}
use Rattle.power_on.specs.Shipped.{shipped_versions}
use Rattle.xom_debug.specs.Commands.{commands_at}
use Rattle.xom_debug.specs.DebugTexts.{debug_text}
use Rattle.xom_debug.specs.Moments.{Moment, moments_from}
use Rattle.xom_debug.specs.declared.command.Command.{Command}
use Rattle.xom_model.specs.Seen.{View, view_of}
use Rattle.xom_model.specs.State.{Record}
use Rattle.xom_model.specs.declared.outcome.Turn.{Turn}
use Rattle.xom_script.specs.declared.run_file.RunFile.{RunFile}

-- ---- What is read

-- at most so many bytes are in a file of commands
abbrev pub commands_limit : ℕ
commands_limit = 65536

-- the commands that a file holds, or why they can't be had
unfoldable pub commands_of : Held → List ℕ → Result (List Command) Refusal
commands_of = input_of commands_limit (λ text. in_lines (commands_at text))

-- ---- What is answered

-- the moments of the run of a kernel that tells its turns, under the schedule and within the budget
-- of a run file
abbrev pub moments_under : {K : Type 0} → (K → View → Option (Turn × (List ℕ × K))) → K → RunFile
    → Record → List Moment
moments_under told k file first =
    unwrap_or (moments_from shipped_versions told file.schedule file.budget 0 first k) []

-- the moments of the run that a script or a kernel's image makes of a run file and its guests
abbrev pub moments_by : RunFile → List GuestImage → KernelFile → List Moment
moments_by file guests (kernel.Script script) =
    moments_under script_told script.lines file (first_of file guests (kernel.Script script))
moments_by file guests (kernel.Image image) =
    moments_under image_told tt file (first_of file guests (kernel.Image image))

-- the text of the commands over them
abbrev pub text_by : RunFile → List GuestImage → KernelFile → List Command → List ℕ
text_by file guests k commands =
    debug_text commands (view_of (first_of file guests k)) (moments_by file guests k)

-- that text, with status 0
unfoldable pub debug_answer : Parts → List Command → Answer
debug_answer parts commands = prints (text_by parts.file parts.guests parts.kernel commands)

-- The answer of the command: the run file and what it names are read, then the commands.
unfoldable pub debug_of : Held → List ℕ → List ℕ → Result Answer Refusal
debug_of held run commands = do
  parts ← parts_of held run
  list ← commands_of held commands
  Ok (debug_answer parts list)
