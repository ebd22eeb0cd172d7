-- The run file of a run.
use Rattle.std.specs.Prelude.{◌≡◌, ℕ, ◌^◌, ◌<◌, ◌≤◌, Bool, true, false, List, length, Result, Ok, Err, if◌then◌else◌}
use Rattle.std.specs.List.{AllByRecursion}
use Rattle.xom_base.specs.Sizes.{id_size, key_size, slot_limit}
use Rattle.xom_script.specs.RunFiles.{run_file_at}
use Rattle.xom_script.specs.RunOrder.{owner_limit}
use Rattle.xom_script.specs.RunRules.{HasOwnIds}
use Rattle.xom_script.specs.declared.run_file.KernelLine.{KernelLine}
use Rattle.xom_script.specs.declared.run_file.KernelLine.TheVariants as kernel
use Rattle.xom_script.specs.declared.run_file.OwnerFile.{OwnerFile}
use Rattle.xom_script.specs.declared.run_file.RunFile.{RunFile}
use Rattle.cli_base.specs.declared.refusal.InputFault.{InputFault}
use Rattle.cli_base.specs.declared.refusal.InputFault.TheVariants.{NotBuilt}
use Rattle.cli_base.specs.declared.refusal.Refusal.{Refusal}
use Rattle.cli_base.specs.Inputs.{◌>>=◌, Held, in_file, in_lines, input_of}
use Rattle.cli_runs.specs.Schedules.{KeepsSchedule}

-- ---- What is read

-- at most so many bytes are in a run file
abbrev pub run_limit : ℕ
run_limit = 65536

-- a run file, by all of its lines
unfoldable pub run_file_of : Held → List ℕ → Result RunFile Refusal
run_file_of = input_of run_limit (λ text. in_lines (run_file_at text))

-- a kernel that can be run: all but the one that is built in
abbrev pub is_built : KernelLine → Bool
is_built (kernel.Script name) = true
is_built (kernel.Image name) = true
is_built (kernel.Xomos pages) = false

-- the run file, unless its kernel is one that isn't built
abbrev pub built_at : RunFile → Result RunFile InputFault
built_at file = if is_built file.kernel then Ok file else Err NotBuilt

-- a run file whose kernel can be run, looked at right behind the grammar
unfoldable pub built_run_of : Held → List ℕ → Result RunFile Refusal
built_run_of held run = do
  file ← run_file_of held run
  in_file run (built_at file)

-- ---- What can be said of it

-- the key and the id of an owner's line have their lengths
pub record IsOwnerLine (line : OwnerFile) : Type 0 where
  pub key : length line.key.0 ≡ key_size
  pub id : length line.id.0 ≡ id_size

-- what the machine wants of a run file: its numbers are in their ranges, no two owners have one id,
-- and its schedule keeps
-- the rules
pub record IsRunnable (file : RunFile) : Type 0 where
  pub boot : file.boot < 2 ^ 63
  pub frames_least : 4 ≤ file.frames
  pub frames_most : file.frames ≤ 8192
  pub budget : file.budget ≤ 2 ^ 20
  pub ids : HasOwnIds file.owners
  pub owners : AllByRecursion IsOwnerLine file.owners
  pub few_owners : length file.owners ≤ owner_limit
  pub few_guests : length file.guests ≤ slot_limit
  pub schedule : KeepsSchedule file.frames file.schedule
