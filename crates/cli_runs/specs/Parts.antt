-- All that a run is made of.
use Rattle.std.specs.Prelude.{ℕ, List, Result, Ok}
use Rattle.xom_script.specs.declared.run_file.RunFile.{RunFile}
use Rattle.cli_base.specs.declared.refusal.Refusal.{Refusal}
use Rattle.cli_base.specs.Inputs.{◌>>=◌, Held}
use Rattle.cli_runs.specs.GuestFiles.{guests_and_inputs}
use Rattle.cli_runs.specs.KernelFiles.{FitsKernel, kernel_of_line}
use Rattle.cli_runs.specs.OwnerImages.{AreWhole, owners_of}
use Rattle.cli_runs.specs.Places.{FitsAll, first_frame}
use Rattle.cli_runs.specs.RunFiles.{IsRunnable, built_run_of}
use Rattle.cli_runs.specs.declared.parts.Parts.{Parts}

-- what a run file names, in the order of its lines
unfoldable pub parts_named : Held → List ℕ → RunFile → Result Parts Refusal
parts_named held run file = do
  owners ← owners_of held file.owners
  guests ← guests_and_inputs held run file.frames first_frame file.guests
  kernel ← kernel_of_line held run file.frames file.kernel_line file.kernel
  Ok (record { file = file; owners = owners; guests = guests; kernel = kernel })

-- a run file, and then what it names
unfoldable pub parts_of : Held → List ℕ → Result Parts Refusal
parts_of held run = do
  file ← built_run_of held run
  parts_named held run file

-- what the machine wants of the parts of a run: all that it is made of keeps the rules, and lies in
-- RAM
pub record CanRun (parts : Parts) : Type 0 where
  pub file : IsRunnable parts.file
  pub owners : AreWhole parts.owners
  pub guests : FitsAll parts.file.frames first_frame parts.guests
  pub kernel : FitsKernel parts.file.frames parts.kernel
