-- A run that stopped in one of its files.
use Rattle.std.proofs.Common.{ℕ, List, Ok, Err}
use Rattle.xom_io.specs.Answers.{FilesTold}
use Rattle.xom_owners.specs.declared.owner.Owner.{Owner}
use Rattle.xom_script.specs.declared.run_file.GuestFile.{GuestFile}
use Rattle.xom_script.specs.declared.run_file.RunFile.{RunFile}
use Rattle.cli_base.specs.declared.refusal.Stop.{Stop}
use Rattle.cli_base.specs.Readings.{FilesGive}
use Rattle.cli_base.proofs.Without.{stops-after, stops-through}
use Rattle.cli_runs.specs.GuestFiles.{guest_and_input, guests_and_inputs, placed_guest_of, read_input}
use Rattle.cli_runs.specs.KernelFiles.{kernel_of_line}
use Rattle.cli_runs.specs.OwnerImages.{owners_of}
use Rattle.cli_runs.specs.Parts.{parts_named, parts_of}
use Rattle.cli_runs.specs.Places.{first_frame}
use Rattle.cli_runs.specs.RunFiles.{built_run_of}
use Rattle.cli_runs.specs.declared.guest_image.GuestImage.{GuestImage}
use Rattle.cli_runs.specs.declared.parts.Parts.{Parts}
use Rattle.std.proofs.Common.{Result}
use Rattle.cli_runs.proofs.Steps.{gives-after}
use Rattle.cli_runs.proofs.Unheld.{built_run-without, guests-without, owners-without, placed_guest-without}

-- a guest, in its input
pub guest_stops : (told : FilesTold) (run : List ℕ) (frames frame : ℕ) (line : GuestFile)
    (before between after : ℕ) (image : GuestImage) (why : Stop)
    → FilesGive told (λ held. placed_guest_of held run frames frame line) before between (Ok image)
    → FilesGive told (λ held. read_input held line.input) between after (Err why)
    → FilesGive told (λ held. guest_and_input held run frames frame line) before after (Err why)
unfolding guest_and_input
guest_stops told run frames frame line before between after image why gave is =
    stops-after told (λ held. placed_guest_of held run frames frame line) _ before between after
    image why (λ held name. placed_guest-without run frames held name frame line) gave
    (stops-through told (λ held. read_input held line.input) _ between after why is)

module _ (told : FilesTold) (run : List ℕ) (file : RunFile) where
  -- what a run file names, in a guest
  pub named_stop_guests : (before between after : ℕ) (owners : List Owner) (why : Stop)
      → FilesGive told (λ held. owners_of held file.owners) before between (Ok owners)
      → FilesGive told (λ held. guests_and_inputs held run file.frames first_frame file.guests) between after
      (Err why)
      → FilesGive told (λ held. parts_named held run file) before after (Err why)
  unfolding parts_named
  named_stop_guests before between after owners why gave is =
      stops-after told (λ held. owners_of held file.owners) _ before between after owners why
      (λ held name. owners-without held name file.owners) gave
      (stops-through told (λ held. guests_and_inputs held run file.frames first_frame file.guests) _ between
      after why is)

  -- and in its kernel
  pub named_stop_kernel : (before between later after : ℕ) (owners : List Owner)
      (guests : List GuestImage) (why : Stop)
      → FilesGive told (λ held. owners_of held file.owners) before between (Ok owners)
      → FilesGive told (λ held. guests_and_inputs held run file.frames first_frame file.guests) between later
      (Ok guests)
      → FilesGive told (λ held. kernel_of_line held run file.frames file.kernel_line file.kernel) later after
      (Err why)
      → FilesGive told (λ held. parts_named held run file) before after (Err why)
  unfolding parts_named
  named_stop_kernel before between later after owners guests why gave read is =
      stops-after told (λ held. owners_of held file.owners) _ before between after owners why
      (λ held name. owners-without held name file.owners) gave
      (stops-after told (λ held. guests_and_inputs held run file.frames first_frame file.guests) _ between
      later after guests why
      (λ held name. guests-without run file.frames held name first_frame file.guests) read
      (stops-through told (λ held. kernel_of_line held run file.frames file.kernel_line file.kernel)
      _ later after why is))

-- a run file was read, and what it names was read, or refused
pub parts_end : (told : FilesTold) (run : List ℕ) (before between after : ℕ) (file : RunFile)
    (result : Result Parts Stop)
    → FilesGive told (λ held. built_run_of held run) before between (Ok file)
    → FilesGive told (λ held. parts_named held run file) between after result
    → FilesGive told (λ held. parts_of held run) before after result
unfolding parts_of
parts_end told run before between after file result gave is =
    gives-after told (λ held. built_run_of held run) (λ file held. parts_named held run file) before
    between after file result (λ held name. built_run-without held name run) gave is
