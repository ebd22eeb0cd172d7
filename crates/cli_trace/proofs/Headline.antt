-- The headline: unless the report of a run names a finding, every guest of it follows.
use Rattle.std.proofs.Common.{◌≡◌, ℕ, ◌<◌, ◌^◌, List, [], Option, Some, None, Ok, refl, sym, subst, ◌∙◌, arith}
use Rattle.std.specs.Prelude.{unwrap_or}
use Rattle.xom_model.specs.declared.outcome.Turn.{Turn}
use Rattle.xom_model.specs.Honest.{IsBounded}
use Rattle.xom_model.specs.Run.{run_from}
use Rattle.xom_model.specs.Seen.{View}
use Rattle.xom_model.specs.State.{Record}
use Rattle.xom_model.proofs.RunEvents.{run-IsRunOf}
use Rattle.headline_law.specs.Headline.{CameFromPowerOn}
use Rattle.headline_law.proofs.Headline.{runs-judged}
use Rattle.cli_runs.specs.declared.kernel_file.KernelFile.{KernelFile}
use Rattle.cli_runs.specs.declared.kernel_file.KernelFile.TheVariants as kernel
use Rattle.cli_runs.specs.declared.parts.Parts.{Parts}
use Rattle.cli_base.specs.Inputs.{Held}
use Rattle.text_lines.proofs.LineLaws.{same_Ok}
use Rattle.xom_io.specs.Answers.{FilesTold}
use Rattle.cli_runs.specs.Parts.{CanRun, parts_of}
use Rattle.cli_runs.specs.RunFiles.{IsRunnable}
use Rattle.cli_runs.specs.declared.guest_image.GuestImage.{GuestImage}
use Rattle.xom_base.specs.declared.image.PlainImage.{PlainImage}
use Rattle.xom_script.specs.declared.run_file.RunFile.{RunFile}
use Rattle.kernels.specs.Turns.{image_told, script_told}
use Rattle.power_on.specs.Shipped.{ShippedStands, shipped_versions}
use Rattle.power_on.specs.Start.{first_record, null_entry, ram_at_start}
use Rattle.power_on.proofs.ShippedLaw.{shipped_law}
use Rattle.cli_trace.specs.Trace.{GuestsFollow, RunFollows, last_by, last_record}
use Rattle.power_on.proofs.Schedules.{is_schedule}
use Rattle.cli_trace.proofs.Runnable.{are_owners}

module _ (file : RunFile) (runnable : IsRunnable file) (guests : List GuestImage)
    (code : Option PlainImage) where
  abbrev first : Record
  first = first_record shipped_versions file.machine file.boot file.frames code guests

  low : file.boot < 2 ^ 64
  low = let booted : file.boot < 2 ^ 63 = runnable.boot in omega arith

  -- the last record of a run comes from power-on by events that may come
  from_run : {K : Type 0} (told : K → View → Option (Turn × (List ℕ × K))) (k : K)
      (last : Option Record)
      → run_from shipped_versions told file.schedule file.budget 0 first k ≡ last
      → IsBounded (unwrap_or last first).core.entries
      → CameFromPowerOn shipped_versions file.machine (unwrap_or last first)
  from_run told k None is few = record {
    boot = file.boot;
    ram = ram_at_start file.frames code guests;
    pc = null_entry code;
    events = [];
    low = low;
    fit = tt;
    made = refl;
    room = few;
  }
  from_run told k (Some last) is few =
      let run = run-IsRunOf shipped_versions told file.schedule (is_schedule file.frames file.schedule
      runnable.schedule) file.budget 0 first k last is in
      record {
        boot = file.boot;
        ram = ram_at_start file.frames code guests;
        pc = null_entry code;
        events = run.events;
        low = low;
        fit = run.fit;
        made = run.made;
        room = few;
      }

from_kernel : (file : RunFile) → IsRunnable file → (guests : List GuestImage) (k : KernelFile)
    → IsBounded (last_by file guests k).core.entries
    → CameFromPowerOn shipped_versions file.machine (last_by file guests k)
from_kernel file runnable guests (kernel.Script script) few =
    from_run file runnable guests None script_told script.lines _ refl few
from_kernel file runnable guests (kernel.Image image) few =
    from_run file runnable guests (Some image) image_told tt _ refl few

pub guests_follow : (parts : Parts) → CanRun parts → IsBounded (last_record parts).core.entries
    → GuestsFollow parts
unfolding last_record
guests_follow parts can few =
    runs-judged shipped_versions ShippedStands shipped_law parts.owners (are_owners parts.owners can.owners)
    parts.file.machine
    (last_by parts.file parts.guests parts.kernel) (from_kernel parts.file can.file parts.guests
    parts.kernel few)

-- what is so of the parts that were read is so of the run file
pub run_follows : (told : FilesTold) (run : List ℕ) (parts : Parts)
    → ((held : Held) → told ≡ Some held → parts_of held run ≡ Ok parts) → GuestsFollow parts
    → RunFollows told run
run_follows told run parts read follow held is other also =
    subst GuestsFollow (same_Ok parts other (sym (read held is) ∙ also)) follow
