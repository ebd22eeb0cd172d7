-- The order of the lines of a run file, and the rules that speak of earlier lines.
use Rattle.std.specs.Prelude.{◌≡◌, ◌≢◌, ℕ, ◌+◌, ◌*◌, ◌-◌, ◌<◌, ◌≤◌, ◌&&◌, ◌==◌, nat_lt, nat_le, not, Bool, true, false, List, [], ◌∷◌, ◌++◌, length, Option, Some, None, slice_get}
use Rattle.std.specs.List.{AllByRecursion, list_any}
use Rattle.std.specs.Option.{option_map_or}
use Rattle.std.specs.Str.{bytes_eq}
use Rattle.xom_base.specs.declared.key.ImageId.{ImageId}
use Rattle.xom_base.specs.declared.key.Key256.{Key256}
use Rattle.xom_base.specs.declared.schedule.Interrupts.{Interrupts}
use Rattle.xom_base.specs.declared.schedule.Poke.{Poke}
use Rattle.xom_base.specs.Options.{where_holds}
use Rattle.xom_base.specs.Sizes.{slot_limit}
use Rattle.xom_base.specs.Frames.{frame_size}
use Rattle.xom_script.specs.declared.run_file.OwnerFile.{OwnerFile}
use Rattle.xom_script.specs.declared.run_file.GuestFile.{GuestFile}
use Rattle.xom_script.specs.declared.run_file.KernelLine.{KernelLine}
use Rattle.xom_script.specs.declared.run_file.KernelLine.TheVariants as kernel
use Rattle.xom_script.specs.declared.run_file.RunFile.{RunFile}
use Rattle.xom_script.specs.declared.run_line.RunLine.{RunLine}
use Rattle.xom_script.specs.declared.run_line.RunLine.TheVariants as line
use Rattle.xom_script.specs.declared.progress.Draft.{Draft}
use Rattle.xom_script.specs.declared.progress.Progress.{Progress}
use Rattle.xom_script.specs.declared.progress.Progress.TheVariants as progress

-- at most so many owners are in a run file
abbrev pub owner_limit : ℕ
owner_limit = 16

-- no earlier owner has this id
abbrev pub IsNewId : ImageId → List OwnerFile → Type 0
IsNewId id owners = AllByRecursion (λ (owner : OwnerFile). owner.id.0 ≢ id.0) owners

-- RAM has room for so many guests of XOMOS: 52 frames for each, beside those for its pages
abbrev pub HasRoom : KernelLine → ℕ → ℕ → Type 0
HasRoom (kernel.Script file) frames guests = Unit {0}
HasRoom (kernel.Image file) frames guests = Unit {0}
HasRoom (kernel.Xomos pages) frames guests = guests * (52 + pages) ≤ frames

-- the number of the last event that is a write of the bus, 0 before the first
abbrev pub last_event : List Poke → ℕ
last_event pokes =
    option_map_or (λ (poke : Poke). poke.event) (slice_get pokes (length pokes - 1)) 0

-- the write lies inside a RAM of so many frames
abbrev pub FitsRam : Poke → ℕ → Type 0
FitsRam poke frames = poke.address + length poke.bytes ≤ frames * frame_size

-- the run so far, before its files
abbrev pub first_draft : Key256 → ℕ → ℕ → ℕ → Draft
first_draft machine boot frames budget =
    record {
      machine = machine;
      boot = boot;
      frames = frames;
      budget = budget;
      owners = [];
      guests =
          [];
    }

-- the run of these files, under a kernel that the line of this number names, before its writes of
-- the bus
abbrev pub run_file : Draft → KernelLine → ℕ → Interrupts → RunFile
run_file draft kernel number interrupts = record {
  machine = draft.machine;
  boot = draft.boot;
  frames = draft.frames;
  budget = draft.budget;
  owners = draft.owners;
  guests = draft.guests;
  kernel = kernel;
  kernel_line = number;
  schedule = record { interrupts = interrupts; pokes = [] };
}

-- the run so far with one more owner
abbrev pub with_owner : Draft → OwnerFile → Draft
with_owner draft owner = record draft { owners = draft.owners ++ (owner ∷ []) }

-- the run so far with one more guest
abbrev pub draft_with_guest : Draft → GuestFile → Draft
draft_with_guest draft guest = record draft { guests = draft.guests ++ (guest ∷ []) }

-- the run file with one more write of the bus
abbrev pub with_poke : RunFile → Poke → RunFile
with_poke file poke =
    record file {
      schedule = record {
        interrupts = file.schedule.interrupts;
        pokes =
            file.schedule.pokes ++ (poke ∷ []);
      };
    }

-- What stands after a line, where the lines before it leave this: the line stands in its order, and
-- the
-- rules that speak of earlier lines are kept. The number is that of the line.
abbrev pub Follows : Progress → ℕ → RunLine → Progress → Type 0
Follows before n (line.Machine machine) after =
    (before ≡ progress.Start) × (after ≡ progress.Keyed machine)
Follows before n (line.Boot boot) after =
    (machine : Key256) × (before ≡ progress.Keyed machine) × (after ≡ progress.Booted machine boot)
Follows before n (line.Frames frames) after =
    (machine : Key256) × (boot : ℕ) × (before ≡ progress.Booted machine boot)
    × (after ≡ progress.Framed machine boot frames)
Follows before n (line.Budget budget) after =
    (machine : Key256) × (boot frames : ℕ) × (before ≡ progress.Framed machine boot frames)
    × (after ≡ progress.Files (first_draft machine boot frames budget))
Follows before n (line.Owner owner) after =
    (draft : Draft) × (before ≡ progress.Files draft)
    × (draft.guests ≡ []) × (length draft.owners < owner_limit) × IsNewId owner.id draft.owners
    × (after ≡ progress.Files (with_owner draft owner))
Follows before n (line.Guest sealed input) after =
    (draft : Draft) × (before ≡ progress.Files draft) × (length draft.guests < slot_limit)
    × (after ≡ progress.Files
    (draft_with_guest draft (record { line = n; sealed = sealed; input = input })))
Follows before n (line.Kernel kernel) after =
    (draft : Draft) × (before ≡ progress.Files draft) × HasRoom kernel draft.frames
    (length draft.guests)
    × (after ≡ progress.Kernel draft kernel n)
Follows before n (line.Interrupt interrupts) after =
    (draft : Draft) × (kernel : KernelLine) × (number : ℕ)
    × (before ≡ progress.Kernel draft kernel number)
    × (after ≡ progress.Whole (run_file draft kernel number interrupts))
Follows before n (line.Poke poke) after =
    (file : RunFile) × (before ≡ progress.Whole file)
    × (last_event file.schedule.pokes < poke.event) × FitsRam poke file.frames
    × (after ≡ progress.Whole (with_poke file poke))

-- the text may end behind the line of interrupts
abbrev pub IsWhole : Progress → Type 0
IsWhole (progress.Whole file) = Unit {0}
IsWhole progress.Start = ⊥
IsWhole (progress.Keyed machine) = ⊥
IsWhole (progress.Booted machine boot) = ⊥
IsWhole (progress.Framed machine boot frames) = ⊥
IsWhole (progress.Files draft) = ⊥
IsWhole (progress.Kernel draft kernel number) = ⊥

-- ---- the same as a function

-- whether an owner has this id
abbrev pub has_id : ImageId → List OwnerFile → Bool
has_id id owners = list_any (λ (owner : OwnerFile). bytes_eq owner.id.0 id.0) owners

-- whether an owner of this id may come: before the guests, at most 16, each of another id
abbrev pub takes_owner : Draft → ImageId → Bool
takes_owner draft id =
    (length draft.guests == 0)
    && (nat_lt (length draft.owners) owner_limit && not (has_id id draft.owners))

-- whether the built-in kernel has room for its guests and their pages in so many frames
abbrev pub has_room : KernelLine → ℕ → ℕ → Bool
has_room (kernel.Script file) frames guests = true
has_room (kernel.Image file) frames guests = true
has_room (kernel.Xomos pages) frames guests = nat_le (guests * (52 + pages)) frames

-- whether a write of the bus lies in RAM of so many frames
abbrev pub fits_ram : Poke → ℕ → Bool
fits_ram poke frames = nat_le (poke.address + length poke.bytes) (frames * frame_size)

-- whether a write of the bus may come: behind the last one, and inside RAM
abbrev pub takes_poke : RunFile → Poke → Bool
takes_poke file poke =
    nat_lt (last_event file.schedule.pokes) poke.event && fits_ram poke file.frames

-- what may stand after the files of a run
unfoldable pub after_files : Draft → ℕ → RunLine → Option Progress
after_files draft n (line.Owner owner) =
    where_holds (takes_owner draft owner.id) (progress.Files (with_owner draft owner))
after_files draft n (line.Guest sealed input) =
    where_holds (nat_lt (length draft.guests) slot_limit)
    (progress.Files (draft_with_guest draft (record { line = n; sealed = sealed; input = input })))
after_files draft n (line.Kernel kernel) =
    where_holds (has_room kernel draft.frames (length draft.guests))
    (progress.Kernel draft kernel n)
after_files draft n _ = None

-- what stands after a line, or none where it may not stand there
unfoldable pub after_line : Progress → ℕ → RunLine → Option Progress
after_line progress.Start n (line.Machine machine) = Some (progress.Keyed machine)
after_line (progress.Keyed machine) n (line.Boot boot) = Some (progress.Booted machine boot)
after_line (progress.Booted machine boot) n (line.Frames frames) =
    Some (progress.Framed machine boot frames)
after_line (progress.Framed machine boot frames) n (line.Budget budget) =
    Some (progress.Files (first_draft machine boot frames budget))
after_line (progress.Files draft) n next = after_files draft n next
after_line (progress.Kernel draft kernel number) n (line.Interrupt interrupts) =
    Some (progress.Whole (run_file draft kernel number interrupts))
after_line (progress.Whole file) n (line.Poke poke) =
    where_holds (takes_poke file poke) (progress.Whole (with_poke file poke))
after_line _ n _ = None

-- whether the text may end here: behind the line of interrupts
abbrev pub is_whole : Progress → Bool
is_whole (progress.Whole file) = true
is_whole progress.Start = false
is_whole (progress.Keyed machine) = false
is_whole (progress.Booted machine boot) = false
is_whole (progress.Framed machine boot frames) = false
is_whole (progress.Files draft) = false
is_whole (progress.Kernel draft kernel number) = false
