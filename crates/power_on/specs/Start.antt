-- RAM before the first event of a run, and the machine with it.
use Rattle.std.specs.Prelude.{ℕ, ◌+◌, ◌*◌, ◌/◌, ◌%◌, List, [], ◌∷◌, replicate, Option, Some, None}
use Rattle.xom_base.specs.declared.image.PlainImage.{PlainImage}
use Rattle.xom_base.specs.declared.key.Key256.{Key256}
use Rattle.xom_base.specs.Frames.{frame_size}
use Rattle.xom_seal.specs.declared.line.SealedLine.{SealedLine}
use Rattle.line_ram.specs.Bytes.{frame_lines, ram_with_bytes, ram_with_line}
use Rattle.xom_versions.specs.Versions.{Versions}
use Rattle.xom_model.specs.State.{Record, power_on}
use Rattle.xom_machine.specs.Whole.{WholeMachine}
use Rattle.xom_script.specs.declared.run_file.RunFile.{RunFile}
use Rattle.cli_runs.specs.Places.{first_frame, frames_of_guest}
use Rattle.cli_runs.specs.declared.guest_image.GuestImage.{GuestImage}
use Rattle.cli_runs.specs.declared.kernel_file.KernelFile.{KernelFile}
use Rattle.cli_runs.specs.declared.kernel_file.KernelFile.TheVariants as kernel
use Rattle.power_on.specs.Shipped.{shipped_versions}

-- ---- Guests

-- RAM with sealed lines: line 0 of an image is the first of this frame, and these are the lines
-- from this number on
abbrev pub with_lines : List ℕ → ℕ → ℕ → List SealedLine → List ℕ
with_lines ram frame number [] = ram
with_lines ram frame number (line ∷ lines) =
    with_lines (ram_with_line ram (frame + number / frame_lines) (number % frame_lines) line.ct
    line.tag) frame (number + 1) lines

-- RAM with a guest: its envelope at the start of this frame, and its lines from the next frame on
abbrev pub ram_with_guest : List ℕ → ℕ → GuestImage → List ℕ
ram_with_guest ram frame image =
    with_lines (ram_with_bytes ram (frame * frame_size) image.envelope) (frame + 1) 0 image.lines

-- RAM with guests, of which the first stands in this frame, and each other one right behind the one
-- before it
abbrev pub with_guests : List ℕ → ℕ → List GuestImage → List ℕ
with_guests ram frame [] = ram
with_guests ram frame (image ∷ images) =
    with_guests (ram_with_guest ram frame image) (frame + frames_of_guest image) images

-- ---- The kernel

-- what stands in RAM from address 0 on
abbrev pub kernel_bytes : Option PlainImage → List ℕ
kernel_bytes None = []
kernel_bytes (Some image) = image.bytes

-- the first instruction of null code; without an image of a kernel there is none to be made
abbrev pub null_entry : Option PlainImage → ℕ
null_entry None = 0
null_entry (Some image) = image.entry

-- ---- The start of a run

-- so many frames of RAM: the kernel, the guests, and zeros
abbrev pub ram_at_start : ℕ → Option PlainImage → List GuestImage → List ℕ
ram_at_start frames kernel images =
    with_guests (ram_with_bytes (replicate (frames * frame_size) 0) 0 (kernel_bytes kernel)) first_frame
    images

-- the machine before the first event
abbrev pub first_record : Versions → Key256 → ℕ → ℕ → Option PlainImage → List GuestImage → Record
first_record v machine boot frames kernel images =
    power_on v machine boot (ram_at_start frames kernel images) (null_entry kernel)

-- the image of a kernel that is code
abbrev pub kernel_code : KernelFile → Option PlainImage
kernel_code (kernel.Script script) = None
kernel_code (kernel.Image image) = Some image

-- the machine that ships before its first event, with the kernel and these guests of a run file in RAM
abbrev pub first_of : RunFile → List GuestImage → KernelFile → Record
first_of file guests k = first_record shipped_versions file.machine file.boot file.frames (kernel_code k) guests

-- ---- How it is loaded

-- the machine with other bytes in RAM
abbrev pub whole_with_ram : WholeMachine → List ℕ → WholeMachine
whole_with_ram m ram = record m { state = record m.state { core = record m.state.core { ram = ram } } }

-- the bytes of its RAM
abbrev pub ram_of_whole : WholeMachine → List ℕ
ram_of_whole m = m.state.core.ram
