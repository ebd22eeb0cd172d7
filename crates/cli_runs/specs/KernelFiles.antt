-- The kernel of a run.
use Rattle.std.specs.Prelude.{ℕ, ◌*◌, ◌≤◌, List, Result, Ok, Err, length, if◌then◌else◌}
use Rattle.xom_base.specs.declared.image.PlainImage.{PlainImage}
use Rattle.xom_base.specs.Frames.{frame_size}
use Rattle.xom_script.specs.Scripts.{script_at}
use Rattle.xom_script.specs.declared.run_file.KernelLine.{KernelLine}
use Rattle.xom_script.specs.declared.run_file.KernelLine.TheVariants as line
use Rattle.xom_script.specs.declared.script.Script.{Script}
use Rattle.cli_base.specs.declared.refusal.InputFault.{InputFault}
use Rattle.cli_base.specs.declared.refusal.InputFault.TheVariants.{BadLine, NotBuilt}
use Rattle.cli_base.specs.declared.refusal.Refusal.{Refusal}
use Rattle.cli_base.specs.declared.refusal.Refusal.TheVariants.{Bad}
use Rattle.cli_base.specs.Inputs.{◌>>=◌, Held, image_of, in_file, in_lines, input_of}
use Rattle.cli_runs.specs.Places.{kernel_fits, kernel_limit}
use Rattle.cli_runs.specs.declared.kernel_file.KernelFile.{KernelFile}
use Rattle.cli_runs.specs.declared.kernel_file.KernelFile.TheVariants as kernel

-- ---- Scripts

-- at most so many bytes are in a script
abbrev pub script_limit : ℕ
script_limit = 1048576

-- the script that a file holds, or why it can't be had
unfoldable pub script_of : Held → List ℕ → Result Script Refusal
script_of = input_of script_limit (λ text. in_lines (script_at text))

-- ---- Images

-- the image of a kernel that this line of the run file names, where RAM has room for it
abbrev pub kernel_image_at : ℕ → ℕ → PlainImage → Result PlainImage InputFault
kernel_image_at frames line image =
    if kernel_fits frames image then Ok image else Err (BadLine line)

-- the kernel's image that a file holds; the line of the run file is bad where RAM has no room for
-- it
unfoldable pub kernel_image_of : Held → List ℕ → ℕ → ℕ → List ℕ → Result PlainImage Refusal
kernel_image_of held run frames number name = do
  image ← image_of held name
  in_file run (kernel_image_at frames number image)

-- ---- Kernels

-- The kernel that the line of this number of the run file names, in a RAM of so many frames. The
-- built-in one is refused before.
unfoldable pub kernel_of_line : Held → List ℕ → ℕ → ℕ → KernelLine → Result KernelFile Refusal
kernel_of_line held run frames number (line.Script name) = do
  script ← script_of held name
  Ok (kernel.Script script)
kernel_of_line held run frames number (line.Image name) = do
  image ← kernel_image_of held run frames number name
  Ok (kernel.Image image)
kernel_of_line held run frames number (line.Xomos pages) = Err (Bad run NotBuilt)

-- what the machine wants of a kernel: its image lies in a RAM of so many frames
abbrev pub FitsKernel : ℕ → KernelFile → Type 0
FitsKernel frames (kernel.Script script) = Unit {0}
FitsKernel frames (kernel.Image image) =
    (length image.bytes ≤ kernel_limit) × (length image.bytes ≤ frames * frame_size)
