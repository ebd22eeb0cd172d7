-- The guests of a run: their sealed images, and the inputs that they name.
use Rattle.std.specs.Prelude.{ℕ, ◌+◌, List, [], ◌∷◌, Option, Some, None, Result, Ok, Err, if◌then◌else◌}
use Rattle.xom_image.specs.SealedFiles.{sealed_image_at}
use Rattle.xom_seal.specs.declared.line.SealedLine.{SealedLine}
use Rattle.xom_script.specs.declared.run_file.GuestFile.{GuestFile}
use Rattle.cli_base.specs.declared.refusal.InputFault.{InputFault}
use Rattle.cli_base.specs.declared.refusal.InputFault.TheVariants.{BadByte, BadLine}
use Rattle.cli_base.specs.declared.refusal.Refusal.{Refusal}
use Rattle.cli_base.specs.Inputs.{Held, file_or_refusal, in_file, input_of, ◌>>=◌}
use Rattle.cli_runs.specs.Places.{fits_from, frames_of_guest}
use Rattle.cli_runs.specs.declared.guest_image.GuestImage.{GuestImage}

-- ---- Sealed images

-- at most so many bytes are in a sealed image file
abbrev pub sealed_limit : ℕ
sealed_limit = 2097248

-- the image of an envelope and of lines, or the first bad byte
abbrev pub guest_image_read : Result (List ℕ × List SealedLine) ℕ → Result GuestImage InputFault
guest_image_read (Ok read) = Ok (record { envelope = read.0; lines = read.1 })
guest_image_read (Err bad) = Err (BadByte bad)

-- the image that a file's bytes are
unfoldable pub guest_image_at : List ℕ → Result GuestImage InputFault
guest_image_at bytes = guest_image_read (sealed_image_at bytes)

-- the sealed image that a file holds, or why it can't be had
unfoldable pub guest_image_of : Held → List ℕ → Result GuestImage Refusal
guest_image_of = input_of sealed_limit guest_image_at

-- ---- Guests

-- the guest of this line of the run file, where it lies in a RAM of so many frames, from this frame
-- on
abbrev pub placed_at : ℕ → ℕ → ℕ → GuestImage → Result GuestImage InputFault
placed_at frames frame line image =
    if fits_from frames frame image then Ok image else Err (BadLine line)

-- at most so many bytes are in an input file, and they may be any
abbrev pub input_limit : ℕ
input_limit = 1048576

-- the input of a guest, where it names one, is read and not kept
abbrev pub read_input : Held → Option (List ℕ) → Result (Unit {0}) Refusal
read_input held None = Ok tt
read_input held (Some name) = do
  bytes ← file_or_refusal held name input_limit
  Ok tt

-- the image of a guest, whose place is looked at right behind its grammar
unfoldable pub placed_guest_of : Held → List ℕ → ℕ → ℕ → GuestFile → Result GuestImage Refusal
placed_guest_of held run frames frame line = do
  image ← guest_image_of held line.sealed
  in_file run (placed_at frames frame line.line image)

-- and then its input
unfoldable pub guest_and_input : Held → List ℕ → ℕ → ℕ → GuestFile → Result GuestImage Refusal
guest_and_input held run frames frame line = do
  image ← placed_guest_of held run frames frame line
  input ← read_input held line.input
  Ok image

-- The images of the guests of these lines, one after the other, in a RAM of so many frames. The
-- first stands from this frame on, and
-- each other one right behind the guest before it.
abbrev pub guests_and_inputs : Held → List ℕ → ℕ → ℕ → List GuestFile → Result (List GuestImage) Refusal
guests_and_inputs held run frames frame [] = Ok []
guests_and_inputs held run frames frame (line ∷ lines) = do
  image ← guest_and_input held run frames frame line
  images ← guests_and_inputs held run frames (frame + frames_of_guest image) lines
  Ok (image ∷ images)
