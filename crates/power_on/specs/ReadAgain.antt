-- What stands in RAM at the start of a run is read again where the machine looks for it.
use Rattle.std.specs.Prelude.{◌≡◌, ℕ, ◌+◌, ◌*◌, ◌/◌, ◌%◌, ◌≤◌, List, ◌∷◌, ◌++◌, All, length, slice_get, Option, Some}
use Rattle.xom_base.specs.declared.image.PlainImage.{PlainImage}
use Rattle.xom_base.specs.Frames.{frame_size}
use Rattle.xom_model.specs.Operation.{envelope_size}
use Rattle.xom_seal.specs.declared.line.SealedLine.{SealedLine}
use Rattle.line_ram.specs.Bytes.{bytes_at, ciphertext_place, frame_lines, tag_place}
use Rattle.xom_base.specs.Sizes.{line_size}
use Rattle.cli_runs.specs.Places.{FitsAll, first_frame, frame_behind, kernel_limit}
use Rattle.cli_runs.specs.declared.guest_image.GuestImage.{GuestImage}
use Rattle.power_on.specs.Start.{kernel_bytes, ram_at_start}

-- a line has its bytes
pub record IsWholeLine (line : SealedLine) : Type 0 where
  pub ciphertext : length line.ct ≡ line_size
  pub tag : length line.tag ≡ line_size

-- an image has its bytes
pub record IsWholeGuest (image : GuestImage) : Type 0 where
  pub envelope : length image.envelope ≡ envelope_size
  pub lines : All IsWholeLine image.lines

-- the line of this number is read: its ciphertext and its tag stand in the frame of its page, where
-- the first page is in this frame
pub record IsReadAt (ram : List ℕ) (frame number : ℕ) (line : SealedLine) : Type 0 where
  pub ciphertext : bytes_at ram (ciphertext_place (frame + number / frame_lines)
      (number % frame_lines)) line_size ≡ line.ct
  pub tag : bytes_at ram (tag_place (frame + number / frame_lines) (number % frame_lines))
      line_size ≡ line.tag

-- a guest is read: its envelope at the start of this frame, and each of its lines in the frames
-- behind
pub record StandsAt (ram : List ℕ) (frame : ℕ) (image : GuestImage) : Type 0 where
  pub envelope : bytes_at ram (frame * frame_size) envelope_size ≡ image.envelope
  pub lines : (number : ℕ) (line : SealedLine) → slice_get image.lines number ≡ Some line
      → IsReadAt ram (frame + 1) number line

-- RAM has room for the image of a kernel, in front of the guests, and for all guests
pub record RamHasRoom (frames : ℕ) (kernel : Option PlainImage) (images : List GuestImage) : Type
    0 where
  pub kernel_low : length (kernel_bytes kernel) ≤ kernel_limit
  pub kernel_fits : length (kernel_bytes kernel) ≤ frames * frame_size
  pub guests : FitsAll frames first_frame images
  pub whole : All IsWholeGuest images

-- the image of the kernel is read from address 0 on
abbrev pub KernelIsRead : Type 0
KernelIsRead = (frames : ℕ) (kernel : Option PlainImage) (images : List GuestImage)
    → RamHasRoom frames kernel images
    → bytes_at (ram_at_start frames kernel images) 0 (length (kernel_bytes kernel)) ≡ kernel_bytes
    kernel

-- each guest is read behind the guests before it
abbrev pub GuestsAreRead : Type 0
GuestsAreRead = (frames : ℕ) (kernel : Option PlainImage) (before : List GuestImage)
    (image : GuestImage) (behind : List GuestImage)
    → RamHasRoom frames kernel (before ++ image ∷ behind)
    → StandsAt (ram_at_start frames kernel (before ++ image ∷ behind))
    (frame_behind first_frame before) image
