-- Where the guests of a run and its kernel stand in RAM at power-on.
use Rattle.std.specs.Prelude.{ℕ, ◌+◌, ◌*◌, ◌/◌, ◌≤◌, ◌&&◌, nat_le, Bool, List, [], ◌∷◌, length}
use Rattle.xom_base.specs.declared.image.PlainImage.{PlainImage}
use Rattle.xom_base.specs.Frames.{frame_size}
use Rattle.xom_base.specs.Sizes.{page_lines}
use Rattle.cli_runs.specs.declared.guest_image.GuestImage.{GuestImage}

-- ---- Guests

-- the first guest stands from this frame on, and each other one right behind the guest before it
abbrev pub first_frame : ℕ
first_frame = 16

-- one frame for the envelope, and one for each page of the image, of which the last may be begun
-- alone
abbrev pub frames_of_guest : GuestImage → ℕ
frames_of_guest image = 1 + (length image.lines + 127) / page_lines

-- the guest, whose envelope is to stand in this frame, lies in a RAM of so many
abbrev pub fits_from : ℕ → ℕ → GuestImage → Bool
fits_from frames frame image = nat_le (frame + frames_of_guest image) frames

-- all guests, of which the first stands from this frame on, lie in a RAM of so many
abbrev pub FitsAll : ℕ → ℕ → List GuestImage → Type 0
FitsAll frames frame [] = Unit {0}
FitsAll frames frame (image ∷ images) =
    (frame + frames_of_guest image ≤ frames) × FitsAll frames (frame + frames_of_guest image) images

-- the frame behind all guests, of which the first stands from this frame on
abbrev pub frame_behind : ℕ → List GuestImage → ℕ
frame_behind frame [] = frame
frame_behind frame (image ∷ images) = frame_behind (frame + frames_of_guest image) images

-- ---- The kernel

-- at most so many bytes has the image of a kernel, which stands in RAM from address 0 on
abbrev pub kernel_limit : ℕ
kernel_limit = 131072

-- whether an image is short enough for a kernel's, and for RAM of so many frames
abbrev pub kernel_fits : ℕ → PlainImage → Bool
kernel_fits frames image =
    nat_le (length image.bytes) kernel_limit && nat_le (length image.bytes) (frames * frame_size)
