-- What a command reads, where it is told what files hold: the value that a file's bytes write, or
-- why it is refused.
use Rattle.std.specs.Prelude.{◌≡◌, ℕ, ◌%◌, ◌<◌, ◌≤◌, ◌==◌, Bool, true, false, List, Option, Some, None, Result, Ok, Err, length, nat_le, if◌then◌else◌}
use Rattle.std.proofs.Math.Decide.{dec_le, dec_lt}
use Rattle.std.proofs.Common.{refl}
use Rattle.std.proofs.lemmas.Bool.{eqb-true}
use Rattle.std.specs.Str.{bytes_eq}
pub use Rattle.xom_base.specs.Results.{◌>>=◌}
use Rattle.xom_base.specs.declared.image.PlainImage.{PlainImage}
use Rattle.xom_base.specs.Sizes.{window_size}
use Rattle.xom_image.specs.PlainFiles.{plain_image_at}
use Rattle.cli_base.specs.declared.refusal.InputFault.{InputFault}
use Rattle.cli_base.specs.declared.refusal.InputFault.TheVariants.{TooLong, NotBuilt, BadByte, BadLine}
use Rattle.cli_base.specs.declared.refusal.InputStop.{InputStop}
use Rattle.cli_base.specs.declared.refusal.InputStop.TheVariants as input_stop
use Rattle.cli_base.specs.declared.refusal.Refusal.{Refusal}
use Rattle.cli_base.specs.declared.refusal.Refusal.TheVariants.{Unread, Bad}

-- what names hold
abbrev pub Held : Type 0
Held = List ℕ → Option (List ℕ)

-- the same, but for one name that isn't held
abbrev pub held_without : List ℕ → Held → Held
held_without name held other = if bytes_eq other name then None else held other

-- ---- A file of a format

-- the bytes of a file that is held, at most so many
abbrev pub fetched_bytes : List ℕ → ℕ → Option (List ℕ) → Result (List ℕ) Refusal
fetched_bytes name limit None = Err (Unread name)
fetched_bytes name limit (Some bytes) =
    if nat_le (length bytes) limit then Ok bytes else Err (Bad name TooLong)

-- the bytes that a file holds, or why they can't be had, where at most so many are read
unfoldable pub file_or_refusal : Held → List ℕ → ℕ → Result (List ℕ) Refusal
file_or_refusal held name limit = fetched_bytes name limit (held name)

-- what was read, or what is said of the file of this name
abbrev pub in_file : {A : Type 0} → List ℕ → Result A InputFault → Result A Refusal
in_file name (Ok value) = Ok value
in_file name (Err fault) = Err (Bad name fault)

-- the value of a file of at most so many bytes, by the format that reads them
abbrev pub input_of : {A : Type 0} → ℕ → (List ℕ → Result A InputFault) → Held → List ℕ
    → Result A Refusal
input_of limit format held name = do
  bytes ← file_or_refusal held name limit
  in_file name (format bytes)

-- what the reader of a format answers: its value or its fault, unless memory ran out
abbrev pub InputFaults : {A : Type 0} → Result A InputFault → InputStop → Type 0
InputFaults wanted (input_stop.Fault fault) = wanted ≡ Err fault
InputFaults wanted input_stop.NoMemory = Unit {0}

-- what the reader of a format may answer where the definition gives this value or this fault
abbrev pub InputAnswers : {A : Type 0} → Result A InputFault → Result A InputStop → Type 0
InputAnswers wanted (Ok value) = wanted ≡ Ok value
InputAnswers wanted (Err why) = InputFaults wanted why

-- ---- The formats

-- the image of an entry and of bytes that are valid: the bytes are few enough, and the entry is
-- below the size of private memory and aligned
abbrev pub image_if_aligned : (entry : ℕ) (bytes : List ℕ) → length bytes ≤ window_size
    → entry < window_size → (b : Bool) → (entry % 4 == 0) ≡ b → Option PlainImage
image_if_aligned entry bytes fits private false aligned = None
image_if_aligned entry bytes fits private true aligned =
    Some (record {
      entry = entry;
      bytes = bytes;
      fits = fits;
      aligned = eqb-true (entry % 4) 0
          aligned;
      private = private;
    })

-- the image of an entry and of bytes of which there are few enough, where the entry may be one
abbrev pub image_if_private : (entry : ℕ) (bytes : List ℕ) → length bytes ≤ window_size
    → Dec (entry < window_size) → Option PlainImage
image_if_private entry bytes fits (no high) = None
image_if_private entry bytes fits (yes private) =
    image_if_aligned entry bytes fits private (entry % 4 == 0) refl

-- the image of an entry and bytes, where there are few enough and the entry may be one
abbrev pub image_if_fitting : (entry : ℕ) (bytes : List ℕ) → Dec (length bytes ≤ window_size)
    → Option PlainImage
image_if_fitting entry bytes (no long) = None
image_if_fitting entry bytes (yes fits) =
    image_if_private entry bytes fits (dec_lt entry window_size)

-- the image of this entry and these bytes, or none where they are no valid image
abbrev pub valid_image : ℕ → List ℕ → Option PlainImage
valid_image entry bytes = image_if_fitting entry bytes (dec_le (length bytes) window_size)

-- The image that was read, or the first bad byte. What is read is valid, so the first case is never
-- met.
abbrev pub image_found : Option PlainImage → Result PlainImage InputFault
image_found None = Err NotBuilt
image_found (Some image) = Ok image

-- what a plain image file comes to, of the entry and the bytes that it has or of its first bad byte
abbrev pub image_read : Result (ℕ × List ℕ) ℕ → Result PlainImage InputFault
image_read (Ok read) = image_found (valid_image read.0 read.1)
image_read (Err bad) = Err (BadByte bad)

-- the image that a file's bytes are
unfoldable pub image_at : List ℕ → Result PlainImage InputFault
image_at bytes = image_read (plain_image_at bytes)

-- what was read of a text, or its first bad line
abbrev pub in_lines : {A : Type 0} → Result A ℕ → Result A InputFault
in_lines (Ok value) = Ok value
in_lines (Err line) = Err (BadLine line)

-- at most so many bytes are in a plain image file
abbrev pub image_limit : ℕ
image_limit = 1048592

-- the image that a file holds, or why it can't be had
unfoldable pub image_of : Held → List ℕ → Result PlainImage Refusal
image_of = input_of image_limit image_at
