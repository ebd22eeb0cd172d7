-- What the files of plain and of sealed images have in common: a name with a version, an entry with
-- a count behind it, and then so many parts of one size. Numbers have four bytes, the highest
-- first. The formats are this project's own.
use Rattle.std.specs.Prelude.{ℕ, ◌≡◌, ◌≢◌, ◌↔◌, ◌+◌, ◌*◌, ◌%◌, ◌<◌, ◌≤◌, ◌⊎◌, ◌==◌, ◌&&◌, Bool, List, Result, Ok, Err, IfOk, IsOk, drop, length, min, nat_lt, slice_index, take, take_while, zip, if◌then◌else◌}
use Rattle.std.specs.Int.{w32, from_be_bytes}
use Rattle.xom_base.specs.Memory.{OrOut}
use Rattle.xom_base.specs.Sizes.{window_size}
use Rattle.xom_image.specs.declared.fault.ImageFault.{ImageFault}
use Rattle.xom_image.specs.declared.fault.ImageFault.TheVariants as fault
use Rattle.xom_image.specs.declared.fields.Format.{Format}

-- ---- What a file says

-- the number in the four bytes from this place on
unfoldable pub number_in_file : List ℕ → ℕ → ℕ
number_in_file file place = from_be_bytes w32 (take 4 (drop place file))

-- the entry that a file says
abbrev pub entry_of_file : Format → List ℕ → ℕ
entry_of_file format file = number_in_file file format.entry

-- how many parts a file says there are, which stands behind the entry
abbrev pub count_of : Format → List ℕ → ℕ
count_of format file = number_in_file file (format.entry + 4)

-- how many bytes it has if there are that many
abbrev pub size_of_file : Format → List ℕ → ℕ
size_of_file format file = format.start + format.part * count_of format file

-- ---- Where a file is bad

-- a byte of the name or of the version differs here
abbrev pub DiffersAt : Format → List ℕ → ℕ → Type 0
DiffersAt format file n =
    (n < 8) × (n < length file) × (slice_index file n ≢ slice_index format.head n)

-- the entry, which is all there, is no multiple of 4 or not below 1,048,576
abbrev pub HasBadEntryAt : Format → List ℕ → ℕ → Type 0
HasBadEntryAt format file n =
    (n ≡ format.entry) × (format.entry + 4 ≤ length file)
    × ((entry_of_file format file % 4 ≢ 0) ⊎ (window_size ≤ entry_of_file format file))

-- the count, which is all there, is above the most that there may be
abbrev pub HasBadCountAt : Format → List ℕ → ℕ → Type 0
HasBadCountAt format file n =
    (n ≡ format.entry + 4) × (format.entry + 8 ≤ length file) × (format.most < count_of format file)

-- the file ends here, which is too early: before its parts begin, or before all the parts that it
-- says
abbrev pub EndsEarlyAt : Format → List ℕ → ℕ → Type 0
EndsEarlyAt format file n = (n ≡ length file) × (length file < size_of_file format file)

-- here is the first of further bytes
abbrev pub GoesOnAt : Format → List ℕ → ℕ → Type 0
GoesOnAt format file n = (n ≡ size_of_file format file) × (n < length file)

-- the file is bad at this place, for one of these causes
abbrev pub IsBadOffset : Format → List ℕ → ℕ → Type 0
IsBadOffset format file n =
    DiffersAt format file n
    ⊎ (HasBadEntryAt format file n
    ⊎ (HasBadCountAt format file n ⊎ (EndsEarlyAt format file n ⊎ GoesOnAt format file n)))

-- this is the least place at which the file is bad
pub record IsLeastBadOffsetOf (format : Format) (file : List ℕ) (n : ℕ) : Type 0 where
  pub bad : IsBadOffset format file n
  pub least : (m : ℕ) → IsBadOffset format file m → n ≤ m

-- ---- The same as one function, to compute with

-- whether an entry is an address of private memory where an instruction may stand
abbrev pub is_entry_address : ℕ → Bool
is_entry_address entry = (entry % 4 == 0) && nat_lt entry window_size

-- how many bytes of two texts agree, from the front on
unfoldable pub common_prefix_size : List ℕ → List ℕ → ℕ
common_prefix_size xs ys = length (take_while (λ (p : ℕ × ℕ). p.0 == p.1) (zip xs ys))

-- the entry and the count of a file, or its first bad place
unfoldable pub fields_at : Format → List ℕ → Result (ℕ × ℕ) ℕ
fields_at format file =
    if nat_lt (common_prefix_size format.head file) 8 then Err (common_prefix_size format.head file)
    else (if nat_lt (length file) (format.entry + 4) then Err (length file)
    else (if is_entry_address (entry_of_file format file) then
    (if nat_lt (length file) (format.entry + 8) then Err (length file)
    else (if nat_lt format.most (count_of format file) then Err (format.entry + 4)
    else (if length file == size_of_file format file then Ok (entry_of_file format file, count_of format file)
    else Err (min (length file) (size_of_file format file)))))
    else Err format.entry))

-- a file that breaks no rule
pub record IsWholeFile (format : Format) (file : List ℕ) : Type 0 where
  pub head : common_prefix_size format.head file ≡ 8
  pub aligned : entry_of_file format file % 4 ≡ 0
  pub private : entry_of_file format file < window_size
  pub most : count_of format file ≤ format.most
  pub size : length file ≡ size_of_file format file

-- the fields stand behind the name and the version, and the parts behind them
pub record IsFormat (format : Format) : Type 0 where
  pub named : length format.head ≡ 8
  pub behind : 8 ≤ format.entry
  pub before : format.entry + 8 ≤ format.start

-- what a reader answers: what was read, unless there is an image for which memory ran out
abbrev pub AnswersBy : {X Image : Type 0} → (Image → X) → Result X ℕ → Result Image ImageFault
    → Type 0
AnswersBy parts read (Ok image) = read ≡ Ok (parts image)
AnswersBy parts read (Err (fault.Bad n)) = read ≡ Err n
AnswersBy parts read (Err fault.NoMemory) = IsOk read

-- How the reader of a format answers, where a file is that of an image, and a place is its first
-- bad one:
-- what is read is in the format; what is in the format is read as that image, unless memory ran
-- out; the
-- place that is answered is just the first bad one.
pub record AnswersFile {Image : Type 0} (IsOf : Image → Type 0) (IsBad : ℕ → Type 0)
    (result : Result Image ImageFault) : Type 0 where
  pub found : IfOk result IsOf
  pub only : (image : Image) → IsOf image → OrOut fault.NoMemory (Ok image) result
  pub bad : (n : ℕ) → (result ≡ Err (fault.Bad n)) ↔ IsBad n
