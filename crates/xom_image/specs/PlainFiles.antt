-- The file of a plain image: "XOMP", the version 1, the entry, the length, and the bytes. Numbers
-- have four bytes, the highest first. The format is this project's own.
use Rattle.std.specs.Prelude.{ℕ, ◌≡◌, List, [], ◌∷◌, ◌++◌, Result, Ok, codes, drop, length}
use Rattle.std.specs.Int.{w32, to_be_bytes}
use Rattle.xom_base.specs.Results.{◌>>=◌}
use Rattle.xom_base.specs.Sizes.{window_size}
use Rattle.xom_base.specs.declared.image.PlainImage.{PlainImage}
use Rattle.xom_image.specs.declared.fault.ImageFault.{ImageFault}
use Rattle.xom_image.specs.declared.fields.Format.{Format}
use Rattle.xom_image.specs.Fields.{AnswersBy, IsLeastBadOffsetOf, fields_at}

-- ---- What a file is

-- the name of the format and its version
abbrev pub plain_head : List ℕ
plain_head = codes "XOMP" ++ (0 ∷ 0 ∷ 0 ∷ 1 ∷ [])

-- the file of the image with this entry and these bytes
unfoldable pub plain_file : ℕ → List ℕ → List ℕ
plain_file entry bytes =
    plain_head ++ (to_be_bytes w32 entry ++ (to_be_bytes w32 (length bytes) ++ bytes))

-- the file is that of the image, whose entry and length keep their ranges by its type
abbrev pub IsPlainFile : List ℕ → PlainImage → Type 0
IsPlainFile file image = file ≡ plain_file image.entry image.bytes

-- ---- Where a file is bad

-- The entry stands at 8 and the length at 12. From 16 on there are the bytes, at most 1,048,576.
abbrev pub plain_format : Format
plain_format = record { head = plain_head; entry = 8; start = 16; part = 1; most = window_size }

-- this is the least place at which the file is bad
abbrev pub IsLeastBadOffset : List ℕ → ℕ → Type 0
IsLeastBadOffset file n = IsLeastBadOffsetOf plain_format file n

-- ---- Both as one function, to compute with

-- the entry and the bytes of the image, or the first bad place
unfoldable pub plain_image_at : List ℕ → Result (ℕ × List ℕ) ℕ
plain_image_at file = do
  fields ← fields_at plain_format file
  Ok (fields.0, drop 16 file)

-- what a reader answers: what was read, unless there is an image for which memory ran out
abbrev pub ImageAnswers : Result (ℕ × List ℕ) ℕ → Result PlainImage ImageFault → Type 0
ImageAnswers = AnswersBy (λ (image : PlainImage). (image.entry, image.bytes))
