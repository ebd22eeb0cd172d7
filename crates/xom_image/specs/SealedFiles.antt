-- The file of a sealed image: "XOMS", the version 1, the envelope of 88 bytes, and then of each
-- line the ciphertext and the tag, 32 bytes each. The format is this project's own.
use Rattle.std.specs.Prelude.{ℕ, ◌≡◌, ◌+◌, ◌*◌, ◌^◌, List, [], ◌∷◌, ◌++◌, Result, Ok, codes, drop, map, take}
use Rattle.std.specs.List.{flat_map, range_with_len}
use Rattle.xom_base.specs.Results.{◌>>=◌}
use Rattle.xom_base.specs.Sizes.{line_size, tag_size}
use Rattle.xom_seal.specs.declared.line.SealedLine.{SealedLine}
use Rattle.xom_image.specs.declared.fault.ImageFault.{ImageFault}
use Rattle.xom_image.specs.declared.fields.Format.{Format}
use Rattle.xom_seal.specs.declared.sealed_image.SealedImage.{SealedImage}
use Rattle.xom_image.specs.Fields.{AnswersBy, IsLeastBadOffsetOf, fields_at}

-- ---- What a file is

-- the name of the format and its version
abbrev pub sealed_head : List ℕ
sealed_head = codes "XOMS" ++ (0 ∷ 0 ∷ 0 ∷ 1 ∷ [])

-- the bytes of a line: its ciphertext, then its tag
abbrev pub line_bytes : SealedLine → List ℕ
line_bytes line = line.ct ++ line.tag

-- the file of the image with this envelope and these lines
unfoldable pub sealed_file : List ℕ → List SealedLine → List ℕ
sealed_file envelope lines = sealed_head ++ (envelope ++ flat_map line_bytes lines)

-- the file is that of the image, whose envelope and lines keep the rules by its type
abbrev pub IsSealedFile : List ℕ → SealedImage → Type 0
IsSealedFile file image = file ≡ sealed_file image.envelope image.lines

-- ---- Where a file is bad

-- The envelope stands at 8; in it the id comes first, so its entry stands at 24 and the number of
-- lines at 28. From 96 on there are the lines of 64 bytes, at most 32,768.
abbrev pub sealed_format : Format
sealed_format = record { head = sealed_head; entry = 24; start = 96; part = 64; most = 2 ^ 15 }

-- This is the least place at which the file is bad. No tag makes it bad.
abbrev pub IsFirstBadSealed : List ℕ → ℕ → Type 0
IsFirstBadSealed file n = IsLeastBadOffsetOf sealed_format file n

-- ---- Both as one function, to compute with

-- the line whose bytes begin here
abbrev pub sealed_line_at : List ℕ → ℕ → SealedLine
sealed_line_at file place = record {
  ct = take line_size (drop place file);
  tag = take tag_size (drop (place + line_size) file);
}

-- the first lines of a file
abbrev pub lines_at : List ℕ → ℕ → List SealedLine
lines_at file count = map (λ i. sealed_line_at file (96 + 64 * i)) (range_with_len 0 count)

-- the envelope of a file
abbrev pub envelope_of_file : List ℕ → List ℕ
envelope_of_file file = take 88 (drop 8 file)

-- the envelope and the lines of the image, or the first bad place
unfoldable pub sealed_image_at : List ℕ → Result (List ℕ × List SealedLine) ℕ
sealed_image_at file = do
  fields ← fields_at sealed_format file
  Ok (envelope_of_file file, lines_at file fields.1)

-- what a reader answers: what was read, unless there is an image for which memory ran out
abbrev pub AnswersSealed : Result (List ℕ × List SealedLine) ℕ → Result SealedImage ImageFault
    → Type 0
AnswersSealed = AnswersBy (λ (image : SealedImage). (image.envelope, image.lines))
