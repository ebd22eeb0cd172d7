-- The reading of a sealed image file is the grammar, both ways.
use Rattle.std.proofs.Common.{◌≡◌, ℕ, ◌+◌, ◌*◌, ◌%◌, ◌^◌, ◌<◌, ◌≤◌, List, ◌++◌, Result, Ok, Err, drop, length, take, refl, sym, ◌∙◌, ap, arith, IfOk, length-append, length-drop, append_assoc}
use Rattle.std.specs.Int.{w32, from_be_bytes}
use Rattle.std.specs.List.{flat_map}
use Rattle.std.proofs.Math.Seq.{drop-drop, take_at, take-append-le, drop-append-le, length-take-le, take-take}
use Rattle.std.proofs.lemmas.List.{take-append-drop, drop-take}
use Rattle.xom_base.specs.Results.{◌>>=◌}
use Rattle.xom_seal.specs.declared.line.SealedLine.{SealedLine}
use Rattle.xom_seal.specs.Envelopes.{entry_of_envelope, lines_in}
use Rattle.xom_image.specs.declared.fault.ImageFault.{ImageFault}
use Rattle.xom_seal.specs.declared.sealed_image.SealedImage.{SealedImage}
use Rattle.xom_image.proofs.Images.{SealedImage-equal}
use Rattle.xom_seal.proofs.WholeLines.{AreWhole}
use Rattle.xom_image.proofs.LineBytes.{length-lines_at, lines_at-all, lines_at-lines, lines_at-whole, lines-length}
use Rattle.xom_image.proofs.Reading.{agreed-all, fields-told, whole-fields, AnswersBy-file}
use Rattle.xom_image.specs.Fields.{AnswersFile, IsFormat, IsWholeFile, common_prefix_size, fields_at, number_in_file}
use Rattle.xom_image.specs.SealedFiles.{AnswersSealed, IsFirstBadSealed, IsSealedFile, envelope_of_file, line_bytes, lines_at, sealed_file, sealed_format, sealed_head, sealed_image_at}

pub sealed_is_format : IsFormat sealed_format
sealed_is_format = record { named = refl; behind = omega arith; before = omega arith }

-- ---- From the file to its image

two : {a b a' b' : List ℕ} (c : List ℕ) → a ≡ a' → b ≡ b' → a ++ (b ++ c) ≡ a' ++ (b' ++ c)
two c first second = cc

pieces : (file : List ℕ) → take 8 file ++ (take 88 (drop 8 file) ++ drop 96 file) ≡ file
pieces file =
    ap (λ rest. take 8 file ++ (take 88 (drop 8 file) ++ rest)) (sym (drop-drop 88 8 file))
    ∙ ap (λ rest. take 8 file ++ rest) (take-append-drop 88 (drop 8 file))
    ∙ take-append-drop 8 file

-- a file that breaks no rule is that of its own parts
pub IsWhole-sealed_file : (file : List ℕ) → IsWholeFile sealed_format file
    → file ≡ sealed_file (envelope_of_file file) (lines_at file (number_in_file file 28))
unfolding sealed_file
IsWhole-sealed_file file whole =
    let size : length file ≡ 96 + 64 * number_in_file file 28 = whole.size in
    sym (pieces file)
    ∙ ap (λ head. head ++ (envelope_of_file file ++ drop 96 file))
    (agreed-all sealed_head file whole.head)
    ∙ ap (λ rest. sealed_head ++ (envelope_of_file file ++ rest))
    (sym (lines_at-all file (number_in_file file 28) size))

-- the numbers of its envelope are those of the file
field-in : (file : List ℕ) (place after : ℕ) → place + after ≡ 88 → 4 ≤ after
    → take 4 (drop place (envelope_of_file file)) ≡ take 4 (drop (8 + place) file)
field-in file place after all within =
    ap (λ n. take 4 (drop place (take n (drop 8 file)))) (sym all)
    ∙ ap (take 4) (drop-take place after (drop 8 file))
    ∙ take-take 4 after (drop place (drop 8 file)) within
    ∙ ap (take 4) (drop-drop place 8 file)

entry_in-file : (file : List ℕ) → entry_of_envelope (envelope_of_file file) ≡ number_in_file file 24
unfolding number_in_file
entry_in-file file = ap (from_be_bytes w32) (field-in file 16 72 refl (omega arith))

lines_in-file : (file : List ℕ) → lines_in (envelope_of_file file) ≡ number_in_file file 28
unfolding number_in_file
lines_in-file file = ap (from_be_bytes w32) (field-in file 20 68 refl (omega arith))

-- What is read of a file keeps the rules of an image.
module _ (file : List ℕ) (entry count : ℕ)
    (is : fields_at sealed_format file ≡ Ok (entry, count)) where
  breaks_none : IsWholeFile sealed_format file
  breaks_none = (fields-told sealed_format file (entry, count) sealed_is_format is).0

  count_told : count ≡ number_in_file file 28
  count_told =
      ap (λ (fields : ℕ × ℕ). fields.1)
      (fields-told sealed_format file (entry, count) sealed_is_format is).1

  pub told-room : 96 + 64 * count ≤ length file
  told-room =
      let size : length file
      ≡ 96 + 64 * number_in_file file 28 = breaks_none.size in omega (arith, count_told)

  pub told-sized : length (envelope_of_file file) ≡ 88
  told-sized = length-take-le 88 (drop 8 file) (simp length-drop (omega (arith, told-room)))

  pub told-aligned : entry_of_envelope (envelope_of_file file) % 4 ≡ 0
  told-aligned = rw (entry_in-file file) breaks_none.aligned

  pub told-private : entry_of_envelope (envelope_of_file file) < 2 ^ 20
  told-private = rw (entry_in-file file) breaks_none.private

  pub told-counted : lines_in (envelope_of_file file) ≡ length (lines_at file count)
  told-counted = lines_in-file file ∙ sym (count_told) ∙ sym (length-lines_at file count)

  pub told-fits : length (lines_at file count) ≤ 2 ^ 15
  told-fits =
      let most : number_in_file file 28 ≤ 2 ^ 15 = breaks_none.most in
      omega (arith, count_told, length-lines_at file count)

  pub told-whole : AreWhole (lines_at file count)
  told-whole = lines_at-whole file count told-room

  -- it is in the grammar
  pub told-file : file ≡ sealed_file (envelope_of_file file) (lines_at file count)
  told-file =
      IsWhole-sealed_file file breaks_none
      ∙ ap (λ n. sealed_file (envelope_of_file file) (lines_at file n)) (sym count_told)

-- ---- From the image to its file

-- a field of the envelope, looked up in the file
field-of : (envelope rest : List ℕ) (place : ℕ) → place + 4 ≤ length envelope
    → take 4 (drop place (envelope ++ rest)) ≡ take 4 (drop place envelope)
field-of envelope rest place within =
    ap (take 4) (drop-append-le place envelope rest (omega arith))
    ∙ take-append-le 4 (drop place envelope) rest (simp length-drop (omega arith))

module _ (envelope : List ℕ) (lines : List SealedLine) (sized : length envelope ≡ 88) where
  entry_is : number_in_file (sealed_file envelope lines) 24 ≡ entry_of_envelope envelope
  unfolding sealed_file number_in_file
  entry_is = ap (from_be_bytes w32) (field-of envelope (flat_map line_bytes lines) 16 (omega arith))

  count_is : number_in_file (sealed_file envelope lines) 28 ≡ lines_in envelope
  unfolding sealed_file number_in_file
  count_is = ap (from_be_bytes w32) (field-of envelope (flat_map line_bytes lines) 20 (omega arith))

  envelope_is : envelope_of_file (sealed_file envelope lines) ≡ envelope
  unfolding sealed_file
  envelope_is = take_at envelope (flat_map line_bytes lines) 88 sized

  head_is : common_prefix_size sealed_head (sealed_file envelope lines) ≡ 8
  unfolding sealed_file common_prefix_size
  head_is = refl

  size_is : AreWhole lines → length (sealed_file envelope lines) ≡ 96 + 64 * length lines
  unfolding sealed_file
  size_is whole =
      let joined : length (envelope ++ flat_map line_bytes lines) ≡ length envelope + length
      (flat_map line_bytes lines) = length-append envelope (flat_map line_bytes lines) in
      let rest : length (flat_map line_bytes lines) ≡ 64 * length lines =
      lines-length lines whole in
      omega arith

  lines_are : AreWhole lines → lines_at (sealed_file envelope lines) (length lines) ≡ lines
  unfolding sealed_file
  lines_are whole =
      let before : length (sealed_head ++ envelope) ≡ 96 = simp length-append (omega arith) in
      ap (λ file. lines_at file (length lines))
      (sym (append_assoc sealed_head envelope (flat_map line_bytes lines)))
      ∙ lines_at-lines (sealed_head ++ envelope) lines before whole

-- the file of an image breaks no rule
sealed_file-whole : (image : SealedImage)
    → IsWholeFile sealed_format (sealed_file image.envelope image.lines)
sealed_file-whole image =
    let entry : number_in_file (sealed_file image.envelope image.lines) 24 ≡ entry_of_envelope image.envelope =
    entry_is image.envelope image.lines image.sized in
    let count : number_in_file (sealed_file image.envelope image.lines) 28 ≡ length image.lines =
    count_is image.envelope image.lines image.sized ∙ image.counted in
    record {
      head = head_is image.envelope image.lines image.sized;
      aligned = rw entry image.aligned;
      private = rw entry image.private;
      most = rw count image.fits;
      size = rw count (size_is image.envelope image.lines image.sized image.whole);
    }

-- the file of an image is read as its envelope and its lines
pub IsSealedFile-read : (file : List ℕ) (image : SealedImage) → IsSealedFile file image
    → sealed_image_at file ≡ Ok (image.envelope, image.lines)
unfolding sealed_image_at
IsSealedFile-read file image is =
    let written = sealed_file image.envelope image.lines in
    let count : number_in_file written 28 ≡ length image.lines = count_is image.envelope image.lines
    image.sized ∙ image.counted in
    ap sealed_image_at is
    ∙ ap (λ read. read >>= (λ fields. Ok (envelope_of_file written, lines_at written fields.1)))
    (whole-fields sealed_format written sealed_is_format (sealed_file-whole image))
    ∙ ap (λ n. Ok (envelope_of_file written, lines_at written n)) count
    ∙ ap (λ envelope. Ok (envelope, lines_at written (length image.lines)))
    (envelope_is image.envelope image.lines image.sized)
    ∙ ap (λ lines. Ok (image.envelope, lines)) (lines_are image.envelope image.lines image.sized
    image.whole)

-- ---- What a reader promises follows from what it answers

pub AnswersSealed-file : (file : List ℕ) (result : Result SealedImage ImageFault)
    → IfOk result (IsSealedFile file) → AnswersSealed (sealed_image_at file) result
    → AnswersFile (IsSealedFile file) (IsFirstBadSealed file) result
unfolding sealed_image_at
AnswersSealed-file file =
    AnswersBy-file (λ (image : SealedImage). (image.envelope, image.lines))
    (λ a b same. SealedImage-equal a b (ap (λ (p : List ℕ × List SealedLine). p.0) same)
    (ap (λ (p : List ℕ × List SealedLine). p.1) same))
    sealed_format sealed_is_format file (λ fields. (envelope_of_file file, lines_at file fields.1))
    (IsSealedFile file) (IsSealedFile-read file)
