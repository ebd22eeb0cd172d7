-- The reading of a plain image file is the grammar, both ways.
use Rattle.std.proofs.Common.{◌≡◌, ℕ, ◌+◌, ◌*◌, ◌%◌, ◌^◌, ◌<◌, ◌≤◌, inl, inr, List, ◌++◌, Result, Ok, Err, drop, get_or, length, take, refl, sym, ◌∙◌, ap, arith, IfOk}
use Rattle.std.specs.Int.{w32, to_be_bytes}
use Rattle.std.proofs.lemmas.Bool.{cases_lt}
use Rattle.std.proofs.lemmas.List.{take-append-drop, drop-drop, length-take, length-take-le, length-drop, get_or-take, get_or-drop, get_or_past}
use Rattle.std.proofs.lemmas.Nat.{be_bytes_4, from_be_bytes-to_be_bytes_4}
use Rattle.xom_base.specs.Results.{◌>>=◌}
use Rattle.xom_base.specs.declared.image.PlainImage.{PlainImage}
use Rattle.xom_image.specs.declared.fault.ImageFault.{ImageFault}
use Rattle.xom_base.proofs.Images.{PlainImage-equal}
use Rattle.xom_image.proofs.Reading.{agreed-all, fields-told, whole-fields, AnswersBy-file}
use Rattle.xom_image.specs.Fields.{AnswersFile, IsFormat, IsWholeFile, common_prefix_size, fields_at, number_in_file}
use Rattle.xom_image.specs.PlainFiles.{ImageAnswers, IsLeastBadOffset, IsPlainFile, plain_file, plain_format, plain_head, plain_image_at}

pub plain_is_format : IsFormat plain_format
plain_is_format = record { named = refl; behind = omega arith; before = omega arith }

-- ---- From the file to its image, and back

field-bytes : (file : List ℕ) (place : ℕ) → ((i : ℕ) → get_or file i 0 < 256) → (i : ℕ)
    → get_or (take 4 (drop place file)) i 0 < 256
field-bytes file place bytes i =
    elim (cases_lt i 4) [
      | inl within ↦ rw (get_or-take 4 (drop place file) i 0 within, get_or-drop place file i 0)
          (bytes (place + i))
      | inr past ↦ rw (get_or_past (take 4 (drop place file)) i 0 (simp length-take (omega arith)))
          (omega arith)
    ]

-- a field of four bytes, written again
field-written : (file : List ℕ) (place : ℕ) → ((i : ℕ) → get_or file i 0 < 256)
    → place + 4 ≤ length file → to_be_bytes w32 (number_in_file file place) ≡ take 4 (drop place file)
unfolding number_in_file
field-written file place bytes there =
    be_bytes_4 (take 4 (drop place file)) _ (length-take-le 4 (drop place file)
    (simp length-drop (omega arith))) (field-bytes file place bytes) refl

four : {a b c a' b' c' : List ℕ} (d : List ℕ) → a ≡ a' → b ≡ b' → c ≡ c'
    → a ++ (b ++ (c ++ d)) ≡ a' ++ (b' ++ (c' ++ d))
four d first second third = cc

pieces : (file : List ℕ)
    → take 8 file ++ (take 4 (drop 8 file) ++ (take 4 (drop 12 file) ++ drop 16 file)) ≡ file
pieces file =
    ap (λ rest. take 8 file ++ (take 4 (drop 8 file) ++ rest))
    (ap (λ rest. take 4 (drop 12 file) ++ rest) (sym (drop-drop 4 12 file)) ∙ take-append-drop 4
    (drop 12 file))
    ∙ (ap (λ rest. take 8 file ++ rest) (ap (λ rest. take 4 (drop 8 file) ++ rest)
    (sym (drop-drop 4 8 file)) ∙ take-append-drop 4 (drop 8 file))
    ∙ take-append-drop 8 file)

-- a file that breaks no rule is that of its own parts
IsWhole-file : (file : List ℕ) → ((i : ℕ) → get_or file i 0 < 256) → IsWholeFile plain_format file
    → file ≡ plain_file (number_in_file file 8) (drop 16 file)
unfolding plain_file
IsWhole-file file bytes whole =
    let size : length file ≡ 16 + 1 * number_in_file file 12 = whole.size in
    let said : length (drop 16 file) ≡ number_in_file file 12 = simp length-drop (omega arith) in
    let entry = field-written file 8 bytes (omega arith) in
    let length = field-written file 12 bytes (omega arith) in
    sym (pieces file) ∙ four (drop 16 file) (agreed-all plain_head file whole.head) (sym entry)
    (sym (ap (to_be_bytes w32) said ∙ length))

-- What is read of a file is in the grammar, and keeps the rules of an image.
module _ (file : List ℕ) (entry count : ℕ)
    (is : fields_at plain_format file ≡ Ok (entry, count)) where
  breaks_none : IsWholeFile plain_format file
  breaks_none = (fields-told plain_format file (entry, count) plain_is_format is).0

  entry_told : entry ≡ number_in_file file 8
  entry_told =
      ap (λ (fields : ℕ × ℕ). fields.0)
      (fields-told plain_format file (entry, count) plain_is_format is).1

  pub told-aligned : entry % 4 ≡ 0
  told-aligned = rw entry_told breaks_none.aligned

  pub told-private : entry < 2 ^ 20
  told-private = rw entry_told breaks_none.private

  pub told-fits : length (drop 16 file) ≤ 2 ^ 20
  told-fits =
      let size : length file ≡ 16 + 1 * number_in_file file 12 = breaks_none.size in
      let most : number_in_file file 12 ≤ 2 ^ 20 = breaks_none.most in
      simp length-drop (omega arith)

  pub told-file : ((i : ℕ) → get_or file i 0 < 256) → file ≡ plain_file entry (drop 16 file)
  told-file small =
      IsWhole-file file small breaks_none ∙ ap (λ n. plain_file n (drop 16 file)) (sym entry_told)

-- the file of an image breaks no rule
plain_file-whole : (entry : ℕ) (bytes : List ℕ) → entry % 4 ≡ 0 → entry < 2 ^ 20
    → length bytes ≤ 2 ^ 20 → IsWholeFile plain_format (plain_file entry bytes)
unfolding plain_file number_in_file common_prefix_size
plain_file-whole entry bytes aligned private fits =
    let entry_is : number_in_file (plain_file entry bytes) 8 ≡ entry = from_be_bytes-to_be_bytes_4 entry
    (omega arith) in
    let length_is : number_in_file (plain_file entry bytes) 12 ≡ length bytes =
    from_be_bytes-to_be_bytes_4 (length bytes) (omega arith) in
    record {
      head = refl;
      aligned = rw entry_is aligned;
      private = rw entry_is private;
      most = rw length_is fits;
      size = rw length_is (omega arith);
    }

-- the file of an image is read as its entry and its bytes
pub plain_file-read : (entry : ℕ) (bytes : List ℕ) → entry % 4 ≡ 0 → entry < 2 ^ 20
    → length bytes ≤ 2 ^ 20 → plain_image_at (plain_file entry bytes) ≡ Ok (entry, bytes)
unfolding plain_image_at plain_file number_in_file
plain_file-read entry bytes aligned private fits =
    let file = plain_file entry bytes in
    ap (λ read. read >>= (λ fields. Ok (fields.0, bytes)))
    (whole-fields plain_format file plain_is_format (plain_file-whole entry bytes aligned private
    fits))
    ∙ ap (λ n. Ok (n, bytes)) (from_be_bytes-to_be_bytes_4 entry (omega arith))

-- ---- What a reader promises follows from what it answers

IsPlainFile-read : (file : List ℕ) (image : PlainImage) → IsPlainFile file image
    → plain_image_at file ≡ Ok (image.entry, image.bytes)
IsPlainFile-read file image is =
    ap plain_image_at is
    ∙ plain_file-read image.entry image.bytes image.aligned image.private image.fits

pub Answers-file : (file : List ℕ) (result : Result PlainImage ImageFault)
    → IfOk result (IsPlainFile file) → ImageAnswers (plain_image_at file) result
    → AnswersFile (IsPlainFile file) (IsLeastBadOffset file) result
unfolding plain_image_at
Answers-file file =
    AnswersBy-file (λ (image : PlainImage). (image.entry, image.bytes))
    (λ a b same. PlainImage-equal a b (ap (λ (p : ℕ × List ℕ). p.0) same)
    (ap (λ (p : ℕ × List ℕ). p.1) same))
    plain_format plain_is_format file (λ fields. (fields.0, drop 16 file)) (IsPlainFile file)
    (IsPlainFile-read file)
