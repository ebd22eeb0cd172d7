-- Lines that are put into RAM are read again, and each line stays where it was put.
use Rattle.std.proofs.Common.{◌≡◌, inl, inr, ◌⊎◌, ℕ, zero, suc, ◌+◌, ◌*◌, ◌/◌, ◌%◌, ◌≤◌, ◌<◌, List, [], ◌∷◌, ◌++◌, length, replicate, Option, Some, true, false, refl, sym, subst, ◌∙◌, ap, arith}
use Rattle.std.proofs.lemmas.Bool.{ltb-false, ltb-true}
use Rattle.std.proofs.lemmas.List.{length-replicate}
use Rattle.std.proofs.lemmas.Option.{slice_get_within}
use Rattle.std.specs.Prelude.{All, nat_lt, slice_get}
use Rattle.xom_seal.specs.declared.line.SealedLine.{SealedLine}
use Rattle.line_ram.specs.Bytes.{HoldsRange, bytes_at, ciphertext_place, frame_lines, ram_with_bytes, ram_with_line, tag_place}
use Rattle.xom_base.specs.Sizes.{line_size}
use Rattle.line_ram.specs.Laws.{AreApart}
use Rattle.line_ram.proofs.Ranges.{bytes-stored_apart, bytes-stored_same, length-stored}
use Rattle.xom_base.specs.declared.image.PlainImage.{PlainImage}
use Rattle.xom_base.specs.Frames.{frame_size}
use Rattle.xom_model.specs.Operation.{envelope_size}
use Rattle.cli_runs.specs.Places.{FitsAll, first_frame, frame_behind, frames_of_guest}
use Rattle.cli_runs.specs.declared.guest_image.GuestImage.{GuestImage}
use Rattle.power_on.specs.Start.{kernel_bytes, ram_with_guest, with_guests, with_lines}
use Rattle.power_on.specs.ReadAgain.{GuestsAreRead, IsReadAt, IsWholeGuest, IsWholeLine, KernelIsRead, RamHasRoom, StandsAt}

-- where a line of this number has its ciphertext and its tag, where line 0 is the first of a frame
abbrev cipher : ℕ → ℕ → ℕ
cipher frame number = ciphertext_place (frame + number / frame_lines) (number % frame_lines)

abbrev tag : ℕ → ℕ → ℕ
tag frame number = tag_place (frame + number / frame_lines) (number % frame_lines)

-- the frame of the line lies in RAM
abbrev Holds : List ℕ → ℕ → ℕ → Type 0
Holds ram frame number = (frame + number / frame_lines + 1) * frame_size ≤ length ram

-- the range meets neither place of the line
record Misses (frame number other count : ℕ) : Type 0 where
  cipher_apart : AreApart (cipher frame number) line_size other count
  tag_apart : AreApart (tag frame number) line_size other count

module _ (ram : List ℕ) (frame number : ℕ) (line : SealedLine) (whole : IsWholeLine line)
    (held : Holds ram frame number) where
  low : number % frame_lines < 128
  low = omega arith

  fits_cipher : HoldsRange ram (cipher frame number) (length line.ct)
  fits_cipher = let low = low in omega (arith, whole.ciphertext)

  once : length (ram_with_bytes ram (cipher frame number) line.ct) ≡ length ram
  once = length-stored ram line.ct (cipher frame number) fits_cipher

  fits_tag : HoldsRange (ram_with_bytes ram (cipher frame number) line.ct) (tag frame number)
      (length line.tag)
  fits_tag = let low = low in let once = once in omega (arith, whole.tag)

  line-size : length (ram_with_line ram (frame + number / frame_lines) (number % frame_lines) line.ct
      line.tag) ≡ length ram
  line-size =
      length-stored (ram_with_bytes ram (cipher frame number) line.ct) line.tag (tag frame number) fits_tag
      ∙ once

  line-missed : (other count : ℕ) → Misses frame number other count
      → bytes_at (ram_with_line ram (frame + number / frame_lines) (number % frame_lines) line.ct
      line.tag) other count ≡ bytes_at ram other count
  line-missed other count misses =
      bytes-stored_apart (ram_with_bytes ram (cipher frame number) line.ct) line.tag (tag frame number)
      other count fits_tag
      (subst (λ n. AreApart (tag frame number) n other count) (sym whole.tag) misses.tag_apart)
      ∙ bytes-stored_apart ram line.ct (cipher frame number) other count fits_cipher
      (subst (λ n. AreApart (cipher frame number) n other count) (sym whole.ciphertext)
      misses.cipher_apart)

  line-read : IsReadAt (ram_with_line ram (frame + number / frame_lines) (number % frame_lines) line.ct
      line.tag) frame number line
  line-read = record {
    ciphertext =
        bytes-stored_apart (ram_with_bytes ram (cipher frame number) line.ct) line.tag (tag frame number)
        (cipher frame number) line_size fits_tag (inr (let low = low in omega arith))
        ∙ ap (bytes_at (ram_with_bytes ram (cipher frame number) line.ct) (cipher frame number))
        (sym whole.ciphertext)
        ∙ bytes-stored_same ram line.ct (cipher frame number) fits_cipher;
    tag =
        ap (bytes_at (ram_with_line ram (frame + number / frame_lines) (number % frame_lines) line.ct
        line.tag) (tag frame number)) (sym whole.tag)
        ∙ bytes-stored_same (ram_with_bytes ram (cipher frame number) line.ct) line.tag (tag frame number)
        fits_tag;
  }

-- the lines from this number on, so many, lie in RAM
abbrev HoldsAll : List ℕ → ℕ → ℕ → ℕ → Type 0
HoldsAll ram frame number count =
    (frame + (number + count + 127) / frame_lines) * frame_size ≤ length ram

-- the first of them does
first-held : (ram : List ℕ) (frame number count : ℕ) → HoldsAll ram frame number (suc count)
    → Holds ram frame number
first-held ram frame number count held =
    let next : number / 128 + 1 ≤ (number + suc count + 127) / 128 = omega arith in
    omega arith

-- and so do the others, in as much RAM
rest-held : (ram new : List ℕ) (frame number count : ℕ) → length new ≡ length ram
    → HoldsAll ram frame number (suc count) → HoldsAll new frame (number + 1) count
rest-held ram new frame number count same held =
    subst (λ n. (frame + n / frame_lines) * frame_size ≤ length new) {x = number + suc count + 127}
    {y = number + 1 + count + 127} (omega arith)
    (subst (λ n. (frame + (number + suc count + 127) / frame_lines) * frame_size ≤ n) (sym same)
    held)

head-whole : (line : SealedLine) (lines : List SealedLine) → All IsWholeLine (line ∷ lines)
    → IsWholeLine line
head-whole line lines whole = whole 0 line (omega arith)

tail-whole : (line : SealedLine) (lines : List SealedLine) → All IsWholeLine (line ∷ lines)
    → All IsWholeLine lines
tail-whole line lines whole =
    λ (k : ℕ) (d : SealedLine) (within : k < length lines). whole (suc k) d (omega arith)

-- RAM with the line of this number
abbrev with_one : List ℕ → ℕ → ℕ → SealedLine → List ℕ
with_one ram frame number line =
    ram_with_line ram (frame + number / frame_lines) (number % frame_lines) line.ct line.tag

-- a range that no line meets is read as before
lines-missed : (ram : List ℕ) (frame number : ℕ) (lines : List SealedLine) (other count : ℕ)
    → All IsWholeLine lines → HoldsAll ram frame number (length lines)
    → ((n : ℕ) → number ≤ n → Misses frame n other count)
    → bytes_at (with_lines ram frame number lines) other count ≡ bytes_at ram other count
lines-missed ram frame number [] other count whole held misses = refl
lines-missed ram frame number (line ∷ lines) other count whole held misses =
    let first = first-held ram frame number (length lines) held in
    let own = head-whole line lines whole in
    lines-missed (with_one ram frame number line) frame (number + 1) lines other count
    (tail-whole line lines whole)
    (rest-held ram (with_one ram frame number line) frame number (length lines)
    (line-size ram frame number line own first) held)
    (λ (n : ℕ) (past : number + 1 ≤ n). misses n (omega arith))
    ∙ line-missed ram frame number line own first other count (misses number (omega arith))

-- a line's places are behind those of the lines before it, in its frame or in a later one
in-order : (m n : ℕ) → m < n → (m / 128 < n / 128) ⊎ ((m / 128 ≡ n / 128) × (m % 128 < n % 128))
in-order m n before = elim (nat_lt (m / 128) (n / 128)) as (λ b. nat_lt (m / 128) (n / 128) ≡ b
    → (m / 128 < n / 128) ⊎ ((m / 128 ≡ n / 128) × (m % 128 < n % 128))) [
      | true ↦ λ is. inl (ltb-true (m / 128) (n / 128) is)
      | false ↦ λ is. let past : n / 128 ≤ m / 128 = ltb-false (m / 128) (n / 128) is in
          inr (omega arith, omega arith)
    ] refl

cipher-missed : (frame m n : ℕ) → m < n → Misses frame n (cipher frame m) line_size
cipher-missed frame m n before = elim (in-order m n before) [
  | inl later ↦ record { cipher_apart = inr (omega arith); tag_apart = inr (omega arith) }
  | inr same ↦ record { cipher_apart = inr (omega arith); tag_apart = inr (omega arith) }
]

tag-missed : (frame m n : ℕ) → m < n → Misses frame n (tag frame m) line_size
tag-missed frame m n before = elim (in-order m n before) [
  | inl later ↦ record { cipher_apart = inr (omega arith); tag_apart = inr (omega arith) }
  | inr same ↦ record { cipher_apart = inl (omega arith); tag_apart = inr (omega arith) }
]

-- each of them is read where it was put
lines-read : (ram : List ℕ) (frame number : ℕ) (lines : List SealedLine) (j : ℕ) (line : SealedLine)
    → All IsWholeLine lines → HoldsAll ram frame number (length lines)
    → slice_get lines j ≡ Some line
    → IsReadAt (with_lines ram frame number lines) frame (number + j) line
lines-read ram frame number [] j line whole held is = absurd (cc)
lines-read ram frame number (first ∷ lines) zero line whole held is =
    let one = with_one ram frame number first in
    let low = first-held ram frame number (length lines) held in
    let own = head-whole first lines whole in
    let more = tail-whole first lines whole in
    let rest = rest-held ram one frame number (length lines) (line-size ram frame number first own
    low) held in
    let put = line-read ram frame number first own low in
    let same : first ≡ line = cc in
    let here : number ≡ number + zero = omega arith in
    subst (λ (n : ℕ). IsReadAt (with_lines one frame (number + 1) lines) frame n line) here
    (subst (λ (l : SealedLine). IsReadAt (with_lines one frame (number + 1) lines) frame number l)
    same (record {
      ciphertext =
          lines-missed one frame (number + 1) lines (cipher frame number) line_size more rest
          (λ (n : ℕ) (past : number + 1 ≤ n). cipher-missed frame number n (omega arith))
          ∙ put.ciphertext;
      tag =
          lines-missed one frame (number + 1) lines (tag frame number) line_size more rest
          (λ (n : ℕ) (past : number + 1 ≤ n). tag-missed frame number n (omega arith))
          ∙ put.tag;
    }))
lines-read ram frame number (first ∷ lines) (suc j) line whole held is =
    let one = with_one ram frame number first in
    let low = first-held ram frame number (length lines) held in
    let own = head-whole first lines whole in
    let rest = rest-held ram one frame number (length lines) (line-size ram frame number first own
    low) held in
    let on : number + 1 + j ≡ number + suc j = omega arith in
    subst (λ (n : ℕ). IsReadAt (with_lines one frame (number + 1) lines) frame n line) on
    (lines-read one frame (number + 1) lines j line (tail-whole first lines whole) rest is)

-- RAM keeps its size
lines-size : (ram : List ℕ) (frame number : ℕ) (lines : List SealedLine) → All IsWholeLine lines
    → HoldsAll ram frame number (length lines)
    → length (with_lines ram frame number lines) ≡ length ram
lines-size ram frame number [] whole held = refl
lines-size ram frame number (line ∷ lines) whole held =
    let one = with_one ram frame number line in
    let size = line-size ram frame number line (head-whole line lines whole)
    (first-held ram frame number (length lines) held) in
    lines-size one frame (number + 1) lines (tail-whole line lines whole)
    (rest-held ram one frame number (length lines) size held) ∙ size

-- ---- A guest

-- the guest lies in RAM from this frame on
abbrev LiesIn : List ℕ → ℕ → GuestImage → Type 0
LiesIn ram frame image = (frame + frames_of_guest image) * frame_size ≤ length ram

module _ (ram : List ℕ) (frame : ℕ) (image : GuestImage) (whole : IsWholeGuest image)
    (lies : LiesIn ram frame image) where
  envelope-fits : HoldsRange ram (frame * frame_size) (length image.envelope)
  envelope-fits = omega (arith, whole.envelope)

  begun-size : length (ram_with_bytes ram (frame * frame_size) image.envelope) ≡ length ram
  begun-size = length-stored ram image.envelope (frame * frame_size) envelope-fits

  lines-held : HoldsAll (ram_with_bytes ram (frame * frame_size) image.envelope) (frame + 1) 0
      (length image.lines)
  lines-held = let size = begun-size in omega (arith, size)

  envelope-missed : (n : ℕ) → 0 ≤ n → Misses (frame + 1) n (frame * frame_size) envelope_size
  envelope-missed n past = record {
    cipher_apart = inr (omega arith);
    tag_apart =
        inr (omega arith);
  }

  guest-size : length (ram_with_guest ram frame image) ≡ length ram
  guest-size =
      lines-size (ram_with_bytes ram (frame * frame_size) image.envelope) (frame + 1) 0 image.lines
      whole.lines lines-held
      ∙ begun-size

  -- what lies before the guest is read as before
  guest-missed : (other count : ℕ) → other + count ≤ frame * frame_size
      → bytes_at (ram_with_guest ram frame image) other count ≡ bytes_at ram other count
  guest-missed other count before =
      lines-missed (ram_with_bytes ram (frame * frame_size) image.envelope) (frame + 1) 0 image.lines other
      count whole.lines lines-held
      (λ (n : ℕ) (past : 0 ≤ n). record {
        cipher_apart = inr (omega arith);
        tag_apart =
            inr (omega arith);
      })
      ∙ bytes-stored_apart ram image.envelope (frame * frame_size) other count envelope-fits
      (inr before)

  guest-stands : StandsAt (ram_with_guest ram frame image) frame image
  guest-stands = record {
    envelope =
        lines-missed (ram_with_bytes ram (frame * frame_size) image.envelope) (frame + 1) 0 image.lines
        (frame * frame_size) envelope_size whole.lines lines-held envelope-missed
        ∙ ap (bytes_at (ram_with_bytes ram (frame * frame_size) image.envelope) (frame * frame_size))
        (sym whole.envelope)
        ∙ bytes-stored_same ram image.envelope (frame * frame_size) envelope-fits;
    lines = λ (number : ℕ) (line : SealedLine) (is : slice_get image.lines number ≡ Some line).
        let same : 0 + number ≡ number = omega arith in
        subst (λ (n : ℕ). IsReadAt (ram_with_guest ram frame image) (frame + 1) n line) same
        (lines-read (ram_with_bytes ram (frame * frame_size) image.envelope) (frame + 1) 0 image.lines
        number line whole.lines lines-held is);
  }

-- a guest that stands still does where all up to its end is read as before
stands-carried : (ram new : List ℕ) (frame : ℕ) (image : GuestImage)
    → ((other count : ℕ) → other + count ≤ (frame + frames_of_guest image) * frame_size
    → bytes_at new other count ≡ bytes_at ram other count)
    → StandsAt ram frame image → StandsAt new frame image
stands-carried ram new frame image same stands = record {
  envelope = same (frame * frame_size) envelope_size (omega arith) ∙ stands.envelope;
  lines = λ (number : ℕ) (line : SealedLine) (is : slice_get image.lines number ≡ Some line).
      let read = stands.lines number line is in
      let within = slice_get_within image.lines number line is in
      let page : number / 128 + 1 ≤ (length image.lines + 127) / 128 = omega arith in
      record {
        ciphertext = same (cipher (frame + 1) number) line_size (omega arith) ∙ read.ciphertext;
        tag = same (tag (frame + 1) number) line_size (omega arith) ∙ read.tag;
      };
}

-- ---- All guests

head-image : (image : GuestImage) (images : List GuestImage) → All IsWholeGuest (image ∷ images)
    → IsWholeGuest image
head-image image images whole = whole 0 image (omega arith)

tail-images : (image : GuestImage) (images : List GuestImage) → All IsWholeGuest (image ∷ images)
    → All IsWholeGuest images
tail-images image images whole =
    λ (k : ℕ) (d : GuestImage) (within : k < length images). whole (suc k) d (omega arith)

lies-in : (frames : ℕ) (ram : List ℕ) (frame : ℕ) (image : GuestImage)
    → length ram ≡ frames * frame_size → frame + frames_of_guest image ≤ frames → LiesIn ram frame image
lies-in frames ram frame image size fits = omega arith

-- what lies before the first of them is read as before
guests-missed : (frames : ℕ) (ram : List ℕ) (frame : ℕ) (images : List GuestImage) (other count : ℕ)
    → length ram ≡ frames * frame_size → FitsAll frames frame images → All IsWholeGuest images
    → other + count ≤ frame * frame_size
    → bytes_at (with_guests ram frame images) other count ≡ bytes_at ram other count
guests-missed frames ram frame [] other count size fits whole before = refl
guests-missed frames ram frame (image ∷ images) other count size fits whole before =
    let own = head-image image images whole in
    let lies = lies-in frames ram frame image size fits.0 in
    guests-missed frames (ram_with_guest ram frame image) (frame + frames_of_guest image) images other count
    (guest-size ram frame image own lies ∙ size) fits.1 (tail-images image images whole)
    (omega arith)
    ∙ guest-missed ram frame image own lies other count before

guests-stand : (frames : ℕ) (ram : List ℕ) (frame : ℕ) (before : List GuestImage)
    (image : GuestImage) (behind : List GuestImage)
    → length ram ≡ frames * frame_size → FitsAll frames frame (before ++ image ∷ behind)
    → All IsWholeGuest (before ++ image ∷ behind)
    → StandsAt (with_guests ram frame (before ++ image ∷ behind)) (frame_behind frame before) image
guests-stand frames ram frame [] image behind size fits whole =
    let own = head-image image behind whole in
    let lies = lies-in frames ram frame image size fits.0 in
    stands-carried (ram_with_guest ram frame image) (with_guests (ram_with_guest ram frame image)
    (frame + frames_of_guest image) behind) frame image
    (λ (other count : ℕ) (low : other + count ≤ (frame + frames_of_guest image) * frame_size).
    guests-missed frames (ram_with_guest ram frame image) (frame + frames_of_guest image) behind other count
    (guest-size ram frame image own lies ∙ size) fits.1 (tail-images image behind whole) low)
    (guest-stands ram frame image own lies)
guests-stand frames ram frame (first ∷ before) image behind size fits whole =
    let own = head-image first (before ++ image ∷ behind) whole in
    let lies = lies-in frames ram frame first size fits.0 in
    guests-stand frames (ram_with_guest ram frame first) (frame + frames_of_guest first) before image behind
    (guest-size ram frame first own lies ∙ size) fits.1
    (tail-images first (before ++ image ∷ behind) whole)

-- ---- The start

module _ (frames : ℕ) (kernel : Option PlainImage) (images : List GuestImage)
    (room : RamHasRoom frames kernel images) where
  zeros-size : length {A = ℕ} (replicate (frames * frame_size) 0) ≡ frames * frame_size
  zeros-size = length-replicate {A = ℕ} (frames * frame_size) 0

  kernel-held : HoldsRange (replicate (frames * frame_size) 0) 0 (length (kernel_bytes kernel))
  kernel-held = let size = zeros-size in let fits = room.kernel_fits in omega (arith, size, fits)

  kernel-size : length (ram_with_bytes (replicate (frames * frame_size) 0) 0 (kernel_bytes kernel)) ≡ frames
      * frame_size
  kernel-size =
      length-stored (replicate (frames * frame_size) 0) (kernel_bytes kernel) 0 kernel-held
      ∙ zeros-size

pub kernel-read : KernelIsRead
kernel-read frames kernel images room =
    let low = room.kernel_low in
    guests-missed frames (ram_with_bytes (replicate (frames * frame_size) 0) 0 (kernel_bytes kernel))
    first_frame images 0 (length (kernel_bytes kernel))
    (kernel-size frames kernel images room) room.guests room.whole (omega (arith, low))
    ∙ bytes-stored_same (replicate (frames * frame_size) 0) (kernel_bytes kernel) 0
    (kernel-held frames kernel images room)

pub guests-read : GuestsAreRead
guests-read frames kernel before image behind room =
    guests-stand frames (ram_with_bytes (replicate (frames * frame_size) 0) 0 (kernel_bytes kernel))
    first_frame before image behind
    (kernel-size frames kernel (before ++ image ∷ behind) room) room.guests room.whole
