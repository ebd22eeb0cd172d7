-- What an owner sealed for a machine opens there.
use Rattle.std.proofs.Common.{◌≡◌, ℕ, ◌+◌, ◌*◌, ◌-◌, ◌^◌, ◌<◌, ◌≤◌, inl, inr, List, [], ◌∷◌, ◌++◌, Some, drop, length, map, min, refl, replicate, sym, take, ◌∙◌, ap, arith, length-append}
use Rattle.std.specs.Prelude.{slice_get}
use Rattle.std.specs.List.{range_with_len}
use Rattle.std.proofs.lemmas.Bool.{cases_lt}
use Rattle.std.proofs.lemmas.List.{drop-replicate, length-replicate, length-take}
use Rattle.std.proofs.Math.Seq.{take_all}
use Rattle.std.proofs.lemmas.List.FromFn.{length-map-range_with_len, map-range_with_len_more}
use Rattle.keyed_mac.specs.Hmac.{hmac_sha256}
use Rattle.xom_base.specs.Padded.{padded_block}
use Rattle.xom_base.specs.declared.key.Key256.{Key256}
use Rattle.xom_seal.specs.declared.line.SealedLine.{SealedLine}
use Rattle.xom_seal.specs.declared.names.LineName.TheVariants.{Image}
use Rattle.xom_seal.specs.Envelopes.{contents_of as contents_in, envelope_contents, envelope_tag, tag_in}
use Rattle.xom_seal.specs.Keys.{image_keys}
use Rattle.xom_seal.specs.Laws.{IsUnwrapped}
use Rattle.xom_seal.specs.Messages.{envelope_message}
use Rattle.xom_seal.specs.Sealing.{line_tag, sealed_line, unsealed_line}
use Rattle.xom_seal.proofs.EnvelopeLaws.{envelopes_open as wrapped_open}
use Rattle.xom_seal.proofs.SealLaws.{let_through, lines_open as sealed_lines_open, sealed_lines_have_their_length}
use Rattle.xom_seal.proofs.WholeLines.{AreWhole, get-made}
use Rattle.xom_owners.specs.declared.owner.Owner.{Owner}
use Rattle.image_sealer.specs.Laws.{IsOwner, OwnersEnvelopesOpen, OwnersLinesOpen, TagsAreOfTheSealing}
use Rattle.image_sealer.specs.Sealing.{contents_for_owner, envelope_of, line_count, line_of_image, line_sealing_of, sealed_line_of, sealed_lines_of, sealing_of}

-- ---- Lines

-- a line has 32 bytes
length-line_of : (bytes : List ℕ) (line : ℕ) → length (line_of_image bytes line) ≡ 32
length-line_of bytes line =
    let short : length (take 32 (drop (32 * line) bytes)) ≤ 32 = simp length-take (omega arith) in
    simp (length-append, length-replicate) (omega arith)

-- as far as the bytes go, it has them, and zeros behind
pub filled_line : (rest : List ℕ) (n : ℕ) (text : List ℕ) → n ≡ min (length rest) 32
    → text ≡ take n rest → text ++ drop n (replicate 32 0) ≡ padded_block 32 (take 32 rest)
filled_line rest n text is_size is_front =
    let front : take n rest ≡ take 32 rest =
    elim (cases_lt (length rest) 32) [
      | inl short ↦ take_all n rest (omega arith) ∙ sym (take_all 32 rest (omega arith))
      | inr long ↦ let same : n ≡ 32 = omega arith in ap (λ k. take k rest) same
    ] in
    let size : n ≡ length (take 32 rest) = omega (arith, length-take 32 rest) in
    ap (λ now. now ++ drop n (replicate 32 0)) (is_front ∙ front)
    ∙ ap (λ zeros. take 32 rest ++ zeros) (drop-replicate n 32 0 ∙ ap (λ k. replicate (32 - k) 0)
    size)

-- and so have the parts of a sealed one
pub length-sealed_line_of : (owner : Owner) (line : ℕ)
    → (length (sealed_line_of owner line).ct ≡ 32) × (length (sealed_line_of owner line).tag ≡ 32)
unfolding sealed_line_of
length-sealed_line_of owner line =
    sealed_lines_have_their_length (Image owner.id line) (image_keys owner.key owner.id)
    (line_of_image owner.plain.bytes line) (length-line_of owner.plain.bytes line)

pub sealed_lines-whole : (owner : Owner) → AreWhole (sealed_lines_of owner)
sealed_lines-whole owner i line is =
    let (below, same) = get-made (sealed_line_of owner) (line_count owner.plain.bytes) i line is in
    let sized = length-sealed_line_of owner i in (
      ap (λ (l : SealedLine). length l.ct) same ∙ sized.0,
      ap (λ (l : SealedLine). length l.tag) same
          ∙ sized.1,
    )

pub length-sealed_lines : (owner : Owner)
    → length (sealed_lines_of owner) ≡ line_count owner.plain.bytes
length-sealed_lines owner =
    length-map-range_with_len (sealed_line_of owner) 0 (line_count owner.plain.bytes)

-- one more line
pub sealed_lines_more : (owner : Owner) (n : ℕ)
    → map (sealed_line_of owner) (range_with_len 0 (n + 1))
    ≡ map (sealed_line_of owner) (range_with_len 0 n) ++ sealed_line (Image owner.id n)
    (image_keys owner.key owner.id) (line_of_image owner.plain.bytes n) ∷ []
unfolding sealed_line_of
sealed_lines_more owner n = map-range_with_len_more (sealed_line_of owner) 0 n n (omega arith)

-- an image has few enough lines
pub line_count-fits : (owner : Owner) → line_count owner.plain.bytes ≤ 2 ^ 15
line_count-fits owner =
    let fits : length owner.plain.bytes ≤ 2 ^ 20 = owner.plain.fits in omega arith

-- a sealed line opens to the line
line_opens : (owner : Owner) (line : ℕ)
    → unsealed_line (Image owner.id line) (image_keys owner.key owner.id)
    (sealed_line_of owner line) ≡ Some (line_of_image owner.plain.bytes line)
unfolding sealed_line_of
line_opens owner line =
    sealed_lines_open (Image owner.id line) (image_keys owner.key owner.id)
    (line_of_image owner.plain.bytes line) (length-line_of owner.plain.bytes line)

pub lines_open : OwnersLinesOpen
lines_open machine owner sealed is = (
  ap length is.lines ∙ length-sealed_lines owner
      ∙ sym (length-map-range_with_len (line_of_image owner.plain.bytes) 0 (line_count owner.plain.bytes)),
  λ i line plain stands there.
      let lines : slice_get (sealed_lines_of owner) i ≡ Some line = ap (λ all. slice_get all i)
      (sym is.lines) ∙ stands in
      let (below, same) = get-made (sealed_line_of owner) (line_count owner.plain.bytes) i line
      lines in
      let (under, alike) = get-made (line_of_image owner.plain.bytes) (line_count owner.plain.bytes) i
      plain there in
      ap (unsealed_line (Image owner.id i) (image_keys owner.key owner.id)) same ∙ line_opens owner
      i ∙ ap Some (sym alike),
)

-- ---- The envelope

-- what it says is in range
contents-ranges : (owner : Owner) → IsOwner owner → IsUnwrapped (contents_for_owner owner)
contents-ranges owner is_owner =
    let private : owner.plain.entry < 2 ^ 20 = owner.plain.private in
    let few = line_count-fits owner in
    record { id = is_owner.id; entry = omega arith; lines = omega arith; key = is_owner.key }

-- and read by the machine
envelope_opens : (machine : Key256) (owner : Owner) → IsOwner owner
    → envelope_contents machine (envelope_of machine owner) ≡ Some (contents_for_owner owner)
unfolding envelope_of
envelope_opens machine owner is_owner =
    wrapped_open machine (contents_for_owner owner) (contents-ranges owner is_owner)

pub envelopes_open : OwnersEnvelopesOpen
envelopes_open machine owner sealed is_owner is =
    ap (envelope_contents machine) is.envelope ∙ envelope_opens machine owner is_owner

-- ---- Tags

-- the tag of the envelope is that of its message
envelope-tag : (machine : Key256) (owner : Owner) → IsOwner owner
    → tag_in (envelope_of machine owner) ≡ hmac_sha256 machine.0
    (envelope_message (envelope_of machine owner))
unfolding envelope_tag
envelope-tag machine owner is_owner =
    let envelope = envelope_of machine owner in
    (let_through (tag_in envelope) (envelope_tag machine envelope) (contents_in machine envelope)
    (contents_for_owner owner) (envelope_opens machine owner is_owner)).0

-- the tags of lines are those of their messages
lines-tags : (owner : Owner) (places : List ℕ)
    → map (λ (line : SealedLine). line.tag) (map (sealed_line_of owner) places)
    ≡ map (λ (sealing : List ℕ × List ℕ). hmac_sha256 sealing.0 sealing.1)
    (map (line_sealing_of owner) places)
unfolding sealed_line_of line_tag
lines-tags owner [] = refl
lines-tags owner (place ∷ places) =
    ap (λ rest. (sealed_line_of owner place).tag ∷ rest) (lines-tags owner places)

pub tags_are_of_the_sealing : TagsAreOfTheSealing
unfolding sealing_of
tags_are_of_the_sealing machine owner sealed is_owner is =
    ap (λ envelope. tag_in envelope ∷ map (λ (line : SealedLine). line.tag) sealed.lines)
    is.envelope
    ∙ ap (λ lines. tag_in (envelope_of machine owner) ∷ map (λ (line : SealedLine). line.tag) lines)
    is.lines
    ∙ ap (λ tag. tag ∷ map (λ (line : SealedLine). line.tag) (sealed_lines_of owner))
    (envelope-tag machine owner is_owner)
    ∙ ap (λ rest. hmac_sha256 machine.0 (envelope_message (envelope_of machine owner)) ∷ rest)
    (lines-tags owner (range_with_len 0 (line_count owner.plain.bytes)))
