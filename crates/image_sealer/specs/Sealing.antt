-- How an owner seals an image for one machine: each line of 32 bytes under its place in the image,
-- and an envelope that tells that machine the image's key. The form is this project's own.
use Rattle.std.specs.Prelude.{ℕ, ◌≡◌, ◌+◌, ◌*◌, ◌/◌, List, ◌∷◌, drop, length, map, take}
use Rattle.std.specs.List.{range_with_len}
use Rattle.xom_base.specs.Padded.{padded_block}
use Rattle.xom_base.specs.Sizes.{line_size}
use Rattle.xom_base.specs.declared.key.Key256.{Key256}
use Rattle.xom_seal.specs.declared.envelope.Unwrapped.{Unwrapped}
use Rattle.xom_seal.specs.declared.line.SealedLine.{SealedLine}
use Rattle.xom_seal.specs.declared.names.LineName.TheVariants.{Image}
use Rattle.xom_seal.specs.Envelopes.{wrapped_key_of}
use Rattle.xom_seal.specs.Keys.{image_keys}
use Rattle.xom_seal.specs.Messages.{envelope_message, line_message}
use Rattle.xom_seal.specs.Sealing.{sealed_line}
use Rattle.xom_seal.specs.declared.sealed_image.SealedImage.{SealedImage}
use Rattle.xom_owners.specs.declared.owner.Owner.{Owner}

-- ---- Lines

-- how many lines of 32 bytes these bytes have
abbrev pub line_count : List ℕ → ℕ
line_count bytes = (length bytes + 31) / line_size

-- one of their lines, by its number from 0; the last is filled up with zeros
abbrev pub line_of_image : List ℕ → ℕ → List ℕ
line_of_image bytes line = padded_block line_size (take line_size (drop (line_size * line) bytes))

-- all their lines
abbrev pub lines_of_image : List ℕ → List (List ℕ)
lines_of_image bytes = map (line_of_image bytes) (range_with_len 0 (line_count bytes))

-- ---- The sealed image

-- what the envelope says of an owner's image
abbrev pub contents_for_owner : Owner → Unwrapped
contents_for_owner owner = record {
  id = owner.id;
  entry = owner.plain.entry;
  lines = line_count owner.plain.bytes;
  key = owner.key;
}

-- the envelope for this machine
unfoldable pub envelope_of : Key256 → Owner → List ℕ
envelope_of machine owner = wrapped_key_of machine (contents_for_owner owner)

-- a line under its number in the image
unfoldable pub sealed_line_of : Owner → ℕ → SealedLine
sealed_line_of owner line =
    sealed_line (Image owner.id line) (image_keys owner.key owner.id)
    (line_of_image owner.plain.bytes line)

-- all lines of the image
abbrev pub sealed_lines_of : Owner → List SealedLine
sealed_lines_of owner = map (sealed_line_of owner) (range_with_len 0 (line_count owner.plain.bytes))

-- the owner's image, sealed for this machine
pub record IsSealedFor (machine : Key256) (owner : Owner) (sealed : SealedImage) : Type 0 where
  pub envelope : sealed.envelope ≡ envelope_of machine owner
  pub lines : sealed.lines ≡ sealed_lines_of owner

-- ---- What the owner takes tags of

-- the image key and the message of a line
abbrev pub line_sealing_of : Owner → ℕ → List ℕ × List ℕ
line_sealing_of owner line =
    (owner.key.0, line_message (Image owner.id line) ((sealed_line_of owner line).ct))

-- each key with a message: the machine key with that of the envelope, then the image key with that
-- of each line
unfoldable pub sealing_of : Key256 → Owner → List (List ℕ × List ℕ)
sealing_of machine owner =
    (machine.0, envelope_message (envelope_of machine owner))
    ∷ map (line_sealing_of owner) (range_with_len 0 (line_count owner.plain.bytes))
