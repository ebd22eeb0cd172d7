-- What an owner may rely on: the machine that an image was sealed for finds in it what the owner
-- put there, and each tag is that of a message of the owner's sealing.
use Rattle.std.specs.Prelude.{ℕ, ◌≡◌, List, ◌∷◌, Some, length, map, slice_get}
use Rattle.keyed_mac.specs.Hmac.{hmac_sha256}
use Rattle.xom_base.specs.declared.key.Key256.{Key256}
use Rattle.xom_base.specs.Sizes.{id_size, key_size}
use Rattle.xom_seal.specs.declared.line.SealedLine.{SealedLine}
use Rattle.xom_seal.specs.declared.names.LineName.TheVariants.{Image}
use Rattle.xom_seal.specs.Envelopes.{envelope_contents, tag_in}
use Rattle.xom_seal.specs.Keys.{image_keys}
use Rattle.xom_seal.specs.Sealing.{unsealed_line}
use Rattle.xom_seal.specs.declared.sealed_image.SealedImage.{SealedImage}
use Rattle.xom_owners.specs.declared.owner.Owner.{Owner}
use Rattle.image_sealer.specs.Sealing.{IsSealedFor, contents_for_owner, lines_of_image, sealing_of}

-- the id has 16 bytes and the key 32, as they have in each value of the types
pub record IsOwner (owner : Owner) : Type 0 where
  pub id : length owner.id.0 ≡ id_size
  pub key : length owner.key.0 ≡ key_size

-- the envelope opens to the image's id, entry, number of lines and key
abbrev pub OwnersEnvelopesOpen : Type 0
OwnersEnvelopesOpen =
    (machine : Key256) (owner : Owner) (sealed : SealedImage) → IsOwner owner → IsSealedFor machine
    owner sealed
    → envelope_contents machine sealed.envelope ≡ Some (contents_for_owner owner)

-- there are as many sealed lines as lines, and each opens, under its number, to the line of that
-- number
abbrev pub OwnersLinesOpen : Type 0
OwnersLinesOpen =
    (machine : Key256) (owner : Owner) (sealed : SealedImage) → IsSealedFor machine owner sealed
    → (length sealed.lines ≡ length (lines_of_image owner.plain.bytes))
    × ((i : ℕ) (line : SealedLine) (plain : List ℕ) → slice_get sealed.lines i ≡ Some line
    → slice_get (lines_of_image owner.plain.bytes) i ≡ Some plain
    → unsealed_line (Image owner.id i) (image_keys owner.key owner.id) line ≡ Some plain)

-- the tags of the envelope and of the lines are those of the owner's sealing, one by one
abbrev pub TagsAreOfTheSealing : Type 0
TagsAreOfTheSealing =
    (machine : Key256) (owner : Owner) (sealed : SealedImage) → IsOwner owner → IsSealedFor machine
    owner sealed
    → tag_in sealed.envelope ∷ map (λ (line : SealedLine). line.tag) sealed.lines
    ≡ map (λ (sealing : List ℕ × List ℕ). hmac_sha256 sealing.0 sealing.1)
    (sealing_of machine owner)
