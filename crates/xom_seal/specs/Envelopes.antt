-- Envelopes: what a machine must know of an image before it can install it, 88 bytes: id (16),
-- entry (4), lines (4), wrapped key (32), tag (32). The format is this project's own.
use Rattle.std.specs.Prelude.{ℕ, List, ◌++◌, Option, Some, None, drop, if◌then◌else◌, take}
use Rattle.std.specs.Int.{w32, from_be_bytes, to_be_bytes}
use Rattle.std.specs.Str.{bytes_eq}
use Rattle.aes_block.specs.Cipher.{aes128}
use Rattle.keyed_mac.specs.Hmac.{hmac_sha256}
use Rattle.xom_base.specs.declared.key.Key256.{Key256}
use Rattle.xom_base.specs.Sizes.{id_size, key_size, tag_size}
use Rattle.xom_seal.specs.declared.envelope.Unwrapped.{Unwrapped}
use Rattle.xom_seal.specs.Counters.{envelope_counter}
use Rattle.xom_seal.specs.Keys.{envelope_aes_key}
use Rattle.xom_seal.specs.Messages.{envelope_message}
use Rattle.xom_seal.specs.Sealing.{xor_of_bytes}

-- ---- The fields of an envelope

-- all the fields before the tag: id, entry, lines, wrapped key
unfoldable pub envelope_fields : List ℕ → ℕ → ℕ → List ℕ → List ℕ
envelope_fields id entry lines wrapped =
    id ++ (to_be_bytes w32 entry ++ (to_be_bytes w32 lines ++ wrapped))

-- the id that an envelope has
abbrev pub id_in : List ℕ → List ℕ
id_in envelope = take id_size envelope

-- the entry that an envelope has
abbrev pub entry_of_envelope : List ℕ → ℕ
entry_of_envelope envelope = from_be_bytes w32 (take 4 (drop id_size envelope))

-- the number of lines that an envelope has
abbrev pub lines_in : List ℕ → ℕ
lines_in envelope = from_be_bytes w32 (take 4 (drop 20 envelope))

-- the wrapped key that an envelope has
abbrev pub wrapped_in : List ℕ → List ℕ
wrapped_in envelope = take key_size (drop 24 envelope)

-- the tag that an envelope has
abbrev pub tag_in : List ℕ → List ℕ
tag_in envelope = take tag_size (drop 56 envelope)

-- ---- Wrapping

-- the 32 bytes that an image key is masked with in the envelope of this id
unfoldable pub envelope_pad : Key256 → List ℕ → List ℕ
envelope_pad machine id =
    aes128 (envelope_aes_key machine.0 id) (envelope_counter 0)
    ++ aes128 (envelope_aes_key machine.0 id) (envelope_counter 1)

-- an image key masked, which takes the key to the wrapped key and back
unfoldable pub key_masked : Key256 → List ℕ → List ℕ → List ℕ
key_masked machine id key = xor_of_bytes key (envelope_pad machine id)

-- the tag of an envelope, which is taken of its first 56 bytes, all that stands before it
unfoldable pub envelope_tag : Key256 → List ℕ → List ℕ
envelope_tag machine envelope = hmac_sha256 machine.0 (envelope_message envelope)

-- the fields of an envelope for an image
abbrev pub fields_of : Key256 → Unwrapped → List ℕ
fields_of machine plain =
    envelope_fields plain.id.0 plain.entry plain.lines (key_masked machine plain.id.0 plain.key.0)

-- the envelope for an image
unfoldable pub wrapped_key_of : Key256 → Unwrapped → List ℕ
wrapped_key_of machine plain = fields_of machine plain ++ envelope_tag machine (fields_of machine plain)

-- what an envelope says of its image
unfoldable pub contents_of : Key256 → List ℕ → Unwrapped
contents_of machine envelope = record {
  id = record { 0 = id_in envelope };
  entry = entry_of_envelope envelope;
  lines = lines_in envelope;
  key = record { 0 = key_masked machine (id_in envelope) (wrapped_in envelope) };
}

-- the same of an envelope whose tag is right
abbrev pub envelope_contents : Key256 → List ℕ → Option Unwrapped
envelope_contents machine envelope =
    if bytes_eq (tag_in envelope) (envelope_tag machine envelope)
    then Some (contents_of machine envelope) else None
