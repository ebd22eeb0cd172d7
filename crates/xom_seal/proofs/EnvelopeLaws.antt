-- A wrapped key opens to what was wrapped.
use Rattle.std.proofs.Common.{◌≡◌, ℕ, ◌^◌, ◌<◌, ◌+◌, List, ◌∷◌, ◌++◌, Some, None, if◌then◌else◌, length, take, drop, refl, ap, sym, ◌∙◌, arith, append_assoc, subst}
use Rattle.std.specs.Int.{w32, from_be_bytes, to_be_bytes}
use Rattle.std.specs.Str.{bytes_eq}
use Rattle.std.proofs.Math.Seq.{drop-append-add, take-append_seam, take-length}
use Rattle.std.proofs.lemmas.Nat.{from_be_bytes-to_be_bytes_4}
use Rattle.std.proofs.lemmas.List.{length-append, take-append-le}
use Rattle.aes_block.proofs.Sizes.{length-aes128}
use Rattle.keyed_mac.specs.Hmac.{hmac_sha256}
use Rattle.keyed_mac.proofs.Lengths.{tags_have_their_length}
use Rattle.xom_base.specs.declared.key.Key256.{Key256}
use Rattle.xom_seal.specs.declared.envelope.Unwrapped.{Unwrapped}
use Rattle.xom_seal.specs.Envelopes.{contents_of, entry_of_envelope, envelope_contents, envelope_fields, envelope_pad, envelope_tag, fields_of, id_in, key_masked, lines_in, tag_in, wrapped_in, wrapped_key_of}
use Rattle.xom_seal.specs.Laws.{EnvelopesOpen, EnvelopesShow, IsUnwrapped, Shows}
use Rattle.xom_seal.specs.Messages.{envelope_message}
use Rattle.xom_seal.proofs.Masks.{length-xored, xored_twice}
use Rattle.xom_seal.proofs.SealLaws.{lets_through}

-- ---- The parts of a text that is made of the fields and a tag

-- what stands behind the id
abbrev behind_id : ℕ → ℕ → List ℕ → List ℕ → List ℕ
behind_id entry lines key tag = to_be_bytes w32 entry ++ (to_be_bytes w32 lines ++ (key ++ tag))

regroup : (id : List ℕ) (entry lines : ℕ) (key tag : List ℕ)
    → envelope_fields id entry lines key ++ tag ≡ id ++ behind_id entry lines key tag
unfolding envelope_fields
regroup id entry lines key tag =
    append_assoc id (to_be_bytes w32 entry ++ (to_be_bytes w32 lines ++ key)) tag

-- from a place behind the id on
from_place : (n : ℕ) (id : List ℕ) (entry lines : ℕ) (key tag : List ℕ) → length id ≡ 16
    → drop (16 + n) (envelope_fields id entry lines key ++ tag) ≡ drop n
    (behind_id entry lines key tag)
from_place n id entry lines key tag sized =
    ap (λ text. drop (16 + n) text) (regroup id entry lines key tag)
    ∙ ap (λ m. drop (m + n) (id ++ behind_id entry lines key tag)) (sym sized)
    ∙ drop-append-add id (behind_id entry lines key tag) n

id_in-fields : (id : List ℕ) (entry lines : ℕ) (key tag : List ℕ) → length id ≡ 16
    → id_in (envelope_fields id entry lines key ++ tag) ≡ id
id_in-fields id entry lines key tag sized =
    ap id_in (regroup id entry lines key tag)
    ∙ ap (λ m. take m (id ++ behind_id entry lines key tag)) (sym sized)
    ∙ take-append_seam id (behind_id entry lines key tag)

entry_in-fields : (id : List ℕ) (entry lines : ℕ) (key tag : List ℕ) → length id ≡ 16
    → entry < 2 ^ 32 → entry_of_envelope (envelope_fields id entry lines key ++ tag) ≡ entry
entry_in-fields id entry lines key tag sized below =
    ap (λ text. from_be_bytes w32 (take 4 text)) (from_place 0 id entry lines key tag sized)
    ∙ from_be_bytes-to_be_bytes_4 entry below

lines_in-fields : (id : List ℕ) (entry lines : ℕ) (key tag : List ℕ) → length id ≡ 16
    → lines < 2 ^ 32 → lines_in (envelope_fields id entry lines key ++ tag) ≡ lines
lines_in-fields id entry lines key tag sized below =
    ap (λ text. from_be_bytes w32 (take 4 text)) (from_place 4 id entry lines key tag sized)
    ∙ from_be_bytes-to_be_bytes_4 lines below

wrapped_in-fields : (id : List ℕ) (entry lines : ℕ) (key tag : List ℕ) → length id ≡ 16
    → length key ≡ 32 → wrapped_in (envelope_fields id entry lines key ++ tag) ≡ key
wrapped_in-fields id entry lines key tag sized keyed =
    ap (λ text. take 32 text) (from_place 8 id entry lines key tag sized)
    ∙ ap (λ m. take m (key ++ tag)) (sym keyed) ∙ take-append_seam key tag

tag_in-fields : (id : List ℕ) (entry lines : ℕ) (key tag : List ℕ) → length id ≡ 16
    → length key ≡ 32 → length tag ≡ 32 → tag_in (envelope_fields id entry lines key ++ tag) ≡ tag
tag_in-fields id entry lines key tag sized keyed tagged =
    ap (λ text. take 32 text) (from_place 40 id entry lines key tag sized)
    ∙ ap (λ m. take 32 (drop (m + 0) (key ++ tag))) (sym keyed) ∙ ap (λ text. take 32 text)
    (drop-append-add key tag 0)
    ∙ ap (λ m. take m tag) (sym tagged) ∙ take-length tag

-- there are 56 bytes before the tag
length-fields : (id : List ℕ) (entry lines : ℕ) (key : List ℕ) → length id ≡ 16 → length key ≡ 32
    → length (envelope_fields id entry lines key) ≡ 56
unfolding envelope_fields
length-fields id entry lines key sized keyed = simp (length-append, sized, keyed)

-- ---- Wrapping

length-envelope_pad : (machine : Key256) (id : List ℕ) → length (envelope_pad machine id) ≡ 32
unfolding envelope_pad
length-envelope_pad machine id = simp (length-append, length-aes128)

pub key_masked-twice : (machine : Key256) (id key : List ℕ) → length key ≡ 32
    → key_masked machine id (key_masked machine id key) ≡ key
unfolding key_masked
key_masked-twice machine id key sized =
    let room : length (envelope_pad machine id) ≡ 32 = length-envelope_pad machine id in
    xored_twice key (envelope_pad machine id) (omega arith)

length-key_masked : (machine : Key256) (id key : List ℕ) → length key ≡ 32
    → length (key_masked machine id key) ≡ 32
unfolding key_masked
length-key_masked machine id key sized =
    let room : length (envelope_pad machine id) ≡ 32 = length-envelope_pad machine id in
    length-xored key (envelope_pad machine id) (omega arith) ∙ sized

length-envelope_tag : (machine : Key256) (envelope : List ℕ)
    → length (envelope_tag machine envelope) ≡ 32
unfolding envelope_tag
length-envelope_tag machine envelope = tags_have_their_length machine.0 (envelope_message envelope)

-- the tag stands behind what it is taken of
envelope_tag-append : (machine : Key256) (fields tag : List ℕ) → length fields ≡ 56
    → envelope_tag machine (fields ++ tag) ≡ envelope_tag machine fields
unfolding envelope_tag envelope_message
envelope_tag-append machine fields tag sized =
    ap (λ text. hmac_sha256 machine.0 (4 ∷ text)) (take-append-le 56 fields tag (omega arith))

-- a wrapped image key is what stands before a tag, and the tag
pub wrapped-parts : (machine : Key256) (plain : Unwrapped)
    → wrapped_key_of machine plain ≡ fields_of machine plain ++ envelope_tag machine
    (fields_of machine plain)
unfolding wrapped_key_of
wrapped-parts machine plain = refl

-- what an envelope says, from its fields
abbrev made_of : List ℕ → ℕ → ℕ → List ℕ → Unwrapped
made_of id entry lines key = record {
  id = record { 0 = id };
  entry = entry;
  lines = lines;
  key =
      record { 0 = key };
}

contents_of-parts : (machine : Key256) (plain : Unwrapped) (tag : List ℕ) → IsUnwrapped plain
    → contents_of machine (fields_of machine plain ++ tag) ≡ plain
unfolding contents_of
contents_of-parts machine plain tag ranges =
    let id : List ℕ = plain.id.0 in
    let key : List ℕ = key_masked machine id plain.key.0 in
    let whole : List ℕ = fields_of machine plain ++ tag in
    let keyed : length key ≡ 32 = length-key_masked machine id plain.key.0 ranges.key in
    ap (λ bytes. made_of bytes (entry_of_envelope whole) (lines_in whole)
    (key_masked machine bytes (wrapped_in whole))) (id_in-fields id plain.entry plain.lines key
    tag ranges.id)
    ∙ ap (λ n. made_of id n (lines_in whole) (key_masked machine id (wrapped_in whole)))
    (entry_in-fields id plain.entry plain.lines key tag ranges.id ranges.entry)
    ∙ ap (λ n. made_of id plain.entry n (key_masked machine id (wrapped_in whole)))
    (lines_in-fields id plain.entry plain.lines key tag ranges.id ranges.lines)
    ∙ ap (λ bytes. made_of id plain.entry plain.lines (key_masked machine id bytes))
    (wrapped_in-fields id plain.entry plain.lines key tag ranges.id keyed)
    ∙ ap (λ bytes. made_of id plain.entry plain.lines bytes)
    (key_masked-twice machine id plain.key.0 ranges.key)

-- fields and their tag open
parts_open : (machine : Key256) (plain : Unwrapped) → IsUnwrapped plain
    → envelope_contents machine (fields_of machine plain ++ envelope_tag machine (fields_of machine plain))
    ≡ Some plain
parts_open machine plain ranges =
    let id : List ℕ = plain.id.0 in
    let key : List ℕ = key_masked machine id plain.key.0 in
    let fields : List ℕ = fields_of machine plain in
    let tag : List ℕ = envelope_tag machine fields in
    let whole : List ℕ = fields ++ tag in
    let keyed : length key ≡ 32 = length-key_masked machine id plain.key.0 ranges.key in
    let sized : length fields ≡ 56 = length-fields id plain.entry plain.lines key ranges.id keyed in
    let stands : tag_in whole ≡ envelope_tag machine whole =
    tag_in-fields id plain.entry plain.lines key tag ranges.id keyed
    (length-envelope_tag machine fields)
    ∙ sym (envelope_tag-append machine fields tag sized) in
    ap (λ found. if bytes_eq found (envelope_tag machine whole)
    then Some (contents_of machine whole) else None) stands
    ∙ lets_through (envelope_tag machine whole) (contents_of machine whole)
    ∙ ap Some (contents_of-parts machine plain tag ranges)

pub envelopes_open : EnvelopesOpen
envelopes_open machine plain ranges =
    ap (envelope_contents machine) (wrapped-parts machine plain) ∙ parts_open machine plain ranges

-- ---- What an envelope shows

parts_show : (machine : Key256) (plain : Unwrapped) (tag : List ℕ) → IsUnwrapped plain
    → length tag ≡ 32 → Shows (fields_of machine plain ++ tag) plain
parts_show machine plain tag ranges tagged =
    let key : List ℕ = key_masked machine plain.id.0 plain.key.0 in
    let keyed : length key ≡ 32 = length-key_masked machine plain.id.0 plain.key.0 ranges.key in
    let fields : length (fields_of machine plain) ≡ 56 = length-fields plain.id.0 plain.entry
    plain.lines key ranges.id keyed in
    record {
      size = length-append (fields_of machine plain) tag ∙ omega (arith, fields, tagged);
      id = id_in-fields plain.id.0 plain.entry plain.lines key tag ranges.id;
      entry = entry_in-fields plain.id.0 plain.entry plain.lines key tag ranges.id ranges.entry;
      lines = lines_in-fields plain.id.0 plain.entry plain.lines key tag ranges.id ranges.lines;
    }

pub envelopes_show : EnvelopesShow
envelopes_show machine plain ranges =
    subst (λ envelope. Shows envelope plain) (sym (wrapped-parts machine plain))
    (parts_show machine plain (envelope_tag machine (fields_of machine plain)) ranges
    (length-envelope_tag machine (fields_of machine plain)))
