-- What opens was sealed so.
use Rattle.std.proofs.Common.{◌≡◌, ℕ, zero, suc, ◌≤◌, ◌+◌, ◌-◌, List, [], ◌∷◌, ◌++◌, length, take, drop, refl, ap, sym, ◌∙◌, arith, append_assoc, lit<}
use Rattle.std.specs.Int.{w32, from_be_bytes, to_be_bytes}
use Rattle.std.proofs.lemmas.List.{drop-take, length-drop, length-take-le, take-take, take_all}
use Rattle.std.proofs.lemmas.Nat.{be_bytes_4, xor_of_8}
use Rattle.std.proofs.Math.Seq.{take-add}
use Rattle.aes_block.specs.Cipher.{aes128}
use Rattle.aes_block.specs.Laws.{AreBytes}
use Rattle.aes_block.proofs.Bytes.{blocks_are_bytes}
use Rattle.keyed_mac.specs.Hmac.{hmac_sha256}
use Rattle.xom_base.specs.declared.key.Key256.{Key256}
use Rattle.xom_seal.specs.declared.envelope.Unwrapped.{Unwrapped}
use Rattle.xom_seal.specs.declared.keys.RegisterKeys.{RegisterKeys}
use Rattle.xom_seal.specs.declared.names.RegName.{RegName}
use Rattle.xom_seal.specs.Counters.{register_counter}
use Rattle.xom_seal.specs.Envelopes.{contents_of, entry_of_envelope, envelope_fields, envelope_tag, fields_of, id_in, key_masked, lines_in, tag_in, wrapped_in, wrapped_key_of}
use Rattle.xom_seal.specs.Messages.{envelope_message}
use Rattle.xom_seal.specs.OpeningLaws.{EnvelopeMessagesTellContents, EnvelopesAreWrappings, RegistersAreSealings}
use Rattle.xom_seal.specs.Sealing.{register_masked, register_pad, register_tag, xor_of_bytes}
use Rattle.xom_seal.proofs.EnvelopeLaws.{key_masked-twice, wrapped-parts}
use Rattle.xom_seal.proofs.MessageLaws.{envelope_messages_tell}
use Rattle.xom_seal.proofs.SealLaws.{length-register_masked, let_through, register_masked-twice}

-- ---- Bytes

take-bytes : (n : ℕ) (xs : List ℕ) → AreBytes xs → AreBytes (take n xs)
take-bytes zero xs bytes i = lit< tt
take-bytes (suc n) [] bytes i = lit< tt
take-bytes (suc n) (x ∷ xs) bytes zero = bytes zero
take-bytes (suc n) (x ∷ xs) bytes (suc i) = take-bytes n xs (λ j. bytes (suc j)) i

drop-bytes : (n : ℕ) (xs : List ℕ) → AreBytes xs → AreBytes (drop n xs)
drop-bytes zero xs bytes i = bytes i
drop-bytes (suc n) [] bytes i = lit< tt
drop-bytes (suc n) (x ∷ xs) bytes i = drop-bytes n xs (λ j. bytes (suc j)) i

xored-bytes : (xs ys : List ℕ) → AreBytes xs → AreBytes ys → AreBytes (xor_of_bytes xs ys)
xored-bytes [] ys bytes other i = lit< tt
xored-bytes (x ∷ xs) [] bytes other i = lit< tt
xored-bytes (x ∷ xs) (y ∷ ys) bytes other zero = xor_of_8 x y (bytes zero) (other zero)
xored-bytes (x ∷ xs) (y ∷ ys) bytes other (suc i) =
    xored-bytes xs ys (λ j. bytes (suc j)) (λ j. other (suc j)) i

register_masked-bytes : (name : RegName) (keys : RegisterKeys) (ct : List ℕ) → AreBytes keys.aes.0
    → AreBytes ct → AreBytes (register_masked name keys ct)
unfolding register_masked register_pad
register_masked-bytes name keys ct keyed bytes =
    xored-bytes ct (take 4 (aes128 keys.aes.0 (register_counter name))) bytes
    (take-bytes 4 (aes128 keys.aes.0 (register_counter name))
    (blocks_are_bytes keys.aes.0 (register_counter name) keyed))

-- four bytes of a text, as a number and back
field_again : (xs : List ℕ) (place : ℕ) → AreBytes xs → place + 4 ≤ length xs
    → to_be_bytes w32 (from_be_bytes w32 (take 4 (drop place xs))) ≡ take 4 (drop place xs)
field_again xs place bytes within =
    be_bytes_4 (take 4 (drop place xs)) (from_be_bytes w32 (take 4 (drop place xs)))
    (length-take-le 4 (drop place xs) (omega (arith, length-drop place xs)))
    (take-bytes 4 (drop place xs) (drop-bytes place xs bytes)) refl

-- ---- Registers

pub registers_are_sealings : RegistersAreSealings
registers_are_sealings name keys sealed value keyed sized bytes opened =
    let plain = register_masked name keys sealed.ct in
    let found = let_through sealed.tag (register_tag name keys sealed.ct) (from_be_bytes w32 plain)
    value opened in
    let again : to_be_bytes w32 value ≡ plain =
    be_bytes_4 plain value (length-register_masked name keys sealed.ct sized)
    (register_masked-bytes name keys sealed.ct keyed bytes) (sym found.1) in
    let ct : sealed.ct ≡ register_masked name keys (to_be_bytes w32 value) =
    sym (register_masked-twice name keys sealed.ct sized) ∙ ap (register_masked name keys)
    (sym again) in
    ap (λ tag. record { ct = sealed.ct; tag = tag }) found.0
    ∙ ap (λ text. record { ct = text; tag = register_tag name keys text }) ct

-- ---- Envelopes

-- the fields of an envelope, one behind the other, are all before its tag
fields_joined : (envelope : List ℕ) → AreBytes envelope → length envelope ≡ 88
    → envelope_fields (id_in envelope) (entry_of_envelope envelope) (lines_in envelope)
    (wrapped_in envelope) ≡ take 56 envelope
unfolding envelope_fields
fields_joined envelope bytes sized =
    let id = take 16 envelope in
    let entry = take 4 (drop 16 envelope) in
    let lines = take 4 (drop 20 envelope) in
    let key = take 32 (drop 24 envelope) in
    ap (λ text. id ++ (text ++ (to_be_bytes w32 (lines_in envelope) ++ key)))
    (field_again envelope 16 bytes (omega arith))
    ∙ ap (λ text. id ++ (entry ++ (text ++ key))) (field_again envelope 20 bytes (omega arith))
    ∙ sym (append_assoc id entry (lines ++ key))
    ∙ ap (λ text. text ++ (lines ++ key)) (sym (take-add 16 4 envelope))
    ∙ sym (append_assoc (take 20 envelope) lines key)
    ∙ ap (λ text. text ++ key) (sym (take-add 20 4 envelope))
    ∙ sym (take-add 24 32 envelope)

envelope_tag-front : (machine : Key256) (envelope : List ℕ)
    → envelope_tag machine (take 56 envelope) ≡ envelope_tag machine envelope
unfolding envelope_tag envelope_message
envelope_tag-front machine envelope =
    ap (λ text. hmac_sha256 machine.0 (4 ∷ text)) (take-take 56 56 envelope (omega arith))

-- the fields of what an envelope says are those of the envelope
fields_of-contents : (machine : Key256) (envelope : List ℕ) → AreBytes envelope
    → length envelope ≡ 88
    → fields_of machine (contents_of machine envelope) ≡ take 56 envelope
unfolding contents_of
fields_of-contents machine envelope bytes sized =
    ap (envelope_fields (id_in envelope) (entry_of_envelope envelope) (lines_in envelope))
    (key_masked-twice machine (id_in envelope) (wrapped_in envelope)
    (length-take-le 32 (drop 24 envelope) (omega (arith, length-drop 24 envelope))))
    ∙ fields_joined envelope bytes sized

wrapped-contents : (machine : Key256) (envelope : List ℕ) → AreBytes envelope → length envelope ≡ 88
    → tag_in envelope ≡ envelope_tag machine envelope
    → wrapped_key_of machine (contents_of machine envelope) ≡ envelope
wrapped-contents machine envelope bytes sized tagged =
    wrapped-parts machine (contents_of machine envelope)
    ∙ ap (λ fields. fields ++ envelope_tag machine fields) (fields_of-contents machine envelope
    bytes sized)
    ∙ ap (λ tag. take 56 envelope ++ tag) (envelope_tag-front machine envelope ∙ sym tagged)
    ∙ sym (take-add 56 32 envelope)
    ∙ take_all 88 envelope (omega arith)

pub envelopes_are_wrappings : EnvelopesAreWrappings
envelopes_are_wrappings machine envelope plain sized bytes opened =
    let found = let_through (tag_in envelope) (envelope_tag machine envelope)
    (contents_of machine envelope) plain opened in
    sym (wrapped-contents machine envelope bytes sized found.0) ∙ ap (wrapped_key_of machine) found.1

-- ---- What a message of an envelope says

-- a field before place 56 is read from the first 56 bytes
field-front : (n place : ℕ) (envelope : List ℕ) → place + n ≤ 56
    → take n (drop place (take 56 envelope)) ≡ take n (drop place envelope)
field-front n place envelope within =
    let whole : place + (56 - place) ≡ 56 = omega arith in
    ap (λ m. take n (drop place (take m envelope))) (sym whole)
    ∙ ap (take n) (drop-take place (56 - place) envelope)
    ∙ take-take n (56 - place) (drop place envelope) (omega arith)

-- what an envelope with these fields says
abbrev made : Key256 → List ℕ → List ℕ → List ℕ → List ℕ → Unwrapped
made machine id entry lines key = record {
  id = record { 0 = id };
  entry = from_be_bytes w32 entry;
  lines = from_be_bytes w32 lines;
  key = record { 0 = key_masked machine id key };
}

contents_of-front : (machine : Key256) (envelope : List ℕ)
    → contents_of machine (take 56 envelope) ≡ contents_of machine envelope
unfolding contents_of
contents_of-front machine envelope =
    let front = take 56 envelope in
    let id = id_in envelope in
    ap (λ t. made machine t (take 4 (drop 16 front)) (take 4 (drop 20 front))
    (take 32 (drop 24 front))) (field-front 16 0 envelope (omega arith))
    ∙ ap (λ t. made machine id t (take 4 (drop 20 front)) (take 32 (drop 24 front)))
    (field-front 4 16 envelope (omega arith))
    ∙ ap (λ t. made machine id (take 4 (drop 16 envelope)) t (take 32 (drop 24 front)))
    (field-front 4 20 envelope (omega arith))
    ∙ ap (λ t. made machine id (take 4 (drop 16 envelope)) (take 4 (drop 20 envelope)) t)
    (field-front 32 24 envelope (omega arith))

pub envelope_messages_tell_contents : EnvelopeMessagesTellContents
envelope_messages_tell_contents machine a b same =
    sym (contents_of-front machine a) ∙ ap (contents_of machine) (envelope_messages_tell a b same)
    ∙ contents_of-front machine b
