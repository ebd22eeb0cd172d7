-- Equal messages are of one kind, one name and one ciphertext.
use Rattle.std.proofs.Common.{◌≡◌, ◌≢◌, ℕ, suc, List, ◌∷◌, ◌++◌, length, drop, ap, sym, ◌∙◌, arith, get_or}
use Rattle.std.specs.Int.{w32, w64, to_be_bytes}
use Rattle.std.proofs.lemmas.List.{length-append, length-take-le}
use Rattle.xom_base.specs.declared.key.ImageId.{ImageId}
use Rattle.xom_seal.specs.declared.names.LineName.{LineName}
use Rattle.xom_seal.specs.declared.names.LineName.TheVariants.{Image, Run}
use Rattle.xom_seal.specs.declared.names.RegName.{RegName}
use Rattle.xom_seal.specs.Envelopes.{envelope_fields}
use Rattle.xom_seal.specs.Laws.{EnvelopeFieldsTell, EnvelopeMessagesTell, KindsDiffer, LineMessagesTell, MessageLengths, RegisterMessagesTell}
use Rattle.xom_seal.specs.Messages.{envelope_message, line_message, register_message}
use Rattle.xom_seal.proofs.Fields.{front_4, front_8, same_parts}

-- what stands behind the byte that tells the kind
abbrev body : List ℕ → List ℕ
body message = drop 1 message

-- texts that begin with two bytes differ
pub other_kind : (x y : ℕ) (xs ys : List ℕ) → x ≢ y → (x ∷ xs) ≢ (y ∷ ys)
other_kind x y xs ys apart same = apart (ap (λ text. get_or text 0 x) same)

pub line_messages_tell : LineMessagesTell
unfolding line_message
line_messages_tell (Image id line) (Image id' line') ct other named named' same =
    let ids = same_parts id.0 id'.0 (to_be_bytes w32 line ++ ct) (to_be_bytes w32 line' ++ other)
    (named.0 ∙ sym named'.0) (ap body same) in
    let lines = front_4 line line' ct other named.1 named'.1 ids.1 in
    (ap (λ bytes. Image (record { 0 = bytes }) line) ids.0 ∙ ap (λ n. Image id' n) lines.0, lines.1)
line_messages_tell (Image id line) (Run boot install line' version) ct other named named' same =
    absurd (other_kind 1 2 _ _ (omega arith) same)
line_messages_tell (Run boot install line version) (Image id line') ct other named named' same =
    absurd (other_kind 2 1 _ _ (omega arith) same)
line_messages_tell (Run boot install line version) (Run boot' install' line' version') ct other
    named named' same =
    let boots = front_8 boot boot' (to_be_bytes w64 install
    ++ (to_be_bytes w32 line ++ (to_be_bytes w64 version ++ ct))) (to_be_bytes w64 install'
    ++ (to_be_bytes w32 line' ++ (to_be_bytes w64 version' ++ other))) named.0 named'.0
    (ap body same) in
    let installs = front_8 install install' (to_be_bytes w32 line
    ++ (to_be_bytes w64 version ++ ct)) (to_be_bytes w32 line'
    ++ (to_be_bytes w64 version' ++ other)) named.1 named'.1 boots.1 in
    let lines = front_4 line line' (to_be_bytes w64 version ++ ct) (to_be_bytes w64 version'
    ++ other) named.2 named'.2 installs.1 in
    let versions = front_8 version version' ct other named.3 named'.3 lines.1 in (
      ap (λ n. Run n install line version) boots.0 ∙ ap (λ n. Run boot' n line version) installs.0
          ∙ ap (λ n. Run boot' install' n version) lines.0 ∙ ap (λ n. Run boot' install' line' n)
          versions.0,
      versions.1,
    )

pub register_messages_tell : RegisterMessagesTell
unfolding register_message
register_messages_tell a b ct other named named' same =
    let boots = front_8 a.boot b.boot (to_be_bytes w64 a.install
    ++ (to_be_bytes w64 a.epoch ++ (a.reg ∷ ct))) (to_be_bytes w64 b.install
    ++ (to_be_bytes w64 b.epoch ++ (b.reg ∷ other))) named.boot named'.boot (ap body same) in
    let installs = front_8 a.install b.install (to_be_bytes w64 a.epoch ++ (a.reg ∷ ct))
    (to_be_bytes w64 b.epoch ++ (b.reg ∷ other)) named.install named'.install boots.1 in
    let epochs = front_8 a.epoch b.epoch (a.reg ∷ ct) (b.reg ∷ other) named.epoch named'.epoch
    installs.1 in
    let regs : a.reg ≡ b.reg = ap (λ text. get_or text 0 0) epochs.1 in (
      ap (λ n. record a { boot = n }) boots.0 ∙ ap (λ n. record a { boot = b.boot; install = n })
          installs.0
          ∙ ap (λ n. record a { boot = b.boot; install = b.install; epoch = n }) epochs.0
          ∙ ap (λ n. record b { reg = n }) regs,
      ap body epochs.1,
    )

pub envelope_messages_tell : EnvelopeMessagesTell
unfolding envelope_message
envelope_messages_tell a b same = ap body same

pub envelope_fields_tell : EnvelopeFieldsTell
unfolding envelope_fields
envelope_fields_tell id id' entry entry' lines lines' key key' sized sized' e e' l l' same =
    let ids = same_parts id id' (to_be_bytes w32 entry ++ (to_be_bytes w32 lines ++ key))
    (to_be_bytes w32 entry' ++ (to_be_bytes w32 lines' ++ key')) (sized ∙ sym sized') same in
    let entries = front_4 entry entry' (to_be_bytes w32 lines ++ key) (to_be_bytes w32 lines'
    ++ key') e e' ids.1 in
    let counts = front_4 lines lines' key key' l l' entries.1 in
    (ids.0, entries.0, counts.0, counts.1)

image_run_differ : (id : ImageId) (place boot install line version : ℕ) (ct other : List ℕ)
    → line_message (Image id place) ct ≢ line_message (Run boot install line version) other
unfolding line_message
image_run_differ id place boot install line version ct other same =
    other_kind 1 2 _ _ (omega arith) same

line_register_differ : (line : LineName) (register : RegName) (ct other : List ℕ)
    → line_message line ct ≢ register_message register other
unfolding line_message register_message
line_register_differ (Image id place) register ct other same = other_kind 1 3 _ _ (omega arith) same
line_register_differ (Run boot install line version) register ct other same =
    other_kind 2 3 _ _ (omega arith) same

line_envelope_differ : (line : LineName) (ct envelope : List ℕ)
    → line_message line ct ≢ envelope_message envelope
unfolding line_message envelope_message
line_envelope_differ (Image id place) ct envelope same = other_kind 1 4 _ _ (omega arith) same
line_envelope_differ (Run boot install line version) ct envelope same =
    other_kind 2 4 _ _ (omega arith) same

register_envelope_differ : (register : RegName) (ct envelope : List ℕ)
    → register_message register ct ≢ envelope_message envelope
unfolding register_message envelope_message
register_envelope_differ register ct envelope same = other_kind 3 4 _ _ (omega arith) same

pub kinds_differ : KindsDiffer
kinds_differ = record {
  image_run = image_run_differ;
  line_register = line_register_differ;
  line_envelope = line_envelope_differ;
  register_envelope = register_envelope_differ;
}

image_line_length : (id : ImageId) (line : ℕ) (ct : List ℕ) → length id.0 ≡ 16 → length ct ≡ 32
    → length (line_message (Image id line) ct) ≡ 53
unfolding line_message
image_line_length id line ct sized filled = simp (length-append, sized, filled)

run_line_length : (boot install line version : ℕ) (ct : List ℕ) → length ct ≡ 32
    → length (line_message (Run boot install line version) ct) ≡ 61
unfolding line_message
run_line_length boot install line version ct filled = simp filled

register_length : (name : RegName) (ct : List ℕ) → length ct ≡ 4
    → length (register_message name ct) ≡ 30
unfolding register_message
register_length name ct filled = simp filled

envelope_length : (envelope : List ℕ) → length envelope ≡ 88
    → length (envelope_message envelope) ≡ 57
unfolding envelope_message
envelope_length envelope filled = ap suc (length-take-le 56 envelope (omega arith))

pub message_lengths : MessageLengths
message_lengths = record {
  image_line = image_line_length;
  run_line = run_line_length;
  register =
      register_length;
  envelope = envelope_length;
}
