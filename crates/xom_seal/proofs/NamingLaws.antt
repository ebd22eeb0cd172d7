-- What a message names can be read from it again.
use Rattle.std.proofs.Common.{◌≡◌, ◌≢◌, ℕ, ◌^◌, ◌<◌, ◌==◌, ◌&&◌, Bool, false, List, [], ◌∷◌, take, drop, get_or, inl, inr, refl, ap, ◌∙◌}
use Rattle.std.specs.Int.{w32, w64, to_be_bytes}
use Rattle.std.specs.Str.{bytes_eq}
use Rattle.std.proofs.lemmas.Bool.{cases_Bool}
use Rattle.std.proofs.lemmas.Bool.Decides.{Decides-eqb}
use Rattle.std.proofs.lemmas.Nat.{from_be_bytes-to_be_bytes_4, from_be_bytes-to_be_bytes_8}
use Rattle.std.proofs.lemmas.Slice.Eq.{bytes_eq-Decides}
use Rattle.xom_base.specs.declared.key.ImageId.{ImageId}
use Rattle.xom_seal.specs.declared.names.LineName.TheVariants.{Image, Run}
use Rattle.xom_seal.specs.declared.names.RegName.{RegName}
use Rattle.xom_seal.specs.Laws.{RunLinesAreTold}
use Rattle.xom_seal.specs.NameLaws.{RegistersAreTold, RunFieldsAreTold}
use Rattle.xom_seal.specs.Readers.{epoch_in, install_in, kind_of_text, line_of_message, names_register, register_kind, register_of_message, run_line_kind}
use Rattle.xom_seal.specs.Messages.{IsRegName, envelope_message, line_message, names_run_line, register_message, version_of_message}
use Rattle.xom_seal.proofs.Fields.{same_test_4, same_test_8}

run_told : (n at boot install line version : ℕ) (ct : List ℕ) → n < 2 ^ 64 → at < 2 ^ 32
    → install < 2 ^ 64 → line < 2 ^ 32
    → names_run_line n at (line_message (Run boot install line version) ct) ≡ ((install == n)
    && (line == at))
unfolding names_run_line line_message
run_told n at boot install line version ct n_below at_below install_below line_below =
    ap (λ same. same && bytes_eq (to_be_bytes w32 line) (to_be_bytes w32 at))
    (same_test_8 install n install_below n_below)
    ∙ ap (λ same. (install == n) && same) (same_test_4 line at line_below at_below)

version_told : (boot install line version : ℕ) (ct : List ℕ) → version < 2 ^ 64
    → version_of_message (line_message (Run boot install line version) ct) ≡ version
unfolding line_message
version_told boot install line version ct below = from_be_bytes-to_be_bytes_8 version below

image_none : (n at : ℕ) (id : ImageId) (line : ℕ) (ct : List ℕ)
    → names_run_line n at (line_message (Image id line) ct) ≡ false
unfolding names_run_line line_message
image_none n at id line ct = refl

register_none : (n at : ℕ) (name : RegName) (ct : List ℕ)
    → names_run_line n at (register_message name ct) ≡ false
unfolding names_run_line register_message
register_none n at name ct = refl

envelope_none : (n at : ℕ) (envelope : List ℕ)
    → names_run_line n at (envelope_message envelope) ≡ false
unfolding names_run_line envelope_message
envelope_none n at envelope = refl

pub run_lines_are_told : RunLinesAreTold
run_lines_are_told = record {
  run = run_told;
  version = version_told;
  image = image_none;
  register =
      register_none;
  envelope = envelope_none;
}

-- ---- Fields of run lines

run_install : (boot install line version : ℕ) (ct : List ℕ) → install < 2 ^ 64
    → install_in (line_message (Run boot install line version) ct) ≡ install
unfolding line_message
run_install boot install line version ct below = from_be_bytes-to_be_bytes_8 install below

run_line : (boot install line version : ℕ) (ct : List ℕ) → line < 2 ^ 32
    → line_of_message (line_message (Run boot install line version) ct) ≡ line
unfolding line_message
run_line boot install line version ct below = from_be_bytes-to_be_bytes_4 line below

-- a text that begins with another byte doesn't begin with this one
other_first : (x y : ℕ) → x ≢ y → bytes_eq (x ∷ []) (y ∷ []) ≡ false
other_first x y apart =
    elim (cases_Bool (bytes_eq (x ∷ []) (y ∷ []))) [
      | inl same ↦ absurd (apart
          (ap (λ text. get_or text 0 0) ((bytes_eq-Decides (x ∷ []) (y ∷ [])).0 same)))
      | inr differs ↦ differs
    ]

run_others : (n at : ℕ) (message : List ℕ) → kind_of_text message ≢ run_line_kind
    → names_run_line n at message ≡ false
unfolding names_run_line
run_others n at [] other = refl
run_others n at (x ∷ rest) other =
    ap (λ same. same && (bytes_eq (take 8 (drop 9 (x ∷ rest))) (to_be_bytes w64 n)
    && bytes_eq (take 4 (drop 17 (x ∷ rest))) (to_be_bytes w32 at)))
    (other_first x 2 other)

pub run_fields_are_told : RunFieldsAreTold
run_fields_are_told = record { install = run_install; line = run_line; others = run_others }

-- ---- Registers

register_install : (name : RegName) (ct : List ℕ) → IsRegName name
    → install_in (register_message name ct) ≡ name.install
unfolding register_message
register_install name ct named = from_be_bytes-to_be_bytes_8 name.install named.install

register_epoch : (name : RegName) (ct : List ℕ) → IsRegName name
    → epoch_in (register_message name ct) ≡ name.epoch
unfolding register_message
register_epoch name ct named = from_be_bytes-to_be_bytes_8 name.epoch named.epoch

register_number : (name : RegName) (ct : List ℕ) → register_of_message (register_message name ct) ≡ name.reg
unfolding register_message
register_number name ct = refl

-- three fields are those of a register that is asked for
abbrev are_asked : ℕ → ℕ → ℕ → ℕ → ℕ → ℕ → Bool
are_asked n e r install epoch reg = (install == n) && ((epoch == e) && (reg == r))

register_named : (n e r : ℕ) (name : RegName) (ct : List ℕ) → IsRegName name
    → names_register n e r (register_message name ct) ≡ are_asked n e r name.install name.epoch
    name.reg
unfolding names_register register_message
register_named n e r name ct named =
    ap (λ install. are_asked n e r install (epoch_in (register_message name ct)) name.reg)
    (register_install name ct named)
    ∙ ap (λ epoch. are_asked n e r name.install epoch name.reg) (register_epoch name ct named)

other_kind_is_told : (x y : ℕ) → x ≢ y → (x == y) ≡ false
other_kind_is_told x y apart =
    elim (cases_Bool (x == y)) [
      | inl same ↦ absurd (apart ((Decides-eqb x y).0 same))
      | inr differs ↦ differs
    ]

register_others : (n e r : ℕ) (message : List ℕ) → kind_of_text message ≢ register_kind
    → names_register n e r message ≡ false
unfolding names_register
register_others n e r message other =
    ap (λ same. same && are_asked n e r (install_in message) (epoch_in message)
    (register_of_message message))
    (other_kind_is_told (kind_of_text message) register_kind other)

pub registers_are_told : RegistersAreTold
registers_are_told = record {
  install = register_install;
  epoch = register_epoch;
  reg = register_number;
  named = register_named;
  others = register_others;
}
