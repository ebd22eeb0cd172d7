-- What a message, or a counter block, tells of the name that it was made for, and of its kind.
use Rattle.std.specs.Prelude.{ℕ, ◌≡◌, ◌≢◌, ◌^◌, ◌<◌, ◌==◌, ◌&&◌, false, List}
use Rattle.xom_base.specs.declared.key.ImageId.{ImageId}
use Rattle.xom_base.specs.declared.key.Key256.{Key256}
use Rattle.xom_seal.specs.declared.keys.LineKeys.{LineKeys}
use Rattle.xom_seal.specs.declared.keys.RegisterKeys.{RegisterKeys}
use Rattle.xom_seal.specs.declared.names.LineName.{LineName}
use Rattle.xom_seal.specs.declared.names.LineName.TheVariants.{Image, Run}
use Rattle.xom_seal.specs.declared.names.RegName.{RegName}
use Rattle.xom_seal.specs.Counters.{envelope_counter, line_counter, register_counter}
use Rattle.xom_seal.specs.Keys.{image_keys, register_keys, run_keys}
use Rattle.xom_seal.specs.Messages.{IsLineName, IsRegName, envelope_message, line_message, names_run_line, register_message}
use Rattle.xom_seal.specs.Readers.{envelope_kind, epoch_in, head_of, image_line_kind, install_in, kind_of_text, line_of_message, names_register, register_kind, register_of_message, run_line_kind}

-- ---- Kinds

-- Each message tells its kind.
pub record MessageKindsAreTold : Type 0 where
  pub image_line : (id : ImageId) (line : ℕ) (ct : List ℕ)
      → kind_of_text (line_message (Image id line) ct) ≡ image_line_kind
  pub run_line : (boot install line version : ℕ) (ct : List ℕ)
      → kind_of_text (line_message (Run boot install line version) ct) ≡ run_line_kind
  pub register : (name : RegName) (ct : List ℕ) → kind_of_text (register_message name ct) ≡ register_kind
  pub envelope : (envelope : List ℕ) → kind_of_text (envelope_message envelope) ≡ envelope_kind

-- So does each counter block.
pub record CounterKindsAreTold : Type 0 where
  pub image_line : (id : ImageId) (line i : ℕ)
      → kind_of_text (line_counter (Image id line) i) ≡ image_line_kind
  pub run_line : (boot install line version i : ℕ)
      → kind_of_text (line_counter (Run boot install line version) i) ≡ run_line_kind
  pub register : (name : RegName) → kind_of_text (register_counter name) ≡ register_kind
  pub envelope : (i : ℕ) → kind_of_text (envelope_counter i) ≡ envelope_kind

-- and so does all that stands before the ciphertext
abbrev pub HeadsKeepTheirKind : Type 0
HeadsKeepTheirKind = (message : List ℕ) → kind_of_text (head_of message) ≡ kind_of_text message

-- ---- Fields

-- The fields of a run line's message are those of its name, and no other kind names a run line.
pub record RunFieldsAreTold : Type 0 where
  pub install : (boot install line version : ℕ) (ct : List ℕ) → install < 2 ^ 64
      → install_in (line_message (Run boot install line version) ct) ≡ install
  pub line : (boot install line version : ℕ) (ct : List ℕ) → line < 2 ^ 32
      → line_of_message (line_message (Run boot install line version) ct) ≡ line
  pub others : (n at : ℕ) (message : List ℕ) → kind_of_text message ≢ run_line_kind
      → names_run_line n at message ≡ false

-- Whether a message is of a register of this install, epoch and number is read from its fields, and
-- no other
-- kind names a register.
pub record RegistersAreTold : Type 0 where
  pub install : (name : RegName) (ct : List ℕ) → IsRegName name
      → install_in (register_message name ct) ≡ name.install
  pub epoch : (name : RegName) (ct : List ℕ) → IsRegName name
      → epoch_in (register_message name ct) ≡ name.epoch
  pub reg : (name : RegName) (ct : List ℕ) → register_of_message (register_message name ct) ≡ name.reg
  pub named : (n e r : ℕ) (name : RegName) (ct : List ℕ) → IsRegName name
      → names_register n e r (register_message name ct) ≡ ((name.install == n)
      && ((name.epoch == e) && (name.reg == r)))
  pub others : (n e r : ℕ) (message : List ℕ) → kind_of_text message ≢ register_kind
      → names_register n e r message ≡ false

-- ---- Heads

-- the keys of a line, under an image key
abbrev pub line_keys : Key256 → LineName → LineKeys
line_keys key (Image id line) = image_keys key id
line_keys key (Run boot install line version) = run_keys key boot install

-- those of a register
abbrev pub keys_of_register : Key256 → RegName → RegisterKeys
keys_of_register key name = register_keys key name.boot name.install name.epoch

-- two names of lines are one, and so are their keys and their counter blocks
pub record AreOneLine (key : Key256) (a b : LineName) : Type 0 where
  pub name : a ≡ b
  pub keys : line_keys key a ≡ line_keys key b
  pub counters : (i : ℕ) → line_counter a i ≡ line_counter b i

-- two names of registers are one, and so are their keys and their counter blocks
pub record AreOneRegister (key : Key256) (a b : RegName) : Type 0 where
  pub name : a ≡ b
  pub keys : keys_of_register key a ≡ keys_of_register key b
  pub counters : register_counter a ≡ register_counter b

-- messages of lines that are equal before their ciphertexts are of one name
abbrev pub LineHeadsTell : Type 0
LineHeadsTell =
    (key : Key256) (a b : LineName) (ct other : List ℕ) → IsLineName a → IsLineName b
    → head_of (line_message a ct) ≡ head_of (line_message b other) → AreOneLine key a b

-- so are those of registers
abbrev pub RegisterHeadsTell : Type 0
RegisterHeadsTell =
    (key : Key256) (a b : RegName) (ct other : List ℕ) → IsRegName a → IsRegName b
    → head_of (register_message a ct) ≡ head_of (register_message b other) → AreOneRegister key a b

-- ---- Counter blocks under one key

-- two names of lines have the same keys: they are of one image, or of one install
abbrev pub ShareKeys : LineName → LineName → Type 0
ShareKeys (Image id line) (Image id' line') = id ≡ id'
ShareKeys (Run boot install line version) (Run boot' install' line' version') =
    (boot ≡ boot') × (install ≡ install')
ShareKeys a b = ⊥

-- equal counter blocks of lines with the same keys are of one name and one half of the line
abbrev pub LineCountersServeOne : Type 0
LineCountersServeOne =
    (a b : LineName) (i j : ℕ) → IsLineName a → IsLineName b → ShareKeys a b
    → line_counter a i ≡ line_counter b j → (a ≡ b) × (i ≡ j)

-- equal counter blocks of registers with the same keys are of one name
abbrev pub RegisterCountersServeOne : Type 0
RegisterCountersServeOne =
    (a b : RegName) → IsRegName a → IsRegName b → a.boot ≡ b.boot → a.install ≡ b.install
    → register_counter a ≡ register_counter b → a ≡ b

-- the two counter blocks of an envelope differ
abbrev pub EnvelopeCountersServeOne : Type 0
EnvelopeCountersServeOne = (i j : ℕ) → envelope_counter i ≡ envelope_counter j → i ≡ j
