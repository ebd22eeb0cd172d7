-- What whoever rests on seals may know of them: each message tells its kind, its name and its
-- ciphertext, no counter block serves two names of one image or one install, and what was sealed
-- opens.
use Rattle.std.specs.Prelude.{ℕ, ◌≡◌, ◌≢◌, ◌^◌, ◌<◌, ◌==◌, ◌&&◌, false, List, length, Some, take}
use Rattle.xom_base.specs.declared.key.ImageId.{ImageId}
use Rattle.xom_base.specs.declared.key.Key256.{Key256}
use Rattle.xom_base.specs.Sizes.{id_size, key_size, line_size, tag_size}
use Rattle.xom_seal.specs.declared.envelope.Unwrapped.{Unwrapped}
use Rattle.xom_seal.specs.declared.keys.LineKeys.{LineKeys}
use Rattle.xom_seal.specs.declared.keys.RegisterKeys.{RegisterKeys}
use Rattle.xom_seal.specs.declared.line.SealedLine.{SealedLine}
use Rattle.xom_seal.specs.declared.names.LineName.{LineName}
use Rattle.xom_seal.specs.declared.names.LineName.TheVariants.{Image, Run}
use Rattle.xom_seal.specs.declared.names.RegName.{RegName}
use Rattle.xom_seal.specs.Counters.{counter_block, envelope_counter, line_counter, register_counter}
use Rattle.xom_seal.specs.Envelopes.{entry_of_envelope, envelope_contents, envelope_fields, id_in, lines_in, wrapped_key_of}
use Rattle.xom_seal.specs.Messages.{IsLineName, IsRegName, envelope_message, line_message, names_run_line, register_message, version_of_message}
use Rattle.xom_seal.specs.Sealing.{sealed_line, sealed_register, unsealed_line, unsealed_register}

-- ---- Messages

-- equal messages of lines are of one name, kind included, and of one ciphertext
abbrev pub LineMessagesTell : Type 0
LineMessagesTell =
    (a b : LineName) (ct other : List ℕ) → IsLineName a → IsLineName b
    → line_message a ct ≡ line_message b other → (a ≡ b) × (ct ≡ other)

-- the same of registers
abbrev pub RegisterMessagesTell : Type 0
RegisterMessagesTell =
    (a b : RegName) (ct other : List ℕ) → IsRegName a → IsRegName b
    → register_message a ct ≡ register_message b other → (a ≡ b) × (ct ≡ other)

-- equal messages of envelopes are of the same bytes before the tag
abbrev pub EnvelopeMessagesTell : Type 0
EnvelopeMessagesTell =
    (a b : List ℕ) → envelope_message a ≡ envelope_message b → take 56 a ≡ take 56 b

-- and these tell each field
abbrev pub EnvelopeFieldsTell : Type 0
EnvelopeFieldsTell =
    (id id' : List ℕ) (entry entry' lines lines' : ℕ) (key key' : List ℕ)
    → length id ≡ id_size → length id' ≡ id_size → entry < 2 ^ 32 → entry' < 2 ^ 32 → lines < 2 ^ 32
    → lines' < 2 ^ 32
    → envelope_fields id entry lines key ≡ envelope_fields id' entry' lines' key'
    → (id ≡ id') × (entry ≡ entry') × (lines ≡ lines') × (key ≡ key')

-- Messages of two kinds differ, whatever their fields.
pub record KindsDiffer : Type 0 where
  pub image_run : (id : ImageId) (place boot install line version : ℕ) (ct other : List ℕ)
      → line_message (Image id place) ct ≢ line_message (Run boot install line version) other
  pub line_register : (line : LineName) (register : RegName) (ct other : List ℕ)
      → line_message line ct ≢ register_message register other
  pub line_envelope : (line : LineName) (ct envelope : List ℕ)
      → line_message line ct ≢ envelope_message envelope
  pub register_envelope : (register : RegName) (ct envelope : List ℕ)
      → register_message register ct ≢ envelope_message envelope

-- how many bytes the messages have
pub record MessageLengths : Type 0 where
  pub image_line : (id : ImageId) (line : ℕ) (ct : List ℕ) → length id.0 ≡ id_size
      → length ct ≡ line_size
      → length (line_message (Image id line) ct) ≡ 53
  pub run_line : (boot install line version : ℕ) (ct : List ℕ) → length ct ≡ line_size
      → length (line_message (Run boot install line version) ct) ≡ 61
  pub register : (name : RegName) (ct : List ℕ) → length ct ≡ 4
      → length (register_message name ct) ≡ 30
  pub envelope : (envelope : List ℕ) → length envelope ≡ 88
      → length (envelope_message envelope) ≡ 57

-- Whether a message is of a run line of this install and line, and of which version, is read from
-- its fields.
pub record RunLinesAreTold : Type 0 where
  pub run : (n at boot install line version : ℕ) (ct : List ℕ) → n < 2 ^ 64 → at < 2 ^ 32
      → install < 2 ^ 64 → line < 2 ^ 32
      → names_run_line n at (line_message (Run boot install line version) ct) ≡ ((install == n)
      && (line == at))
  pub version : (boot install line version : ℕ) (ct : List ℕ) → version < 2 ^ 64
      → version_of_message (line_message (Run boot install line version) ct) ≡ version
  pub image : (n at : ℕ) (id : ImageId) (line : ℕ) (ct : List ℕ)
      → names_run_line n at (line_message (Image id line) ct) ≡ false
  pub register : (n at : ℕ) (name : RegName) (ct : List ℕ)
      → names_run_line n at (register_message name ct) ≡ false
  pub envelope : (n at : ℕ) (envelope : List ℕ)
      → names_run_line n at (envelope_message envelope) ≡ false

-- ---- Counter blocks

-- equal counter blocks have the same fields
abbrev pub CounterBlocksTell : Type 0
CounterBlocksTell =
    (domain domain' block block' place place' version version' : ℕ)
    → place < 2 ^ 32 → place' < 2 ^ 32 → version < 2 ^ 64 → version' < 2 ^ 64
    → counter_block domain block place version ≡ counter_block domain' block' place' version'
    → (domain ≡ domain') × (block ≡ block') × (place ≡ place') × (version ≡ version')

-- two names of lines have the same counter blocks: those of an image have the same line, those of
-- an install the same line and version
abbrev pub SharesCounters : LineName → LineName → Type 0
SharesCounters (Image id line) (Image id' line') = line ≡ line'
SharesCounters (Run boot install line version) (Run boot' install' line' version') =
    (line ≡ line') × (version ≡ version')
SharesCounters a b = ⊥

-- So no counter block serves two lines of an image, two lines or versions of an install, or both
-- halves of a line.
abbrev pub LineCountersTell : Type 0
LineCountersTell =
    (a b : LineName) (i j : ℕ) → IsLineName a → IsLineName b
    → line_counter a i ≡ line_counter b j → SharesCounters a b × (i ≡ j)

-- Nor two registers, or one register under two epochs.
abbrev pub RegisterCountersTell : Type 0
RegisterCountersTell =
    (a b : RegName) → IsRegName a → IsRegName b
    → register_counter a ≡ register_counter b → (a.reg ≡ b.reg) × (a.epoch ≡ b.epoch)

-- Counter blocks of two kinds differ, whatever their fields.
pub record CounterKindsDiffer : Type 0 where
  pub image_run : (id : ImageId) (place boot install line version i j : ℕ)
      → line_counter (Image id place) i ≢ line_counter (Run boot install line version) j
  pub line_register : (line : LineName) (register : RegName) (i : ℕ)
      → line_counter line i ≢ register_counter register
  pub line_envelope : (line : LineName) (i j : ℕ) → line_counter line i ≢ envelope_counter j
  pub register_envelope : (register : RegName) (j : ℕ)
      → register_counter register ≢ envelope_counter j

-- ---- Sealing and unsealing

-- a sealed line opens to its plain bytes
abbrev pub LinesOpen : Type 0
LinesOpen =
    (name : LineName) (keys : LineKeys) (plain : List ℕ) → length plain ≡ line_size
    → unsealed_line name keys (sealed_line name keys plain) ≡ Some plain

-- a line that opens is the sealing of its plain bytes
abbrev pub LinesAreSealings : Type 0
LinesAreSealings =
    (name : LineName) (keys : LineKeys) (sealed : SealedLine) (plain : List ℕ)
    → length sealed.ct ≡ line_size
    → unsealed_line name keys sealed ≡ Some plain → sealed ≡ sealed_line name keys plain

-- a sealed register opens to its value
abbrev pub RegistersOpen : Type 0
RegistersOpen =
    (name : RegName) (keys : RegisterKeys) (value : ℕ) → value < 2 ^ 32
    → unsealed_register name keys (sealed_register name keys value) ≡ Some value

-- the fields of what an envelope says are in their ranges, as they are in each value of the type
pub record IsUnwrapped (plain : Unwrapped) : Type 0 where
  pub id : length plain.id.0 ≡ id_size
  pub entry : plain.entry < 2 ^ 32
  pub lines : plain.lines < 2 ^ 32
  pub key : length plain.key.0 ≡ key_size

-- an envelope opens to what was wrapped
abbrev pub EnvelopesOpen : Type 0
EnvelopesOpen =
    (machine : Key256) (plain : Unwrapped) → IsUnwrapped plain → envelope_contents machine
    (wrapped_key_of machine plain) ≡ Some plain

-- what the envelope for an image shows to everybody, and its size
pub record Shows (envelope : List ℕ) (plain : Unwrapped) : Type 0 where
  pub size : length envelope ≡ 88
  pub id : id_in envelope ≡ plain.id.0
  pub entry : entry_of_envelope envelope ≡ plain.entry
  pub lines : lines_in envelope ≡ plain.lines

-- the envelope of every image shows these
abbrev pub EnvelopesShow : Type 0
EnvelopesShow =
    (machine : Key256) (plain : Unwrapped) → IsUnwrapped plain → Shows (wrapped_key_of machine plain) plain

-- a sealed line has 32 bytes of ciphertext and 32 of tag
abbrev pub SealedLinesHaveTheirLength : Type 0
SealedLinesHaveTheirLength =
    (name : LineName) (keys : LineKeys) (plain : List ℕ) → length plain ≡ line_size
    → (length (sealed_line name keys plain).ct ≡ line_size)
    × (length (sealed_line name keys plain).tag ≡ tag_size)
