-- The messages: the texts whose tags are taken. Numbers have four or eight bytes, the highest
-- first. The first byte tells the kind. The formats are this project's own.
use Rattle.std.specs.Prelude.{ℕ, ◌^◌, ◌<◌, ◌≡◌, ◌&&◌, Bool, List, [], ◌∷◌, ◌++◌, drop, length, take}
use Rattle.std.specs.Int.{w32, w64, from_be_bytes, to_be_bytes}
use Rattle.std.specs.Str.{bytes_eq}
use Rattle.xom_base.specs.Sizes.{id_size}
use Rattle.xom_seal.specs.declared.names.LineName.{LineName}
use Rattle.xom_seal.specs.declared.names.LineName.TheVariants.{Image, Run}
use Rattle.xom_seal.specs.declared.names.RegName.{RegName}

-- Of an image line: 01, id (16 bytes), line (4), ciphertext (32).
-- Of a run line: 02, boot (8), install (8), line (4), version (8), ciphertext (32).
unfoldable pub line_message : LineName → List ℕ → List ℕ
line_message (Image id line) ct = 1 ∷ (id.0 ++ (to_be_bytes w32 line ++ ct))
line_message (Run boot install line version) ct =
    2 ∷ (to_be_bytes w64 boot
    ++ (to_be_bytes w64 install ++ (to_be_bytes w32 line ++ (to_be_bytes w64 version ++ ct))))

-- Of a register: 03, boot (8), install (8), epoch (8), register (1), ciphertext (4).
unfoldable pub register_message : RegName → List ℕ → List ℕ
register_message name ct =
    3 ∷ (to_be_bytes w64 name.boot
    ++ (to_be_bytes w64 name.install ++ (to_be_bytes w64 name.epoch ++ (name.reg ∷ ct))))

-- Of an envelope: 04, id (16), entry (4), lines (4), wrapped key (32), which is all that stands in
-- it before its tag.
unfoldable pub envelope_message : List ℕ → List ℕ
envelope_message envelope = 4 ∷ take 56 envelope

-- the fields of a line's name are in their ranges, as they are in each value of the type
abbrev pub IsLineName : LineName → Type 0
IsLineName (Image id line) = (length id.0 ≡ id_size) × (line < 2 ^ 32)
IsLineName (Run boot install line version) =
    (boot < 2 ^ 64) × (install < 2 ^ 64) × (line < 2 ^ 32) × (version < 2 ^ 64)

-- the same of a register's name
pub record IsRegName (name : RegName) : Type 0 where
  pub boot : name.boot < 2 ^ 64
  pub install : name.install < 2 ^ 64
  pub epoch : name.epoch < 2 ^ 64
  pub reg : name.reg < 2 ^ 8

-- ---- What the message of a run line names

-- the message is of a run line of this install and this line, whatever its boot, version and
-- ciphertext
unfoldable pub names_run_line : ℕ → ℕ → List ℕ → Bool
names_run_line install line message =
    bytes_eq (take 1 message) (2 ∷ [])
    && (bytes_eq (take 8 (drop 9 message)) (to_be_bytes w64 install)
    && bytes_eq (take 4 (drop 17 message)) (to_be_bytes w32 line))

-- the version that it names
abbrev pub version_of_message : List ℕ → ℕ
version_of_message message = from_be_bytes w64 (take 8 (drop 21 message))
