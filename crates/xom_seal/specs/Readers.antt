-- What a message tells of itself, read from its bytes. The readers are exact on every message that
-- the machine or an owner makes; of other texts nothing is said.
use Rattle.std.specs.Prelude.{ℕ, Bool, ◌==◌, ◌&&◌, List, drop, if◌then◌else◌, slice_index, take}
use Rattle.std.specs.Int.{w64, w32, from_be_bytes}

-- ---- Kinds

-- the kind of a message, and of a counter block: its first byte
abbrev pub kind_of_text : List ℕ → ℕ
kind_of_text text = slice_index text 0

-- the kind of a line of an image, sealed by its owner
abbrev pub image_line_kind : ℕ
image_line_kind = 1

-- the kind of a line that the machine sealed
abbrev pub run_line_kind : ℕ
run_line_kind = 2

-- the kind of a saved register
abbrev pub register_kind : ℕ
register_kind = 3

-- the kind of an envelope
abbrev pub envelope_kind : ℕ
envelope_kind = 4

-- ---- Fields

-- the install, of run lines and of registers
abbrev pub install_in : List ℕ → ℕ
install_in message = from_be_bytes w64 (take 8 (drop 9 message))

-- the line, of run lines. `version_in` of `Messages` reads the version.
abbrev pub line_of_message : List ℕ → ℕ
line_of_message message = from_be_bytes w32 (take 4 (drop 17 message))

-- the epoch, of registers
abbrev pub epoch_in : List ℕ → ℕ
epoch_in message = from_be_bytes w64 (take 8 (drop 17 message))

-- the register, of registers
abbrev pub register_of_message : List ℕ → ℕ
register_of_message message = slice_index message 25

-- the message is of this register of this install under this epoch, whatever its boot and
-- ciphertext
unfoldable pub names_register : ℕ → ℕ → ℕ → List ℕ → Bool
names_register install epoch reg message =
    (kind_of_text message == register_kind)
    && ((install_in message == install)
    && ((epoch_in message == epoch) && (register_of_message message == reg)))

-- ---- Heads

-- how many bytes stand before the ciphertext, or before the wrapped key
abbrev pub head_size : ℕ → ℕ
head_size kind =
    if kind == image_line_kind then 21 else
    (if kind == run_line_kind then 29 else (if kind == register_kind then 26 else 25))

-- all that a message has before its ciphertext
unfoldable pub head_of : List ℕ → List ℕ
head_of message = take (head_size (kind_of_text message)) message
