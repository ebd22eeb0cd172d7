-- Registers that were saved: their names, keys and places in RAM, and what the journal's Seals
-- keep.
use Rattle.std.specs.Prelude.{◌≡◌, ℕ, ◌+◌, ◌<◌, ◌≤◌, ◌^◌, true, false, List, [], ◌∷◌, length, take, if◌then◌else◌}
use Rattle.std.specs.Int.{w32, to_be_bytes}
use Rattle.std.specs.Str.{bytes_eq}
use Rattle.xom_base.specs.declared.entry.Entry.{Entry}
use Rattle.xom_base.specs.declared.entry.Entry.TheVariants as entry
use Rattle.xom_base.specs.Sizes.{register_places, tag_size}
use Rattle.xom_seal.specs.declared.keys.RegisterKeys.{RegisterKeys}
use Rattle.xom_seal.specs.declared.names.RegName.{RegName}
use Rattle.xom_seal.specs.declared.register.SealedReg.{SealedReg}
use Rattle.xom_seal.specs.Keys.{register_keys}
use Rattle.xom_seal.specs.Messages.{IsRegName, register_message}
use Rattle.xom_seal.specs.Sealing.{register_masked, sealed_register}
use Rattle.mips_plain.specs.declared.cell.PlainCell.TheVariants.{Own}
use Rattle.mips_plain.specs.Machine.{State, plain_cell_at as plain_cell}
use Rattle.line_ram.specs.Bytes.{bytes_at, ram_with_bytes}
use Rattle.session_table.specs.declared.session.Session.{Session}
use Rattle.session_table.specs.declared.session.SlotState.TheVariants as state
use Rattle.session_table.specs.Sessions.{is_live, session_at}
use Rattle.image_sealer.specs.Membership.{is_sealed}
use Rattle.xom_model.specs.Honest.{Sealing, seals_of}
use Rattle.xom_versions.specs.Store.{line_limit}
use Rattle.xom_model.specs.Lines.{Who, line_seals}

-- ---- Names, keys and places

-- the name of a register of an install under an epoch
abbrev pub reg_name : Who → ℕ → ℕ → RegName
reg_name who epoch reg = record { boot = who.boot; install = who.install; epoch = epoch; reg = reg }

-- the keys of an epoch: each trap begins another one
abbrev pub reg_keys : Who → ℕ → RegisterKeys
reg_keys who epoch = register_keys who.key who.boot who.install epoch

-- a register's value as it is sealed under an epoch
abbrev pub sealed_reg : Who → ℕ → ℕ → ℕ → SealedReg
sealed_reg who epoch reg value = sealed_register (reg_name who epoch reg) (reg_keys who epoch) value

-- the pair that a Seal of a register has
abbrev pub reg_pair : Who → ℕ → ℕ → ℕ → Sealing
reg_pair who epoch reg value = (
  (reg_keys who epoch).tag.0,
  register_message (reg_name who epoch reg)
      (sealed_reg who epoch reg value).ct,
)

-- the journal's entry of a register that was sealed
abbrev pub reg_seal_entry : Who → ℕ → ℕ → ℕ → Entry
reg_seal_entry who epoch reg value =
    entry.Seal (reg_pair who epoch reg value).0 (reg_pair who epoch reg value).1

-- the journal's entry of a saved register whose tag in RAM was right
abbrev pub reg_accept_entry : Who → ℕ → ℕ → List ℕ → ℕ → Entry
reg_accept_entry who epoch reg ct place =
    entry.Accept (reg_keys who epoch).tag.0 (register_message (reg_name who epoch reg) ct) place

-- how many bytes a saved register has in RAM: 4 of ciphertext, then 32 of tag
abbrev pub saved_size : ℕ
saved_size = 36

-- the saved register that RAM has at an address
abbrev pub saved_at : List ℕ → ℕ → SealedReg
saved_at ram address =
    record { ct = bytes_at ram address 4; tag = bytes_at ram (address + 4) tag_size }

-- RAM with a saved register at an address
abbrev pub with_saved : List ℕ → ℕ → SealedReg → List ℕ
with_saved ram address sealed = ram_with_bytes (ram_with_bytes ram address sealed.ct) (address + 4) sealed.tag

-- ---- What is kept

-- Of a paused guest: each Seal of a register under its epoch is the sealing of its program's value
-- of that cell.
abbrev pub SavesAgree : Who → Session → List Sealing → State → Type 0
SavesAgree who s seals p =
    s.state ≡ state.Paused → who.install < 2 ^ 64 → s.epoch < 2 ^ 64 → (reg : ℕ) → 1 ≤ reg
    → reg < register_places → (key ct : List ℕ)
    → is_sealed key (register_message (reg_name who s.epoch reg) ct) seals ≡ true
    → (value : ℕ) × (value < 2 ^ 32) × (plain_cell p.cells reg ≡ Own value)
    × (key ≡ (reg_keys who s.epoch).tag.0)
    × (ct ≡ register_masked (reg_name who s.epoch reg) (reg_keys who s.epoch)
    (to_be_bytes w32 value))

-- what stands before the ciphertext in a message that the machine seals: 26 bytes of a register's
-- message, 29 of a run line's
abbrev pub before_ct : List ℕ → List ℕ
before_ct message = if bytes_eq (take 1 message) (3 ∷ []) then take 26 message else take 29 message

-- two Seals whose messages are equal before the ciphertext are equal
abbrev pub IsOnce : List Sealing → Type 0
IsOnce seals =
    (key message other_key other : List ℕ) → is_sealed key message seals ≡ true
    → is_sealed other_key other seals ≡ true
    → before_ct message ≡ before_ct other → (key ≡ other_key) × (message ≡ other)

-- Of the Seals of a journal, beside the sessions and the last install number.
pub record SealsHold (sessions : List Session) (installs : ℕ) (entries : List Entry) : Type 0 where
  -- no Seal names a line that no guest has
  pub beyond : (install line : ℕ) → install < 2 ^ 64 → line_limit ≤ line → line < 2 ^ 32
      → line_seals install line (seals_of entries) ≡ []
  -- none names a register of an install to come
  pub to_come : (name : RegName) → IsRegName name → installs < name.install → (key ct : List ℕ)
      → is_sealed key (register_message name ct) (seals_of entries) ≡ false
  -- none names an epoch above that of its install's slot
  pub epochs : (slot : ℕ) → is_live (session_at sessions slot).state ≡ true → (name : RegName)
      → IsRegName name
      → name.install ≡ (session_at sessions slot).install
      → (session_at sessions slot).epoch < name.epoch → (key ct : List ℕ)
      → is_sealed key (register_message name ct) (seals_of entries) ≡ false
  -- a live slot's epoch is at most the number of entries
  pub counted : (slot : ℕ) → is_live (session_at sessions slot).state ≡ true
      → (session_at sessions slot).epoch ≤ length entries
  -- no name is used twice
  pub once : IsOnce (seals_of entries)
