-- The keys that a slot's guest is sealed with, and a place for each compartment's. Place 0 stands
-- for the null compartment, which has none; places 1 to 16 are the slots.
use Rattle.std.specs.Prelude.{ℕ, List, ◌≡◌, ◌≢◌, length, replicate, slice_index_or}
use Rattle.xom_base.specs.declared.key.ImageId.{ImageId}
use Rattle.xom_base.specs.declared.key.Key256.{Key256}
use Rattle.xom_base.specs.Sizes.{compartment_count, id_size, key_size}
use Rattle.xom_seal.specs.declared.keys.LineKeys.{LineKeys}
use Rattle.xom_seal.specs.declared.keys.RegisterKeys.{RegisterKeys}
use Rattle.xom_seal.specs.Keys.{image_keys, register_keys, run_keys}

-- the keys of the image's lines, of the lines that the machine writes back, and of saved registers
pub record GuestKeys : Type 0 where
  pub image : LineKeys
  pub run : LineKeys
  pub registers : RegisterKeys

-- the keys of an install under an epoch
abbrev pub keys_of_install : Key256 → ImageId → ℕ → ℕ → ℕ → GuestKeys
keys_of_install key id boot install epoch = record {
  image = image_keys key id;
  run = run_keys key boot install;
  registers = register_keys key boot install epoch;
}

-- the guest's keys with others for its registers
abbrev pub with_registers : GuestKeys → RegisterKeys → GuestKeys
with_registers keys registers = record keys { registers = registers }

-- what stands where there is no guest: the keys of a key and an id of zeros
abbrev pub no_keys : GuestKeys
no_keys =
    keys_of_install (record { 0 = replicate key_size 0 }) (record { 0 = replicate id_size 0 }) 0 0 0

-- no slot has the keys of a guest
unfoldable pub none_ready : List GuestKeys
none_ready = replicate compartment_count no_keys

-- the keys of a slot
abbrev pub keys_at : List GuestKeys → ℕ → GuestKeys
keys_at table slot = slice_index_or table slot no_keys

-- there is a place for each compartment, and the null one has no keys
pub record IsKeyTable (table : List GuestKeys) : Type 0 where
  pub places : length table ≡ compartment_count
  pub null : keys_at table 0 ≡ no_keys

-- the keys of the slot are those of this install under this epoch
abbrev pub AreKeysOf : List GuestKeys → ℕ → Key256 → ImageId → ℕ → ℕ → ℕ → Type 0
AreKeysOf table slot key id boot install epoch =
    keys_at table slot ≡ keys_of_install key id boot install epoch

-- where the slot had the keys of this install under some epoch, it has those under the new one
abbrev pub AreRenewed : List GuestKeys → List GuestKeys → ℕ → Key256 → ℕ → ℕ → ℕ → Type 0
AreRenewed old new slot key boot install epoch = (id : ImageId) (before : ℕ)
    → AreKeysOf old slot key id boot install before → AreKeysOf new slot key id boot install epoch

-- every slot but this one has the keys that it had
abbrev pub OthersKeep : List GuestKeys → List GuestKeys → ℕ → Type 0
OthersKeep old new slot = (other : ℕ) → other ≢ slot → keys_at new other ≡ keys_at old other
