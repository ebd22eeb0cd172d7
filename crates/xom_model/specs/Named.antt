-- Which entries of a journal are about an install: its own ones, and those whose message is a run
-- line or a register of it.
use Rattle.std.specs.Prelude.{ℕ, ◌≡◌, ◌&&◌, ◌||◌, ◌⊎◌, Bool, true, List, [], ◌∷◌, drop, take}
use Rattle.std.specs.Int.{w64, to_be_bytes}
use Rattle.std.specs.List.{filter}
use Rattle.std.specs.Str.{bytes_eq}
use Rattle.xom_base.specs.declared.entry.Entry.{Entry}
use Rattle.xom_base.specs.declared.entry.Entry.TheVariants as entry
use Rattle.xom_model.specs.Honest.{Sealing}

-- one of the journal's entries is such
abbrev pub HasOne : (Entry → Type 0) → List Entry → Type 0
HasOne Is [] = ⊥
HasOne Is (first ∷ entries) = Is first ⊎ HasOne Is entries

-- the first byte of a message says that it is of a run line or of a register
abbrev pub is_own_kind : List ℕ → Bool
is_own_kind message = bytes_eq (take 1 message) (2 ∷ []) || bytes_eq (take 1 message) (3 ∷ [])

-- the message is of a run line or a register of this install, whatever else it says: both name the
-- install behind the boot number
unfoldable pub names_install : ℕ → List ℕ → Bool
names_install install message =
    is_own_kind message && bytes_eq (take 8 (drop 9 message)) (to_be_bytes w64 install)

-- the Seal is of an install: of a line or a register of it
abbrev pub is_its : ℕ → Sealing → Bool
is_its install sealing = names_install install sealing.1

-- those of the Seals that are of an install
abbrev pub install_seals : ℕ → List Sealing → List Sealing
install_seals install seals = filter (is_its install) seals

-- the entry is a step or a trap of the install, or seals or accepts a run line or a register of it
abbrev pub UsesIt : ℕ → Entry → Type 0
UsesIt install (entry.Step number step) = number ≡ install
UsesIt install (entry.Trap number why) = number ≡ install
UsesIt install (entry.Seal key message) = names_install install message ≡ true
UsesIt install (entry.Accept key message place) = names_install install message ≡ true
UsesIt install other = ⊥
