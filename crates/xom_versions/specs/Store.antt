-- What is seen of a version store, and the texts that it hashes.
use Rattle.std.specs.Prelude.{◌≡◌, ℕ, List, [], Option, None, IfSome}
use Rattle.std.specs.List.{Contains}
use Rattle.sha2.specs.Sha256.{sha256}
use Rattle.xom_base.specs.declared.entry.Entry.{Entry}
use Rattle.xom_base.specs.declared.entry.Entry.TheVariants as entry
use Rattle.line_ram.specs.Bytes.{HoldsRange}

-- how many lines of 32 bytes a guest's private memory has
abbrev pub line_limit : ℕ
line_limit = 32768

-- how many bytes of RAM a store may take for itself
abbrev pub area_size : ℕ
area_size = 411904

-- how many bytes of the journal a build may use
abbrev pub build_room : ℕ
build_room = 800000

-- how many bytes of the journal asking for a version may use
abbrev pub version_room : ℕ
version_room = 2000

-- how many bytes of the journal a raise may use
abbrev pub raise_room : ℕ
raise_room = 4000

-- the numbers that a store on chip holds, or the area and the root of one whose numbers lie in RAM
pub record Store : Type 0 where
  pub numbers : List ℕ
  pub area : Option ℕ
  pub root : List ℕ

-- the store where there is no slot
unfoldable pub no_store : Store
no_store = record { numbers = []; area = None; root = [] }

-- RAM holds the area that the store keeps, if it keeps one
abbrev pub HoldsArea : List ℕ → Store → Type 0
HoldsArea ram store = IfSome store.area (λ area. HoldsRange ram area area_size)

-- the entry of a text that was hashed: its digest is its SHA-256 (FIPS 180-4)
abbrev pub hash_entry : List ℕ → Entry
hash_entry text = entry.Hash text (sha256 text)

-- no two texts that a journal has as hashed have one digest
abbrev pub NoCollision : List Entry → Type 0
NoCollision entries =
    (text other digest : List ℕ) → Contains entries (entry.Hash text digest) → Contains entries
    (entry.Hash other digest) → text ≡ other
