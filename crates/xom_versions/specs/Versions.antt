-- What a kind of version store answers, hashes and leaves, and the law that it keeps.
use Rattle.std.specs.Prelude.{◌≡◌, ℕ, ◌+◌, ◌<◌, ◌≤◌, ◌%◌, ◌^◌, ◌==◌, List, ◌++◌, length, map, nat_lt, Option, Some, Result, Ok, Err, is_ok, if◌then◌else◌}
use Rattle.xom_base.specs.declared.entry.Entry.{Entry}
use Rattle.line_ram.specs.Bytes.{HoldsRange}
use Rattle.xom_versions.specs.declared.store.Torn.{Torn}
use Rattle.xom_versions.specs.Store.{HoldsArea, NoCollision, Store, area_size, hash_entry, line_limit}

-- The calls of a kind of store as functions of the store, of the line (for a build: of the area and
-- the number of image lines) and of the bytes of RAM.
pub record Versions : Type 0 where
  -- before any guest
  pub blank_store : Store
  -- `build`
  pub store_after_build : ℕ → ℕ → List ℕ → Store
  pub ram_after_build : ℕ → ℕ → List ℕ → List ℕ
  pub texts_of_build : ℕ → ℕ → List ℕ → List (List ℕ)
  -- `version`
  pub answer_of_version : Store → ℕ → List ℕ → Result ℕ Torn
  pub texts_of_version : Store → ℕ → List ℕ → List (List ℕ)
  -- `raise`
  pub answer_of_raise : Store → ℕ → List ℕ → Result ℕ Torn
  pub store_after_raise : Store → ℕ → List ℕ → Store
  pub ram_after_raise : Store → ℕ → List ℕ → List ℕ
  pub texts_of_raise : Store → ℕ → List ℕ → List (List ℕ)

-- a journal with the entries of these texts
abbrev pub with_hashes : List Entry → List (List ℕ) → List Entry
with_hashes entries texts = entries ++ map hash_entry texts

-- an image line begins at version 1, every other at 0
abbrev pub start_version : ℕ → ℕ → ℕ
start_version lines line = if nat_lt line lines then 1 else 0

-- the number after this one: a version is raised modulo 2^64
abbrev pub next_version : ℕ → ℕ
next_version number = (number + 1) % 2 ^ 64

-- the numbers of the lines with another one for this line
abbrev pub with_version : (ℕ → ℕ) → ℕ → ℕ → ℕ → ℕ
with_version numbers line number other = if other == line then number else numbers other

-- The law, where `Stands` says for which numbers a store stands in a journal. Numbers are a
-- function from lines. A call's hashes stand in the journal before its answer counts.
pub record VersionLaw (v : Versions) (Stands : Store → List Entry → (ℕ → ℕ) → Type 0) : Type 0 where
  -- a build makes the store stand for the start versions
  pub builds : (entries : List Entry) (area lines : ℕ) (ram : List ℕ) → lines ≤ line_limit
      → Stands (v.store_after_build area lines ram)
      (with_hashes entries (v.texts_of_build area lines ram)) (start_version lines)
  -- a version that is answered is the line's number, unless the journal holds a collision
  pub versions : (entries : List Entry) (store : Store) (numbers : ℕ → ℕ) (line number : ℕ)
      (ram : List ℕ)
      → Stands store entries numbers → line < line_limit
      → NoCollision (with_hashes entries (v.texts_of_version store line ram))
      → v.answer_of_version store line ram ≡ Ok number → number ≡ numbers line
  -- a raise that is answered gives the next number, and the store then stands for it, unless the
  -- journal holds a collision
  pub raises : (entries : List Entry) (store : Store) (numbers : ℕ → ℕ) (line number : ℕ)
      (ram : List ℕ)
      → Stands store entries numbers → line < line_limit
      → NoCollision (with_hashes entries (v.texts_of_raise store line ram))
      → v.answer_of_raise store line ram ≡ Ok number
      → (number ≡ next_version (numbers line))
      × Stands (v.store_after_raise store line ram)
      (with_hashes entries (v.texts_of_raise store line ram)) (with_version numbers line number)
  -- after a torn raise the store stands for what it stood for
  pub torn : (entries : List Entry) (store : Store) (numbers : ℕ → ℕ) (line : ℕ) (ram : List ℕ)
      (fault : Torn)
      → Stands store entries numbers → line < line_limit
      → v.answer_of_raise store line ram ≡ Err fault
      → Stands (v.store_after_raise store line ram)
      (with_hashes entries (v.texts_of_raise store line ram)) numbers
  -- for what it stands in a journal, it stands in each longer one
  pub longer : (entries more : List Entry) (store : Store) (numbers : ℕ → ℕ)
      → Stands store entries numbers → Stands store (entries ++ more) numbers
  -- the numbers of the lines that there are alone count
  pub alike : (entries : List Entry) (store : Store) (numbers others : ℕ → ℕ)
      → ((line : ℕ) → line < line_limit → numbers line ≡ others line) → Stands store entries numbers
      → Stands store entries others
  -- RAM keeps its size
  pub size_after_build : (area lines : ℕ) (ram : List ℕ) → HoldsRange ram area area_size
      → length (v.ram_after_build area lines ram) ≡ length ram
  pub size_after_raise : (store : Store) (line : ℕ) (ram : List ℕ) → HoldsArea ram store
      → line < line_limit → length (v.ram_after_raise store line ram) ≡ length ram
  -- a store that keeps an area after a build keeps the given one, and a raise leaves it
  pub area_after_build : (area lines kept : ℕ) (ram : List ℕ)
      → (v.store_after_build area lines ram).area ≡ Some kept → kept ≡ area
  pub area_after_raise : (store : Store) (line : ℕ) (ram : List ℕ)
      → (v.store_after_raise store line ram).area ≡ store.area
  -- what a raise leaves in RAM is a matter of the area, the line, whether it is torn, and RAM
  -- before
  pub ram_by_area : (store other : Store) (line : ℕ) (ram : List ℕ) → store.area ≡ other.area
      → is_ok (v.answer_of_raise store line ram) ≡ is_ok (v.answer_of_raise other line ram)
      → v.ram_after_raise store line ram ≡ v.ram_after_raise other line ram

-- ---- What a raise leaves in the open

-- RAM after a raise that was answered: a function of the area that the store keeps, the line and
-- RAM
abbrev pub Raised : Type 0
Raised = Option ℕ → ℕ → List ℕ → List ℕ

-- A store hides nothing in RAM: RAM after a raise that was answered is this function of area, line
-- and RAM, and after a torn one it is as it was. The area stays.
pub record RaisesInTheOpen (v : Versions) (raised : Raised) : Type 0 where
  pub done : (store : Store) (line number : ℕ) (ram : List ℕ)
      → v.answer_of_raise store line ram ≡ Ok number
      → v.ram_after_raise store line ram ≡ raised store.area line ram
  pub torn : (store : Store) (line : ℕ) (ram : List ℕ) (fault : Torn)
      → v.answer_of_raise store line ram ≡ Err fault → v.ram_after_raise store line ram ≡ ram
  pub area : (store : Store) (line : ℕ) (ram : List ℕ)
      → (v.store_after_raise store line ram).area ≡ store.area
