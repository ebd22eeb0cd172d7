-- An unaligned word, loaded and stored by its two halves. Words are big-endian: LWL and SWL name
-- the first byte, LWR and SWR the last.
-- Source: Kane and Heinrich, MIPS RISC Architecture, appendix A (LWL, LWR, SWL, SWR).
use Rattle.std.specs.Prelude.{◌≡◌, ℕ, ◌+◌, ◌*◌, ◌%◌, ◌^◌, ◌<◌, ◌≤◌, ◌⊎◌, List, length, slice_index}
use Rattle.mips_instruction.specs.declared.instruction.Ins.{Ins}
use Rattle.mips_instruction.specs.declared.instruction.Ins.TheVariants.{Lw, Lwl, Lwr, Sw, Swl, Swr}
use Rattle.mips_instruction.specs.Numbers.{plus_signed}
use Rattle.mips_plain.specs.Memory.{low_bytes, private_size, word_at_address, written_at}
use Rattle.mips_laws.specs.Accesses.{IsMemory, LoadsOnly, StoresOnly}

-- the first byte of a word is its highest; behind the last byte there are zeros
abbrev pub WordsAreBigEndian : Type 0
WordsAreBigEndian = (bytes : List ℕ) (address : ℕ)
    → word_at_address bytes address ≡ slice_index bytes address * 2 ^ 24 + slice_index bytes
    (address + 1) * 2 ^ 16 + slice_index bytes (address + 2) * 2 ^ 8 + slice_index bytes
    (address + 3)

-- new bytes differ from the old ones in the four of the word at an address alone, and stand there
-- for a number
pub record WritesWord (bytes new : List ℕ) (address number : ℕ) : Type 0 where
  pub size : length new ≡ length bytes
  pub word : word_at_address new address ≡ number
  pub others : (place : ℕ) → (place < address) ⊎ (address + 4 ≤ place)
      → slice_index new place ≡ slice_index bytes place

-- that is what the four bytes of a number, written at an address, are
abbrev pub WrittenWordsAreAlone : Type 0
WrittenWordsAreAlone = (bytes : List ℕ) (address t : ℕ) → address + 4 ≤ length bytes → t < 2 ^ 32
    → WritesWord bytes (written_at bytes address (low_bytes 4 t)) address t

-- two immediates name the first and the last byte of a word of private memory, aligned or not
pub record NamesWord (s first last address : ℕ) : Type 0 where
  pub first_byte : plus_signed s first ≡ address
  pub last_byte : plus_signed s last ≡ address + 3
  pub inside : address + 4 ≤ private_size

-- two loads, one after the other, give the register the value
pub record LoadsByTwo (bytes : List ℕ) (one two : Ins) (s old reg value : ℕ) : Type 0 where
  pub half : ℕ
  pub one_loads : LoadsOnly bytes one s old reg half
  pub two_loads : LoadsOnly bytes two s half reg value

-- LWL and LWR, in either order, load the word whose first byte is at the address, whatever the
-- register had
abbrev pub HalvesLoadTheWord : Type 0
HalvesLoadTheWord = (bytes : List ℕ) (rt rs first last s old address : ℕ) → IsMemory bytes
    → NamesWord s first last address
    → LoadsByTwo bytes (Lwl rt first rs) (Lwr rt last rs) s old rt (word_at_address bytes address)
    × LoadsByTwo bytes (Lwr rt last rs) (Lwl rt first rs) s old rt (word_at_address bytes address)

-- and so does LW by itself, where the address is a multiple of 4
abbrev pub LwLoadsTheWord : Type 0
LwLoadsTheWord = (bytes : List ℕ) (rt rs imm s old : ℕ) → plus_signed s imm + 4 ≤ private_size
    → plus_signed s imm % 4 ≡ 0
    → LoadsOnly bytes (Lw rt imm rs) s old rt (word_at_address bytes (plus_signed s imm))

-- two stores, one after the other, make memory so
pub record StoresByTwo (bytes : List ℕ) (one two : Ins) (s t : ℕ) (new : List ℕ) : Type 0 where
  pub between : List ℕ
  pub one_stores : StoresOnly bytes one s t between
  pub two_stores : StoresOnly between two s t new

-- SWL and SWR, in either order, write the four bytes of the word and no other
abbrev pub HalvesStoreTheWord : Type 0
HalvesStoreTheWord = (bytes : List ℕ) (rt rs first last s t address : ℕ) → IsMemory bytes
    → t < 2 ^ 32 → NamesWord s first last address
    → StoresByTwo bytes (Swl rt first rs) (Swr rt last rs) s t
    (written_at bytes address (low_bytes 4 t))
    × StoresByTwo bytes (Swr rt last rs) (Swl rt first rs) s t
    (written_at bytes address (low_bytes 4 t))

-- and so does SW by itself, where the address is a multiple of 4
abbrev pub SwStoresTheWord : Type 0
SwStoresTheWord = (bytes : List ℕ) (rt rs imm s t : ℕ) → plus_signed s imm + 4 ≤ private_size
    → plus_signed s imm % 4 ≡ 0
    → StoresOnly bytes (Sw rt imm rs) s t (written_at bytes (plus_signed s imm) (low_bytes 4 t))
