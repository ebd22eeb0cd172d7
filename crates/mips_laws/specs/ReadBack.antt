-- What is stored is loaded again at the same address: a word, a half-word or a byte, with its sign
-- or with zeros in front.
-- Source: Kane and Heinrich, MIPS RISC Architecture, appendix A (LB, LBU, LH, LHU, LW, LWL, LWR,
-- SB, SH, SW, SWL, SWR).
use Rattle.std.specs.Prelude.{◌≡◌, ℕ, ◌+◌, ◌%◌, ◌^◌, ◌<◌, ◌≤◌, List, ℤ}
use Rattle.mips_instruction.specs.declared.instruction.Ins.{Ins}
use Rattle.mips_instruction.specs.declared.instruction.Ins.TheVariants.{Lb, Lbu, Lh, Lhu, Lw, Lwl, Lwr, Sb, Sh, Sw, Swl, Swr}
use Rattle.mips_instruction.specs.Numbers.{plus_signed, signed_16, signed_8, signed_number}
use Rattle.mips_plain.specs.Memory.{private_size}
use Rattle.mips_laws.specs.Accesses.{IsMemory, LoadsOnly, StoresOnly}
use Rattle.mips_laws.specs.Unaligned.{NamesWord, LoadsByTwo, StoresByTwo}

-- a store and a load that have the same address in private memory, a multiple of their size
pub record SamePlace (size s imm base offset : ℕ) : Type 0 where
  pub same : plus_signed base offset ≡ plus_signed s imm
  pub aligned : plus_signed s imm % size ≡ 0
  pub inside : plus_signed s imm + size ≤ private_size

-- the store, then the load, gives the register the value
pub record ReadsBack (bytes : List ℕ) (store load : Ins) (s t base old reg value : ℕ) : Type 0 where
  pub new : List ℕ
  pub stores : StoresOnly bytes store s t new
  pub loads : LoadsOnly new load base old reg value

-- the store, then the load, gives the register a number of 32 bits that has this value as a signed
-- number
pub record ReadsBackSigned (bytes : List ℕ) (store load : Ins) (s t base old reg : ℕ)
    (value : ℤ) : Type 0 where
  pub number : ℕ
  pub number_bits : number < 2 ^ 32
  pub reads_back : ReadsBack bytes store load s t base old reg number
  pub number_is : signed_number number ≡ value

-- SW, then LW: the whole number
abbrev pub WordsAreReadBack : Type 0
WordsAreReadBack = (bytes : List ℕ) (rt rs imm s t reg from offset base old : ℕ) → IsMemory bytes
    → t < 2 ^ 32 → SamePlace 4 s imm base offset
    → ReadsBack bytes (Sw rt imm rs) (Lw reg offset from) s t base old reg t

-- SH, then LHU or LH: the low half, without or with its sign
abbrev pub HalvesAreReadBack : Type 0
HalvesAreReadBack = (bytes : List ℕ) (rt rs imm s t reg from offset base old : ℕ) → IsMemory bytes
    → SamePlace 2 s imm base offset
    → ReadsBack bytes (Sh rt imm rs) (Lhu reg offset from) s t base old reg (t % 2 ^ 16)
    × ReadsBackSigned bytes (Sh rt imm rs) (Lh reg offset from) s t base old reg
    (signed_16 (t % 2 ^ 16))

-- SB, then LBU or LB: the low byte, without or with its sign
abbrev pub BytesAreReadBack : Type 0
BytesAreReadBack = (bytes : List ℕ) (rt rs imm s t reg from offset base old : ℕ) → IsMemory bytes
    → SamePlace 1 s imm base offset
    → ReadsBack bytes (Sb rt imm rs) (Lbu reg offset from) s t base old reg (t % 2 ^ 8)
    × ReadsBackSigned bytes (Sb rt imm rs) (Lb reg offset from) s t base old reg
    (signed_8 (t % 2 ^ 8))

-- two stores, then two loads, give the register the value
pub record ReadsBackByTwo (bytes : List ℕ) (store_one store_two load_one load_two : Ins)
    (s t base old reg value : ℕ) : Type 0 where
  pub new : List ℕ
  pub stores : StoresByTwo bytes store_one store_two s t new
  pub loads : LoadsByTwo new load_one load_two base old reg value

-- SWL and SWR, then LWL and LWR at the same word, aligned or not: the whole number
abbrev pub UnalignedWordsAreReadBack : Type 0
UnalignedWordsAreReadBack = (bytes : List ℕ) (rt rs first last s t reg from base_first base_last
    base old address : ℕ) → IsMemory bytes → t < 2 ^ 32
    → NamesWord s first last address → NamesWord base base_first base_last address
    → ReadsBackByTwo bytes (Swl rt first rs) (Swr rt last rs) (Lwl reg base_first from)
    (Lwr reg base_last from) s t base old reg t
