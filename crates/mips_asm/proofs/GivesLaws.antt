-- Whether a statement writes bytes can be decided.
use Rattle.std.proofs.Common.{◌≡◌, ℕ, ◌%◌, ◌≤◌, ◌⊎◌, inl, inr, List, [], ◌∷◌, ◌++◌, replicate, Option, Some, None, refl, sym, subst, option_map, arith}
use Rattle.std.specs.Int.{w32, to_be_bytes}
use Rattle.std.proofs.lemmas.Bool.{cases_eq, cases_lt}
use Rattle.std.proofs.lemmas.Option.{none-some, same_Some}
use Rattle.mips_instruction.specs.Words.{word_of}
use Rattle.mips_instruction.specs.declared.instruction.Ins.{Ins}
use Rattle.asm_source.specs.declared.content.Content.{Content}
use Rattle.asm_source.specs.declared.content.Content.TheVariants.{Label, Words, Bytes, Ascii, Space, Align, Org, Entry, LoadNumber, LoadAddress, Instruction}
use Rattle.asm_syntax.specs.Forms.{map_some}
use Rattle.mips_asm.specs.Encoding.{AreWords, IsCode, IsPadding, StatementGives, byte_value, instruction_at, join_some, load_address, load_number, one_instruction, word_value}
use Rattle.mips_asm.specs.Layout.{padding}
use Rattle.mips_asm.specs.Passes.{Labels}
use Rattle.mips_asm.proofs.FitsLaws.{Fits-decided}

-- some bytes have the property, or none
abbrev pub Found : (List ℕ → Type 0) → Type 0
Found P = ((bytes : List ℕ) × P bytes) ⊎ ((bytes : List ℕ) → ¬ P bytes)

-- what an option holds
held : (found : Option (List ℕ)) → Found (λ bytes. found ≡ Some bytes)
held None = inr (λ bytes is. none-some bytes is)
held (Some bytes) = inl (bytes, refl)

-- at a multiple of 4
at_word : (place : ℕ) (P : List ℕ → Type 0) → Found P → Found (λ bytes. (place % 4 ≡ 0) × P bytes)
at_word place P (inr none) = inr (λ bytes is. none bytes is.1)
at_word place P (inl found) = elim (cases_eq (place % 4) 0) [
  | inl at ↦ inl (found.0, (at, found.1))
  | inr other ↦ inr (λ bytes is. other is.0)
]

-- the words of instructions
AreWords-found : (is : List Ins) → Found (AreWords is)
AreWords-found [] = inl ([], refl)
AreWords-found (i ∷ is) = elim (Fits-decided i) [
  | inr unfit ↦ inr (λ bytes words. unfit words.1)
  | inl fits ↦ elim (AreWords-found is) [
    | inr none ↦ inr (λ bytes words. none words.0 words.3)
    | inl more ↦ inl (to_be_bytes w32 (word_of i) ++ more.0, (more.0, fits, refl, more.1))
  ]
]

-- code, where there are instructions
some_code : (place : ℕ) (is : List Ins) → Found (AreWords is) → Found (IsCode place (Some is))
some_code place is (inr none) =
    inr
    (λ bytes code. none bytes (subst (λ (made : List Ins). AreWords made bytes)
    (sym (same_Some is code.0 code.2)) code.3))
some_code place is (inl words) = elim (cases_eq (place % 4) 0) [
  | inl at ↦ inl (words.0, (is, at, refl, words.1))
  | inr other ↦ inr (λ bytes code. other code.1)
]

IsCode-found : (place : ℕ) (made : Option (List Ins)) → Found (IsCode place made)
IsCode-found place None = inr (λ bytes code. none-some code.0 code.2)
IsCode-found place (Some is) = some_code place is (AreWords-found is)

-- zeros up to a multiple
IsAligned-found : (n place : ℕ) → Found (IsPadding n place)
IsAligned-found n place = elim (cases_lt 12 n) [
  | inl past ↦ inr (λ bytes is. let low : n ≤ 12 = is.0 in absurd (omega arith))
  | inr low ↦ inl (replicate (padding n place) 0, (low, refl))
]

-- a statement writes bytes, or none are what it writes
pub Gives-found : (labels : Labels) (place : ℕ) (content : Content)
    → Found (StatementGives labels place content)
Gives-found labels place (Label name) = inl ([], refl)
Gives-found labels place (Words vs) =
    at_word place (λ bytes. join_some (word_value labels) vs ≡ Some bytes)
    (held (join_some (word_value labels) vs))
Gives-found labels place (Bytes ns) = held (map_some byte_value ns)
Gives-found labels place (Ascii text) = inl (text, refl)
Gives-found labels place (Space n) = inl (replicate n 0, refl)
Gives-found labels place (Align n) = IsAligned-found n place
Gives-found labels place (Org n) = inl ([], refl)
Gives-found labels place (Entry v) = inl ([], refl)
Gives-found labels place (LoadNumber r n) = IsCode-found place (load_number r n)
Gives-found labels place (LoadAddress r name) = IsCode-found place (load_address labels r name)
Gives-found labels place (Instruction name arguments) =
    IsCode-found place (option_map one_instruction (instruction_at labels place name arguments))
