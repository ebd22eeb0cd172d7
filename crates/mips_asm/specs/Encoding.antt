-- The bytes that a statement writes, where its values are in their ranges.
use Rattle.std.specs.Prelude.{◌≡◌, ℕ, ◌+◌, ◌-◌, ◌/◌, ◌%◌, ◌^◌, ◌≤◌, ◌==◌, ◌&&◌, nat_lt, nat_le, ◌||◌, Bool, true, false, if◌then◌else◌, List, [], ◌∷◌, ◌++◌, replicate, Option, Some, None, option_map}
use Rattle.std.specs.Int.{w32, to_be_bytes}
use Rattle.mips_instruction.specs.Words.{Fits, word_of}
use Rattle.mips_instruction.specs.declared.instruction.Ins.{Ins}
use Rattle.mips_instruction.specs.declared.instruction.Ins.TheVariants.{Addiu, Ori, Lui}
use Rattle.mips_forms.specs.Builds.{build_of, kinds_of}
use Rattle.asm_tokens.specs.declared.integers.Integer.{Integer}
use Rattle.mips_forms.specs.declared.operand.Operand.{Operand}
use Rattle.mips_forms.specs.declared.operand.Operand.TheVariants as operand
use Rattle.mips_forms.specs.declared.operand.OperandKind.{OperandKind}
use Rattle.mips_forms.specs.declared.operand.OperandKind.TheVariants as kinds
use Rattle.asm_source.specs.declared.argument.Argument.{Argument}
use Rattle.asm_source.specs.declared.argument.Argument.TheVariants as argument
use Rattle.asm_source.specs.declared.argument.Value.{Value}
use Rattle.asm_source.specs.declared.argument.Value.TheVariants as values
use Rattle.asm_source.specs.declared.content.Content.{Content}
use Rattle.asm_source.specs.declared.content.Content.TheVariants.{Label, Words, Bytes, Ascii, Space, Align, Org, Entry, LoadNumber, LoadAddress, Instruction}
use Rattle.asm_syntax.specs.Forms.{map_some}
use Rattle.xom_base.specs.Options.{◌>>=◌, where_holds}
use Rattle.mips_asm.specs.Layout.{in_range, padding}
use Rattle.mips_asm.specs.Passes.{Labels}

-- ---- numbers

-- the number without a sign
abbrev pub unsigned_number : ℕ → Integer
unsigned_number n = record { negative = false; magnitude = n }

-- what a value stands for: a number for itself, a name for the place of its label
abbrev pub value_number : Labels → Value → Option Integer
value_number labels (values.Number n) = Some n
value_number labels (values.Label name) = option_map unsigned_number (labels name)

-- a number from -2^bits on as a number below 2^bits: two's complement
abbrev pub twos_complement : (bits : ℕ) → Integer → ℕ
twos_complement bits n = (if n.negative then 2 ^ bits - n.magnitude else n.magnitude) % 2 ^ bits

-- ---- data

-- what the elements give, one behind another, where each gives something
abbrev pub join_some : {X Y : Type 0} → (X → Option (List Y)) → List X → Option (List Y)
join_some f [] = Some []
join_some f (x ∷ xs) = do
  first ← f x
  rest ← join_some f xs
  Some (first ++ rest)

-- the four bytes of one value of `.word`: from -2^31 to 2^32 - 1
abbrev pub word_bytes : Integer → Option (List ℕ)
word_bytes n =
    where_holds (in_range 2147483648 4294967295 n) (to_be_bytes w32 (twos_complement 32 n))

-- the four bytes of a value of `.word`, with the labels' places for their names
unfoldable pub word_value : Labels → Value → Option (List ℕ)
word_value labels v = value_number labels v >>= word_bytes

-- the byte of one value of `.byte`: from -128 to 255
abbrev pub byte_value : Integer → Option ℕ
byte_value n = where_holds (in_range 128 255 n) (twos_complement 8 n)

-- ---- instructions

-- from -32768 to 32767
abbrev pub signed_immediate : Integer → Option ℕ
signed_immediate n = where_holds (in_range 32768 32767 n) (twos_complement 16 n)

-- from 0 to high
abbrev pub unsigned_below : ℕ → Integer → Option ℕ
unsigned_below high n = where_holds (in_range 0 high n) n.magnitude

-- the address of an instruction: from 0 to 2^32 - 1, a multiple of 4
abbrev pub instruction_address : Integer → Option ℕ
instruction_address n = where_holds (in_range 0 4294967295 n && (n.magnitude % 4 == 0)) n.magnitude

-- how far an address lies behind the instruction after the one at pc, modulo 2^32
abbrev pub distance : (pc address : ℕ) → ℕ
distance pc address = (address + 2 ^ 32 - (pc + 4)) % 2 ^ 32

-- A branch reaches 2^17 bytes back and up to 2^17 - 4 forward from there. Its field counts words,
-- with a sign.
abbrev pub branch_field : (pc address : ℕ) → Option ℕ
branch_field pc address =
    where_holds (nat_lt (distance pc address) (2 ^ 17) || nat_le (2 ^ 32 - 2 ^ 17)
    (distance pc address)) (distance pc address / 4 % 2 ^ 16)

-- A jump reaches what shares the top 4 bits of the address after its own. Its field counts words.
abbrev pub jump_field : (pc address : ℕ) → Option ℕ
jump_field pc address = where_holds (address / 2 ^ 28 == (pc + 4) / 2 ^ 28) (address % 2 ^ 28 / 4)

-- the operand of this kind that stands for a number, in the instruction at pc
unfoldable pub field_of : (pc : ℕ) → OperandKind → Integer → Option Operand
field_of pc kinds.Shift n = option_map (λ v. operand.Shift v) (unsigned_below 31 n)
field_of pc kinds.Signed n = option_map (λ v. operand.Signed v) (signed_immediate n)
field_of pc kinds.Unsigned n = option_map (λ v. operand.Unsigned v) (unsigned_below 65535 n)
field_of pc kinds.Code n = option_map (λ v. operand.Code v) (unsigned_below 1048575 n)
field_of pc kinds.Branch n = option_map (λ v. operand.Branch v) (instruction_address n >>= branch_field pc)
field_of pc kinds.Jump n = option_map (λ v. operand.Jump v) (instruction_address n >>= jump_field pc)
field_of pc _ n = None

-- an offset from its base register
abbrev pub offset_field : (base : ℕ) → Integer → Option Operand
offset_field base n = option_map (λ imm. operand.Offset imm base) (signed_immediate n)

-- the operand of this kind that is written so, in the instruction at pc
unfoldable pub operand_of : Labels → (pc : ℕ) → OperandKind → Argument → Option Operand
operand_of labels pc kind (argument.Register r) = Some (operand.Register r)
operand_of labels pc kind (argument.Value v) = value_number labels v >>= field_of pc kind
operand_of labels pc kind (argument.Offset v r) = value_number labels v >>= offset_field r
operand_of labels pc kind (argument.Text bytes) = None

-- the operands of these kinds that are written so
unfoldable pub operands_of : Labels → (pc : ℕ) → List OperandKind → List Argument
    → Option (List Operand)
operands_of labels pc (kind ∷ shape) (argument ∷ arguments) = do
  first ← operand_of labels pc kind argument
  rest ← operands_of labels pc shape arguments
  Some (first ∷ rest)
operands_of labels pc [] [] = Some []
operands_of labels pc _ _ = None

-- the instruction with this mnemonic and these operands, at pc
unfoldable pub instruction_at : Labels → (pc : ℕ) → (name : List ℕ) → List Argument → Option Ins
instruction_at labels pc name arguments = do
  shape ← kinds_of name
  operands ← operands_of labels pc shape arguments
  build_of name operands

-- the upper and the lower half of a number of 32 bits into a register
abbrev pub load_halves : (r n : ℕ) → List Ins
load_halves r n = Lui r (n / 2 ^ 16) ∷ Ori r r (n % 2 ^ 16) ∷ []

-- `li`: addiu from $0 for a number from -32768 to 32767, ori from $0 up to 65535, else the two
-- halves
unfoldable pub load_number : (r : ℕ) → Integer → Option (List Ins)
load_number r n =
    if in_range 32768 32767 n then Some (Addiu r 0 (twos_complement 16 n) ∷ [])
    else (if in_range 0 65535 n then Some (Ori r 0 n.magnitude ∷ [])
    else (if in_range 2147483648 4294967295 n then Some (load_halves r (twos_complement 32 n))
    else None))

-- `la`: the two halves of a place below 2^32
unfoldable pub load_address : Labels → (r : ℕ) → (name : List ℕ) → Option (List Ins)
load_address labels r name = do
  place ← labels name
  where_holds (nat_le place 4294967295) (load_halves r place)

-- What was added to a list: the whole, or not all of it where there is none.
abbrev pub AppendsFound : {A : Type 0} → Option (List A) → List A → Bool → List A → Type 0
AppendsFound found old true new = option_map (λ more. old ++ more) found ≡ Some new
AppendsFound found old false new = found ≡ None

-- What was answered of bytes that have a property: true and such bytes, or false where no bytes
-- have it.
abbrev pub TellsWhether : (List ℕ → Type 0) → Bool → List ℕ → Type 0
TellsWhether P true bytes = P bytes
TellsWhether P false bytes = (all : List ℕ) → ¬ P all

-- the same of bytes that come of a function
abbrev pub ComesOf : Option (List ℕ) → Bool → List ℕ → Type 0
ComesOf found true bytes = found ≡ Some bytes
ComesOf found false bytes = found ≡ None

-- each instruction has its operands in their ranges, and the bytes are their words
abbrev pub AreWords : List Ins → List ℕ → Type 0
AreWords [] bytes = bytes ≡ []
AreWords (i ∷ is) bytes =
    (more : List ℕ) × Fits i × (bytes ≡ to_be_bytes w32 (word_of i) ++ more) × AreWords is more

-- instructions stand at multiples of 4
abbrev pub IsCode : ℕ → Option (List Ins) → List ℕ → Type 0
IsCode place instructions bytes =
    (is : List Ins) × (place % 4 ≡ 0) × (instructions ≡ Some is) × AreWords is bytes

-- the list of just this instruction
abbrev pub one_instruction : Ins → List Ins
one_instruction i = i ∷ []

-- ---- statements

-- the values of `.word` stand at a multiple of 4
abbrev pub GivesWords : Labels → ℕ → List Value → List ℕ → Type 0
GivesWords labels place vs bytes = (place % 4 ≡ 0) × (join_some (word_value labels) vs ≡ Some bytes)

-- zeros up to the next multiple of 2^n, where n is at most 12
abbrev pub IsPadding : (n place : ℕ) → List ℕ → Type 0
IsPadding n place bytes = (n ≤ 12) × (bytes ≡ replicate (padding n place) 0)

-- The statement, at this place, writes these bytes: its values are in their ranges. (What the last
-- `.entry` says of the entry is looked at by itself.)
abbrev pub StatementGives : Labels → ℕ → Content → List ℕ → Type 0
StatementGives labels place (Label name) bytes = bytes ≡ []
StatementGives labels place (Words vs) bytes = GivesWords labels place vs bytes
StatementGives labels place (Bytes ns) bytes = map_some byte_value ns ≡ Some bytes
StatementGives labels place (Ascii text) bytes = bytes ≡ text
StatementGives labels place (Space n) bytes = bytes ≡ replicate n 0
StatementGives labels place (Align n) bytes = IsPadding n place bytes
StatementGives labels place (Org n) bytes = bytes ≡ []
StatementGives labels place (Entry v) bytes = bytes ≡ []
StatementGives labels place (LoadNumber r n) bytes = IsCode place (load_number r n) bytes
StatementGives labels place (LoadAddress r name) bytes = IsCode place (load_address labels r name) bytes
StatementGives labels place (Instruction name arguments) bytes =
    IsCode place (option_map one_instruction (instruction_at labels place name arguments)) bytes
