-- From a mnemonic and operands to the instruction: the rows of the table of forms, by the kinds of
-- their operands.
use Rattle.std.specs.Prelude.{ℕ, List, [], ◌∷◌, map, codes, Bool, Option, Some, None, is_some, find, if◌then◌else◌}
use Rattle.std.specs.Str.{bytes_eq}
use Rattle.mips_instruction.specs.declared.instruction.Ins.{Ins}
use Rattle.mips_instruction.specs.declared.instruction.Ins.TheVariants.{Sll, Srl, Sra, Sllv, Srlv, Srav, Jr, Jalr, Syscall, Break, Mfhi, Mthi, Mflo, Mtlo, Mult, Multu, Div, Divu, Add, Addu, Sub, Subu, And, Or, Xor, Nor, Slt, Sltu, Bltz, Bgez, Bltzal, Bgezal, J, Jal, Beq, Bne, Blez, Bgtz, Addi, Addiu, Slti, Sltiu, Andi, Ori, Xori, Lui, Lb, Lh, Lwl, Lw, Lbu, Lhu, Lwr, Sb, Sh, Swl, Sw, Swr, Xlwn, Xswn, Xmvtn, Xmvfn, Xexit, Xhand, Xsigret, Xinstall, Xenter, Xresume, Xsave, Xrestore, Xmap, Xunmap, Xkill, Xout, Xhalt, Xstat, Xcause, Xarg, Xwho}
use Rattle.mips_forms.specs.declared.operand.Operand.{Operand}
use Rattle.mips_forms.specs.declared.operand.Operand.TheVariants.{Register, Shift, Signed, Unsigned, Code, Branch, Jump, Offset}
use Rattle.mips_forms.specs.declared.operand.OperandKind.{OperandKind}
use Rattle.mips_forms.specs.declared.operand.OperandKind.TheVariants as kinds

-- a row: a mnemonic, and the instruction that it makes
abbrev pub FormRow : Type 0
FormRow = List ℕ × Ins

-- the instruction of the row with this mnemonic
abbrev pub in_rows : List ℕ → List FormRow → Option Ins
in_rows name [] = None
in_rows name (row ∷ rows) = if bytes_eq name row.0 then Some row.1 else in_rows name rows

-- no operand
unfoldable pub plain_rows : List FormRow
plain_rows =
    (codes "xexit", Xexit) ∷ (codes "xsigret", Xsigret) ∷ (codes "xhalt", Xhalt) ∷ []

-- one register
unfoldable pub register_rows : (a : ℕ) → List FormRow
register_rows a =
    (codes "jr", Jr a) ∷ (codes "mfhi", Mfhi a) ∷ (codes "mthi", Mthi a) ∷ (codes "mflo", Mflo a) ∷
    (codes "mtlo", Mtlo a) ∷ (codes "xmvtn", Xmvtn a) ∷ (codes "xhand", Xhand a)
    ∷ (codes "xenter", Xenter a) ∷
    (codes "xkill", Xkill a) ∷ (codes "xout", Xout a) ∷ (codes "xstat", Xstat a)
    ∷ (codes "xcause", Xcause a) ∷
    (codes "xarg", Xarg a) ∷ (codes "xwho", Xwho a) ∷ []

-- two registers
unfoldable pub two_registers_rows : (a b : ℕ) → List FormRow
two_registers_rows a b =
    (codes "jalr", Jalr a b) ∷ (codes "mult", Mult a b) ∷ (codes "multu", Multu a b)
    ∷ (codes "div", Div a b) ∷
    (codes "divu", Divu a b) ∷ (codes "xmvfn", Xmvfn a b) ∷ (codes "xresume", Xresume a b)
    ∷ (codes "xunmap", Xunmap a b) ∷ []

-- three registers, a slot first
unfoldable pub slot_rows : (rs rt rd : ℕ) → List FormRow
slot_rows rs rt rd =
    (codes "xinstall", Xinstall rs rt rd) ∷ (codes "xsave", Xsave rs rt rd)
    ∷ (codes "xrestore", Xrestore rs rt rd) ∷ (codes "xmap", Xmap rs rt rd) ∷ []

-- three registers, the result first
unfoldable pub sum_rows : (rd rs rt : ℕ) → List FormRow
sum_rows rd rs rt =
    (codes "add", Add rd rs rt) ∷ (codes "addu", Addu rd rs rt) ∷ (codes "sub", Sub rd rs rt)
    ∷ (codes "subu", Subu rd rs rt) ∷
    (codes "and", And rd rs rt) ∷ (codes "or", Or rd rs rt) ∷ (codes "xor", Xor rd rs rt)
    ∷ (codes "nor", Nor rd rs rt) ∷
    (codes "slt", Slt rd rs rt) ∷ (codes "sltu", Sltu rd rs rt) ∷ slot_rows rd rs rt

-- three registers
unfoldable pub three_registers_rows : (a b c : ℕ) → List FormRow
three_registers_rows a b c =
    (codes "sllv", Sllv a b c) ∷ (codes "srlv", Srlv a b c) ∷ (codes "srav", Srav a b c)
    ∷ sum_rows a b c

-- two registers and a shift amount
unfoldable pub rows_of_shifts : (a b amount : ℕ) → List FormRow
rows_of_shifts a b amount =
    (codes "sll", Sll a b amount) ∷ (codes "srl", Srl a b amount) ∷ (codes "sra", Sra a b amount)
    ∷ []

-- two registers and an immediate with its sign
unfoldable pub signed_rows : (a b imm : ℕ) → List FormRow
signed_rows a b imm =
    (codes "addi", Addi a b imm) ∷ (codes "addiu", Addiu a b imm) ∷ (codes "slti", Slti a b imm)
    ∷ (codes "sltiu", Sltiu a b imm) ∷ []

-- two registers and an immediate without a sign
unfoldable pub unsigned_rows : (a b imm : ℕ) → List FormRow
unsigned_rows a b imm =
    (codes "andi", Andi a b imm) ∷ (codes "ori", Ori a b imm) ∷ (codes "xori", Xori a b imm) ∷ []

-- a register and an immediate without a sign
unfoldable pub upper_rows : (a imm : ℕ) → List FormRow
upper_rows a imm =
    (codes "lui", Lui a imm) ∷ []

-- a register, and an offset from a base register
unfoldable pub access_rows : (a imm base : ℕ) → List FormRow
access_rows a imm base =
    (codes "lb", Lb a imm base) ∷ (codes "lh", Lh a imm base) ∷ (codes "lwl", Lwl a imm base)
    ∷ (codes "lw", Lw a imm base) ∷
    (codes "lbu", Lbu a imm base) ∷ (codes "lhu", Lhu a imm base) ∷ (codes "lwr", Lwr a imm base)
    ∷ (codes "sb", Sb a imm base) ∷
    (codes "sh", Sh a imm base) ∷ (codes "swl", Swl a imm base) ∷ (codes "sw", Sw a imm base)
    ∷ (codes "swr", Swr a imm base) ∷
    (codes "xlwn", Xlwn a imm base) ∷ (codes "xswn", Xswn a imm base) ∷ []

-- two registers and a branch target
unfoldable pub compare_rows : (a b imm : ℕ) → List FormRow
compare_rows a b imm =
    (codes "beq", Beq a b imm) ∷ (codes "bne", Bne a b imm) ∷ []

-- a register and a branch target
unfoldable pub test_rows : (a imm : ℕ) → List FormRow
test_rows a imm =
    (codes "bltz", Bltz a imm) ∷ (codes "bgez", Bgez a imm) ∷ (codes "bltzal", Bltzal a imm)
    ∷ (codes "bgezal", Bgezal a imm) ∷
    (codes "blez", Blez a imm) ∷ (codes "bgtz", Bgtz a imm) ∷ []

-- a jump target
unfoldable pub jump_rows : (index : ℕ) → List FormRow
jump_rows index =
    (codes "j", J index) ∷ (codes "jal", Jal index) ∷ []

-- a code
unfoldable pub coded_rows : (code : ℕ) → List FormRow
coded_rows code =
    (codes "syscall", Syscall code) ∷ (codes "break", Break code) ∷ []

-- the rows whose instructions take these operands
unfoldable pub rows_with_operands : List Operand → List FormRow
rows_with_operands [] = plain_rows
rows_with_operands (Register a ∷ []) = register_rows a
rows_with_operands (Register a ∷ Register b ∷ []) = two_registers_rows a b
rows_with_operands (Register a ∷ Register b ∷ Register c ∷ []) = three_registers_rows a b c
rows_with_operands (Register a ∷ Register b ∷ Shift amount ∷ []) = rows_of_shifts a b amount
rows_with_operands (Register a ∷ Register b ∷ Signed imm ∷ []) = signed_rows a b imm
rows_with_operands (Register a ∷ Register b ∷ Unsigned imm ∷ []) = unsigned_rows a b imm
rows_with_operands (Register a ∷ Unsigned imm ∷ []) = upper_rows a imm
rows_with_operands (Register a ∷ Offset imm base ∷ []) = access_rows a imm base
rows_with_operands (Register a ∷ Register b ∷ Branch imm ∷ []) = compare_rows a b imm
rows_with_operands (Register a ∷ Branch imm ∷ []) = test_rows a imm
rows_with_operands (Jump index ∷ []) = jump_rows index
rows_with_operands (Code code ∷ []) = coded_rows code
rows_with_operands _ = []

-- the instruction with this mnemonic and these operands
abbrev pub build_of : List ℕ → List Operand → Option Ins
build_of name operands = in_rows name (rows_with_operands operands)

-- ---- Which operands a mnemonic takes

-- the operands that occur together
abbrev pub shapes : List (List OperandKind)
shapes =
    []
    ∷ (kinds.Register ∷ [])
    ∷ (kinds.Register ∷ kinds.Register ∷ [])
    ∷ (kinds.Register ∷ kinds.Register ∷ kinds.Register ∷ [])
    ∷ (kinds.Register ∷ kinds.Register ∷ kinds.Shift ∷ [])
    ∷ (kinds.Register ∷ kinds.Register ∷ kinds.Signed ∷ [])
    ∷ (kinds.Register ∷ kinds.Register ∷ kinds.Unsigned ∷ [])
    ∷ (kinds.Register ∷ kinds.Unsigned ∷ [])
    ∷ (kinds.Register ∷ kinds.Offset ∷ [])
    ∷ (kinds.Register ∷ kinds.Register ∷ kinds.Branch ∷ [])
    ∷ (kinds.Register ∷ kinds.Branch ∷ [])
    ∷ (kinds.Jump ∷ [])
    ∷ (kinds.Code ∷ [])
    ∷ []

-- an operand of a kind, all zeros
abbrev pub sample_of : OperandKind → Operand
sample_of kinds.Register = Register 0
sample_of kinds.Shift = Shift 0
sample_of kinds.Signed = Signed 0
sample_of kinds.Unsigned = Unsigned 0
sample_of kinds.Code = Code 0
sample_of kinds.Branch = Branch 0
sample_of kinds.Jump = Jump 0
sample_of kinds.Offset = Offset 0 0

-- whether an instruction with this mnemonic has operands of these kinds
abbrev pub takes : List ℕ → List OperandKind → Bool
takes name shape = is_some (build_of name (map sample_of shape))

-- the kinds of the operands of a mnemonic
unfoldable pub kinds_of : List ℕ → Option (List OperandKind)
kinds_of name = find (takes name) shapes
