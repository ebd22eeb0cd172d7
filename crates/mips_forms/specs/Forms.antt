-- The text form of each instruction: its mnemonic, and its operands in the order of the text.
-- Source: Kane and Heinrich, MIPS RISC Architecture, appendix A (MIPS I); the forms of COP2, xlwn
-- and xswn are this project's own.
use Rattle.std.specs.Prelude.{◌≡◌, ◌≢◌, ℕ, ◌^◌, ◌<◌, List, [], ◌∷◌, map, codes}
use Rattle.mips_instruction.specs.declared.instruction.Ins.{Ins}
use Rattle.mips_instruction.specs.declared.instruction.Ins.TheVariants.{Sll, Srl, Sra, Sllv, Srlv, Srav, Jr, Jalr, Syscall, Break, Mfhi, Mthi, Mflo, Mtlo, Mult, Multu, Div, Divu, Add, Addu, Sub, Subu, And, Or, Xor, Nor, Slt, Sltu, Bltz, Bgez, Bltzal, Bgezal, J, Jal, Beq, Bne, Blez, Bgtz, Addi, Addiu, Slti, Sltiu, Andi, Ori, Xori, Lui, Lb, Lh, Lwl, Lw, Lbu, Lhu, Lwr, Sb, Sh, Swl, Sw, Swr, Xlwn, Xswn, Xmvtn, Xmvfn, Xexit, Xhand, Xsigret, Xinstall, Xenter, Xresume, Xsave, Xrestore, Xmap, Xunmap, Xkill, Xout, Xhalt, Xstat, Xcause, Xarg, Xwho}
use Rattle.mips_forms.specs.declared.operand.Operand.{Operand}
use Rattle.mips_forms.specs.declared.operand.Operand.TheVariants.{Register, Shift, Signed, Unsigned, Code, Branch, Jump, Offset}
use Rattle.mips_forms.specs.declared.operand.OperandKind.{OperandKind}
use Rattle.mips_forms.specs.declared.operand.OperandKind.TheVariants as kinds
use Rattle.mips_forms.specs.declared.operand.Operands.{Operands}
use Rattle.mips_forms.specs.declared.operand.Operands.TheVariants.{Empty, One, Two, Three}

-- the mnemonic and the operands of each instruction
abbrev pub form_of : Ins → List ℕ × List Operand
-- SPECIAL
form_of (Sll rd rt sa) = (codes "sll", Register rd ∷ Register rt ∷ Shift sa ∷ [])
form_of (Srl rd rt sa) = (codes "srl", Register rd ∷ Register rt ∷ Shift sa ∷ [])
form_of (Sra rd rt sa) = (codes "sra", Register rd ∷ Register rt ∷ Shift sa ∷ [])
form_of (Sllv rd rt rs) = (codes "sllv", Register rd ∷ Register rt ∷ Register rs ∷ [])
form_of (Srlv rd rt rs) = (codes "srlv", Register rd ∷ Register rt ∷ Register rs ∷ [])
form_of (Srav rd rt rs) = (codes "srav", Register rd ∷ Register rt ∷ Register rs ∷ [])
form_of (Jr rs) = (codes "jr", Register rs ∷ [])
form_of (Jalr rd rs) = (codes "jalr", Register rd ∷ Register rs ∷ [])
form_of (Syscall code) = (codes "syscall", Code code ∷ [])
form_of (Break code) = (codes "break", Code code ∷ [])
form_of (Mfhi rd) = (codes "mfhi", Register rd ∷ [])
form_of (Mthi rs) = (codes "mthi", Register rs ∷ [])
form_of (Mflo rd) = (codes "mflo", Register rd ∷ [])
form_of (Mtlo rs) = (codes "mtlo", Register rs ∷ [])
form_of (Mult rs rt) = (codes "mult", Register rs ∷ Register rt ∷ [])
form_of (Multu rs rt) = (codes "multu", Register rs ∷ Register rt ∷ [])
form_of (Div rs rt) = (codes "div", Register rs ∷ Register rt ∷ [])
form_of (Divu rs rt) = (codes "divu", Register rs ∷ Register rt ∷ [])
form_of (Add rd rs rt) = (codes "add", Register rd ∷ Register rs ∷ Register rt ∷ [])
form_of (Addu rd rs rt) = (codes "addu", Register rd ∷ Register rs ∷ Register rt ∷ [])
form_of (Sub rd rs rt) = (codes "sub", Register rd ∷ Register rs ∷ Register rt ∷ [])
form_of (Subu rd rs rt) = (codes "subu", Register rd ∷ Register rs ∷ Register rt ∷ [])
form_of (And rd rs rt) = (codes "and", Register rd ∷ Register rs ∷ Register rt ∷ [])
form_of (Or rd rs rt) = (codes "or", Register rd ∷ Register rs ∷ Register rt ∷ [])
form_of (Xor rd rs rt) = (codes "xor", Register rd ∷ Register rs ∷ Register rt ∷ [])
form_of (Nor rd rs rt) = (codes "nor", Register rd ∷ Register rs ∷ Register rt ∷ [])
form_of (Slt rd rs rt) = (codes "slt", Register rd ∷ Register rs ∷ Register rt ∷ [])
form_of (Sltu rd rs rt) = (codes "sltu", Register rd ∷ Register rs ∷ Register rt ∷ [])
-- REGIMM
form_of (Bltz rs imm) = (codes "bltz", Register rs ∷ Branch imm ∷ [])
form_of (Bgez rs imm) = (codes "bgez", Register rs ∷ Branch imm ∷ [])
form_of (Bltzal rs imm) = (codes "bltzal", Register rs ∷ Branch imm ∷ [])
form_of (Bgezal rs imm) = (codes "bgezal", Register rs ∷ Branch imm ∷ [])
-- jumps, branches, immediates, loads and stores
form_of (J index) = (codes "j", Jump index ∷ [])
form_of (Jal index) = (codes "jal", Jump index ∷ [])
form_of (Beq rs rt imm) = (codes "beq", Register rs ∷ Register rt ∷ Branch imm ∷ [])
form_of (Bne rs rt imm) = (codes "bne", Register rs ∷ Register rt ∷ Branch imm ∷ [])
form_of (Blez rs imm) = (codes "blez", Register rs ∷ Branch imm ∷ [])
form_of (Bgtz rs imm) = (codes "bgtz", Register rs ∷ Branch imm ∷ [])
form_of (Addi rt rs imm) = (codes "addi", Register rt ∷ Register rs ∷ Signed imm ∷ [])
form_of (Addiu rt rs imm) = (codes "addiu", Register rt ∷ Register rs ∷ Signed imm ∷ [])
form_of (Slti rt rs imm) = (codes "slti", Register rt ∷ Register rs ∷ Signed imm ∷ [])
form_of (Sltiu rt rs imm) = (codes "sltiu", Register rt ∷ Register rs ∷ Signed imm ∷ [])
form_of (Andi rt rs imm) = (codes "andi", Register rt ∷ Register rs ∷ Unsigned imm ∷ [])
form_of (Ori rt rs imm) = (codes "ori", Register rt ∷ Register rs ∷ Unsigned imm ∷ [])
form_of (Xori rt rs imm) = (codes "xori", Register rt ∷ Register rs ∷ Unsigned imm ∷ [])
form_of (Lui rt imm) = (codes "lui", Register rt ∷ Unsigned imm ∷ [])
form_of (Lb rt imm rs) = (codes "lb", Register rt ∷ Offset imm rs ∷ [])
form_of (Lh rt imm rs) = (codes "lh", Register rt ∷ Offset imm rs ∷ [])
form_of (Lwl rt imm rs) = (codes "lwl", Register rt ∷ Offset imm rs ∷ [])
form_of (Lw rt imm rs) = (codes "lw", Register rt ∷ Offset imm rs ∷ [])
form_of (Lbu rt imm rs) = (codes "lbu", Register rt ∷ Offset imm rs ∷ [])
form_of (Lhu rt imm rs) = (codes "lhu", Register rt ∷ Offset imm rs ∷ [])
form_of (Lwr rt imm rs) = (codes "lwr", Register rt ∷ Offset imm rs ∷ [])
form_of (Sb rt imm rs) = (codes "sb", Register rt ∷ Offset imm rs ∷ [])
form_of (Sh rt imm rs) = (codes "sh", Register rt ∷ Offset imm rs ∷ [])
form_of (Swl rt imm rs) = (codes "swl", Register rt ∷ Offset imm rs ∷ [])
form_of (Sw rt imm rs) = (codes "sw", Register rt ∷ Offset imm rs ∷ [])
form_of (Swr rt imm rs) = (codes "swr", Register rt ∷ Offset imm rs ∷ [])
form_of (Xlwn rt imm rs) = (codes "xlwn", Register rt ∷ Offset imm rs ∷ [])
form_of (Xswn rt imm rs) = (codes "xswn", Register rt ∷ Offset imm rs ∷ [])
-- COP2
form_of (Xmvtn rs) = (codes "xmvtn", Register rs ∷ [])
form_of (Xmvfn rd rs) = (codes "xmvfn", Register rd ∷ Register rs ∷ [])
form_of Xexit = (codes "xexit", [])
form_of (Xhand rs) = (codes "xhand", Register rs ∷ [])
form_of Xsigret = (codes "xsigret", [])
form_of (Xinstall rs rt rd) = (codes "xinstall", Register rs ∷ Register rt ∷ Register rd ∷ [])
form_of (Xenter rs) = (codes "xenter", Register rs ∷ [])
form_of (Xresume rs rt) = (codes "xresume", Register rs ∷ Register rt ∷ [])
form_of (Xsave rs rt rd) = (codes "xsave", Register rs ∷ Register rt ∷ Register rd ∷ [])
form_of (Xrestore rs rt rd) = (codes "xrestore", Register rs ∷ Register rt ∷ Register rd ∷ [])
form_of (Xmap rs rt rd) = (codes "xmap", Register rs ∷ Register rt ∷ Register rd ∷ [])
form_of (Xunmap rs rt) = (codes "xunmap", Register rs ∷ Register rt ∷ [])
form_of (Xkill rs) = (codes "xkill", Register rs ∷ [])
form_of (Xout rs) = (codes "xout", Register rs ∷ [])
form_of Xhalt = (codes "xhalt", [])
form_of (Xstat rd) = (codes "xstat", Register rd ∷ [])
form_of (Xcause rd) = (codes "xcause", Register rd ∷ [])
form_of (Xarg rd) = (codes "xarg", Register rd ∷ [])
form_of (Xwho rd) = (codes "xwho", Register rd ∷ [])

-- the kind of an operand
abbrev pub operand_kind_of : Operand → OperandKind
operand_kind_of (Register reg) = kinds.Register
operand_kind_of (Shift amount) = kinds.Shift
operand_kind_of (Signed imm) = kinds.Signed
operand_kind_of (Unsigned imm) = kinds.Unsigned
operand_kind_of (Code code) = kinds.Code
operand_kind_of (Branch imm) = kinds.Branch
operand_kind_of (Jump index) = kinds.Jump
operand_kind_of (Offset imm base) = kinds.Offset

-- the operand fits its field
abbrev pub InRange : Operand → Type 0
InRange (Register reg) = reg < 32
InRange (Shift amount) = amount < 32
InRange (Signed imm) = imm < 2 ^ 16
InRange (Unsigned imm) = imm < 2 ^ 16
InRange (Code code) = code < 2 ^ 20
InRange (Branch imm) = imm < 2 ^ 16
InRange (Jump index) = index < 2 ^ 26
InRange (Offset imm base) = (imm < 2 ^ 16) × (base < 32)

-- the base register of an offset, and 0 of any other operand
abbrev pub base_of : Operand → ℕ
base_of (Offset imm base) = base
base_of _ = 0

-- no instruction has this mnemonic
abbrev pub IsNoMnemonic : List ℕ → Type 0
IsNoMnemonic name = (i : Ins) → (form_of i).0 ≢ name

-- an instruction with this mnemonic has operands of these kinds
abbrev pub FormTakes : List ℕ → List OperandKind → Type 0
FormTakes name shape = (i : Ins) × ((form_of i).0 ≡ name) × (map operand_kind_of (form_of i).1 ≡ shape)

-- the operands as a list, in the order of the text
abbrev pub operand_list : Operands → List Operand
operand_list Empty = []
operand_list (One a) = a ∷ []
operand_list (Two a b) = a ∷ b ∷ []
operand_list (Three a b c) = a ∷ b ∷ c ∷ []
