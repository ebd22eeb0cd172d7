-- The word grammar: which number is the word of which instruction.
-- Source: Kane and Heinrich, MIPS RISC Architecture, appendix A (MIPS I); the forms of COP2, xlwn
-- and xswn are this project's own.
use Rattle.std.specs.Prelude.{◌≡◌, ℕ, ◌+◌, ◌*◌, ◌/◌, ◌%◌, ◌^◌, ◌<◌, ◌≤◌, ◌==◌, ◌&&◌, not, Bool, Option, Some, None, if◌then◌else◌}
use Rattle.mips_instruction.specs.declared.instruction.Ins.{Ins}
use Rattle.mips_instruction.specs.declared.instruction.Ins.TheVariants.{Sll, Srl, Sra, Sllv, Srlv, Srav, Jr, Jalr, Syscall, Break, Mfhi, Mthi, Mflo, Mtlo, Mult, Multu, Div, Divu, Add, Addu, Sub, Subu, And, Or, Xor, Nor, Slt, Sltu, Bltz, Bgez, Bltzal, Bgezal, J, Jal, Beq, Bne, Blez, Bgtz, Addi, Addiu, Slti, Sltiu, Andi, Ori, Xori, Lui, Lb, Lh, Lwl, Lw, Lbu, Lhu, Lwr, Sb, Sh, Swl, Sw, Swr, Xlwn, Xswn, Xmvtn, Xmvfn, Xexit, Xhand, Xsigret, Xinstall, Xenter, Xresume, Xsave, Xrestore, Xmap, Xunmap, Xkill, Xout, Xhalt, Xstat, Xcause, Xarg, Xwho}

-- a word of three registers: op in bits 31 to 26, rs 25 to 21, rt 20 to 16, rd 15 to 11, sa 10 to
-- 6, function 5 to 0
abbrev pub r_word : (op rs rt rd sa function : ℕ) → ℕ
r_word op rs rt rd sa function =
    op * 2 ^ 26 + rs * 2 ^ 21 + rt * 2 ^ 16 + rd * 2 ^ 11 + sa * 2 ^ 6 + function

-- a word with an immediate in bits 15 to 0
abbrev pub i_word : (op rs rt imm : ℕ) → ℕ
i_word op rs rt imm = op * 2 ^ 26 + rs * 2 ^ 21 + rt * 2 ^ 16 + imm

-- a word with an index in bits 25 to 0
abbrev pub j_word : (op index : ℕ) → ℕ
j_word op index = op * 2 ^ 26 + index

-- a word of SPECIAL with a code in bits 25 to 6
abbrev pub c_word : (code function : ℕ) → ℕ
c_word code function = code * 2 ^ 6 + function

-- the word of each instruction; a field that its row doesn't name is zero
abbrev pub word_of : Ins → ℕ
-- SPECIAL, by function
word_of (Sll rd rt sa) = r_word 0 0 rt rd sa 0
word_of (Srl rd rt sa) = r_word 0 0 rt rd sa 2
word_of (Sra rd rt sa) = r_word 0 0 rt rd sa 3
word_of (Sllv rd rt rs) = r_word 0 rs rt rd 0 4
word_of (Srlv rd rt rs) = r_word 0 rs rt rd 0 6
word_of (Srav rd rt rs) = r_word 0 rs rt rd 0 7
word_of (Jr rs) = r_word 0 rs 0 0 0 8
word_of (Jalr rd rs) = r_word 0 rs 0 rd 0 9
word_of (Syscall code) = c_word code 12
word_of (Break code) = c_word code 13
word_of (Mfhi rd) = r_word 0 0 0 rd 0 16
word_of (Mthi rs) = r_word 0 rs 0 0 0 17
word_of (Mflo rd) = r_word 0 0 0 rd 0 18
word_of (Mtlo rs) = r_word 0 rs 0 0 0 19
word_of (Mult rs rt) = r_word 0 rs rt 0 0 24
word_of (Multu rs rt) = r_word 0 rs rt 0 0 25
word_of (Div rs rt) = r_word 0 rs rt 0 0 26
word_of (Divu rs rt) = r_word 0 rs rt 0 0 27
word_of (Add rd rs rt) = r_word 0 rs rt rd 0 32
word_of (Addu rd rs rt) = r_word 0 rs rt rd 0 33
word_of (Sub rd rs rt) = r_word 0 rs rt rd 0 34
word_of (Subu rd rs rt) = r_word 0 rs rt rd 0 35
word_of (And rd rs rt) = r_word 0 rs rt rd 0 36
word_of (Or rd rs rt) = r_word 0 rs rt rd 0 37
word_of (Xor rd rs rt) = r_word 0 rs rt rd 0 38
word_of (Nor rd rs rt) = r_word 0 rs rt rd 0 39
word_of (Slt rd rs rt) = r_word 0 rs rt rd 0 42
word_of (Sltu rd rs rt) = r_word 0 rs rt rd 0 43
-- REGIMM, by rt
word_of (Bltz rs imm) = i_word 1 rs 0 imm
word_of (Bgez rs imm) = i_word 1 rs 1 imm
word_of (Bltzal rs imm) = i_word 1 rs 16 imm
word_of (Bgezal rs imm) = i_word 1 rs 17 imm
-- jumps, branches, immediates, loads and stores, by op
word_of (J index) = j_word 2 index
word_of (Jal index) = j_word 3 index
word_of (Beq rs rt imm) = i_word 4 rs rt imm
word_of (Bne rs rt imm) = i_word 5 rs rt imm
word_of (Blez rs imm) = i_word 6 rs 0 imm
word_of (Bgtz rs imm) = i_word 7 rs 0 imm
word_of (Addi rt rs imm) = i_word 8 rs rt imm
word_of (Addiu rt rs imm) = i_word 9 rs rt imm
word_of (Slti rt rs imm) = i_word 10 rs rt imm
word_of (Sltiu rt rs imm) = i_word 11 rs rt imm
word_of (Andi rt rs imm) = i_word 12 rs rt imm
word_of (Ori rt rs imm) = i_word 13 rs rt imm
word_of (Xori rt rs imm) = i_word 14 rs rt imm
word_of (Lui rt imm) = i_word 15 0 rt imm
word_of (Lb rt imm rs) = i_word 32 rs rt imm
word_of (Lh rt imm rs) = i_word 33 rs rt imm
word_of (Lwl rt imm rs) = i_word 34 rs rt imm
word_of (Lw rt imm rs) = i_word 35 rs rt imm
word_of (Lbu rt imm rs) = i_word 36 rs rt imm
word_of (Lhu rt imm rs) = i_word 37 rs rt imm
word_of (Lwr rt imm rs) = i_word 38 rs rt imm
word_of (Sb rt imm rs) = i_word 40 rs rt imm
word_of (Sh rt imm rs) = i_word 41 rs rt imm
word_of (Swl rt imm rs) = i_word 42 rs rt imm
word_of (Sw rt imm rs) = i_word 43 rs rt imm
word_of (Swr rt imm rs) = i_word 46 rs rt imm
word_of (Xlwn rt imm rs) = i_word 50 rs rt imm
word_of (Xswn rt imm rs) = i_word 58 rs rt imm
-- COP2, by function
word_of (Xmvtn rs) = r_word 18 rs 0 0 0 1
word_of (Xmvfn rd rs) = r_word 18 rs 0 rd 0 2
word_of Xexit = r_word 18 0 0 0 0 3
word_of (Xhand rs) = r_word 18 rs 0 0 0 4
word_of Xsigret = r_word 18 0 0 0 0 5
word_of (Xinstall rs rt rd) = r_word 18 rs rt rd 0 16
word_of (Xenter rs) = r_word 18 rs 0 0 0 17
word_of (Xresume rs rt) = r_word 18 rs rt 0 0 18
word_of (Xsave rs rt rd) = r_word 18 rs rt rd 0 19
word_of (Xrestore rs rt rd) = r_word 18 rs rt rd 0 20
word_of (Xmap rs rt rd) = r_word 18 rs rt rd 0 21
word_of (Xunmap rs rt) = r_word 18 rs rt 0 0 22
word_of (Xkill rs) = r_word 18 rs 0 0 0 24
word_of (Xout rs) = r_word 18 rs 0 0 0 25
word_of Xhalt = r_word 18 0 0 0 0 26
word_of (Xstat rd) = r_word 18 0 0 rd 0 27
word_of (Xcause rd) = r_word 18 0 0 rd 0 28
word_of (Xarg rd) = r_word 18 0 0 rd 0 29
word_of (Xwho rd) = r_word 18 0 0 rd 0 30

-- a register that may be moved over the compartment's border: any but $0
abbrev pub IsMoved : ℕ → Type 0
IsMoved reg = (1 ≤ reg) × (reg < 32)

-- each operand is in its range
abbrev pub Fits : Ins → Type 0
Fits (Sll rd rt sa) = (rd < 32) × (rt < 32) × (sa < 32)
Fits (Srl rd rt sa) = (rd < 32) × (rt < 32) × (sa < 32)
Fits (Sra rd rt sa) = (rd < 32) × (rt < 32) × (sa < 32)
Fits (Sllv rd rt rs) = (rd < 32) × (rt < 32) × (rs < 32)
Fits (Srlv rd rt rs) = (rd < 32) × (rt < 32) × (rs < 32)
Fits (Srav rd rt rs) = (rd < 32) × (rt < 32) × (rs < 32)
Fits (Jr rs) = rs < 32
Fits (Jalr rd rs) = (rd < 32) × (rs < 32)
Fits (Syscall code) = code < 2 ^ 20
Fits (Break code) = code < 2 ^ 20
Fits (Mfhi rd) = rd < 32
Fits (Mthi rs) = rs < 32
Fits (Mflo rd) = rd < 32
Fits (Mtlo rs) = rs < 32
Fits (Mult rs rt) = (rs < 32) × (rt < 32)
Fits (Multu rs rt) = (rs < 32) × (rt < 32)
Fits (Div rs rt) = (rs < 32) × (rt < 32)
Fits (Divu rs rt) = (rs < 32) × (rt < 32)
Fits (Add rd rs rt) = (rd < 32) × (rs < 32) × (rt < 32)
Fits (Addu rd rs rt) = (rd < 32) × (rs < 32) × (rt < 32)
Fits (Sub rd rs rt) = (rd < 32) × (rs < 32) × (rt < 32)
Fits (Subu rd rs rt) = (rd < 32) × (rs < 32) × (rt < 32)
Fits (And rd rs rt) = (rd < 32) × (rs < 32) × (rt < 32)
Fits (Or rd rs rt) = (rd < 32) × (rs < 32) × (rt < 32)
Fits (Xor rd rs rt) = (rd < 32) × (rs < 32) × (rt < 32)
Fits (Nor rd rs rt) = (rd < 32) × (rs < 32) × (rt < 32)
Fits (Slt rd rs rt) = (rd < 32) × (rs < 32) × (rt < 32)
Fits (Sltu rd rs rt) = (rd < 32) × (rs < 32) × (rt < 32)
Fits (Bltz rs imm) = (rs < 32) × (imm < 2 ^ 16)
Fits (Bgez rs imm) = (rs < 32) × (imm < 2 ^ 16)
Fits (Bltzal rs imm) = (rs < 32) × (imm < 2 ^ 16)
Fits (Bgezal rs imm) = (rs < 32) × (imm < 2 ^ 16)
Fits (J index) = index < 2 ^ 26
Fits (Jal index) = index < 2 ^ 26
Fits (Beq rs rt imm) = (rs < 32) × (rt < 32) × (imm < 2 ^ 16)
Fits (Bne rs rt imm) = (rs < 32) × (rt < 32) × (imm < 2 ^ 16)
Fits (Blez rs imm) = (rs < 32) × (imm < 2 ^ 16)
Fits (Bgtz rs imm) = (rs < 32) × (imm < 2 ^ 16)
Fits (Addi rt rs imm) = (rt < 32) × (rs < 32) × (imm < 2 ^ 16)
Fits (Addiu rt rs imm) = (rt < 32) × (rs < 32) × (imm < 2 ^ 16)
Fits (Slti rt rs imm) = (rt < 32) × (rs < 32) × (imm < 2 ^ 16)
Fits (Sltiu rt rs imm) = (rt < 32) × (rs < 32) × (imm < 2 ^ 16)
Fits (Andi rt rs imm) = (rt < 32) × (rs < 32) × (imm < 2 ^ 16)
Fits (Ori rt rs imm) = (rt < 32) × (rs < 32) × (imm < 2 ^ 16)
Fits (Xori rt rs imm) = (rt < 32) × (rs < 32) × (imm < 2 ^ 16)
Fits (Lui rt imm) = (rt < 32) × (imm < 2 ^ 16)
Fits (Lb rt imm rs) = (rt < 32) × (imm < 2 ^ 16) × (rs < 32)
Fits (Lh rt imm rs) = (rt < 32) × (imm < 2 ^ 16) × (rs < 32)
Fits (Lwl rt imm rs) = (rt < 32) × (imm < 2 ^ 16) × (rs < 32)
Fits (Lw rt imm rs) = (rt < 32) × (imm < 2 ^ 16) × (rs < 32)
Fits (Lbu rt imm rs) = (rt < 32) × (imm < 2 ^ 16) × (rs < 32)
Fits (Lhu rt imm rs) = (rt < 32) × (imm < 2 ^ 16) × (rs < 32)
Fits (Lwr rt imm rs) = (rt < 32) × (imm < 2 ^ 16) × (rs < 32)
Fits (Sb rt imm rs) = (rt < 32) × (imm < 2 ^ 16) × (rs < 32)
Fits (Sh rt imm rs) = (rt < 32) × (imm < 2 ^ 16) × (rs < 32)
Fits (Swl rt imm rs) = (rt < 32) × (imm < 2 ^ 16) × (rs < 32)
Fits (Sw rt imm rs) = (rt < 32) × (imm < 2 ^ 16) × (rs < 32)
Fits (Swr rt imm rs) = (rt < 32) × (imm < 2 ^ 16) × (rs < 32)
Fits (Xlwn rt imm rs) = (rt < 32) × (imm < 2 ^ 16) × (rs < 32)
Fits (Xswn rt imm rs) = (rt < 32) × (imm < 2 ^ 16) × (rs < 32)
Fits (Xmvtn rs) = IsMoved rs
Fits (Xmvfn rd rs) = IsMoved rd × IsMoved rs
Fits Xexit = Unit {0}
Fits (Xhand rs) = rs < 32
Fits Xsigret = Unit {0}
Fits (Xinstall rs rt rd) = (rs < 32) × (rt < 32) × (rd < 32)
Fits (Xenter rs) = rs < 32
Fits (Xresume rs rt) = (rs < 32) × (rt < 32)
Fits (Xsave rs rt rd) = (rs < 32) × (rt < 32) × (rd < 32)
Fits (Xrestore rs rt rd) = (rs < 32) × (rt < 32) × (rd < 32)
Fits (Xmap rs rt rd) = (rs < 32) × (rt < 32) × (rd < 32)
Fits (Xunmap rs rt) = (rs < 32) × (rt < 32)
Fits (Xkill rs) = rs < 32
Fits (Xout rs) = rs < 32
Fits Xhalt = Unit {0}
Fits (Xstat rd) = rd < 32
Fits (Xcause rd) = rd < 32
Fits (Xarg rd) = rd < 32
Fits (Xwho rd) = rd < 32

-- the instruction has this word
pub record Word (i : Ins) (w : ℕ) : Type 0 where
  pub fits : Fits i
  pub word : w ≡ word_of i

-- no instruction has this word
abbrev pub IsReserved : ℕ → Type 0
IsReserved w = (i : Ins) → ¬ Word i w

-- bits 31 to 26: the operation
abbrev pub op_of : ℕ → ℕ
op_of w = w / 2 ^ 26

-- bits 25 to 21: rs
abbrev pub rs_of : ℕ → ℕ
rs_of w = w / 2 ^ 21 % 2 ^ 5

-- bits 20 to 16: rt
abbrev pub rt_of : ℕ → ℕ
rt_of w = w / 2 ^ 16 % 2 ^ 5

-- bits 15 to 11: rd
abbrev pub rd_of : ℕ → ℕ
rd_of w = w / 2 ^ 11 % 2 ^ 5

-- bits 10 to 6: the amount of a shift
abbrev pub sa_of : ℕ → ℕ
sa_of w = w / 2 ^ 6 % 2 ^ 5

-- bits 5 to 0: the function
abbrev pub function_of : ℕ → ℕ
function_of w = w % 2 ^ 6

-- bits 15 to 0: the immediate
abbrev pub imm_of : ℕ → ℕ
imm_of w = w % 2 ^ 16

-- bits 25 to 6: the code of `syscall` and `break`
abbrev pub code_field : ℕ → ℕ
code_field w = w / 2 ^ 6 % 2 ^ 20

-- bits 25 to 0: the index of a jump
abbrev pub index_field : ℕ → ℕ
index_field w = w % 2 ^ 26

-- a row of the table, where the fields that it doesn't name are zero
abbrev pub row_if_clear : Bool → Ins → Option Ins
row_if_clear clear i = if clear then Some i else None

-- SPECIAL, by function
unfoldable pub special_of : (rs rt rd sa function code : ℕ) → Option Ins
special_of rs rt rd sa function code =
    if function == 0 then row_if_clear (rs == 0) (Sll rd rt sa)
    else (if function == 2 then row_if_clear (rs == 0) (Srl rd rt sa)
    else (if function == 3 then row_if_clear (rs == 0) (Sra rd rt sa)
    else (if function == 4 then row_if_clear (sa == 0) (Sllv rd rt rs)
    else (if function == 6 then row_if_clear (sa == 0) (Srlv rd rt rs)
    else (if function == 7 then row_if_clear (sa == 0) (Srav rd rt rs)
    else (if function == 8 then row_if_clear (rt == 0 && (rd == 0 && sa == 0)) (Jr rs)
    else (if function == 9 then row_if_clear (rt == 0 && sa == 0) (Jalr rd rs)
    else (if function == 12 then Some (Syscall code)
    else (if function == 13 then Some (Break code)
    else (if function == 16 then row_if_clear (rs == 0 && (rt == 0 && sa == 0)) (Mfhi rd)
    else (if function == 17 then row_if_clear (rt == 0 && (rd == 0 && sa == 0)) (Mthi rs)
    else (if function == 18 then row_if_clear (rs == 0 && (rt == 0 && sa == 0)) (Mflo rd)
    else (if function == 19 then row_if_clear (rt == 0 && (rd == 0 && sa == 0)) (Mtlo rs)
    else (if function == 24 then row_if_clear (rd == 0 && sa == 0) (Mult rs rt)
    else (if function == 25 then row_if_clear (rd == 0 && sa == 0) (Multu rs rt)
    else (if function == 26 then row_if_clear (rd == 0 && sa == 0) (Div rs rt)
    else (if function == 27 then row_if_clear (rd == 0 && sa == 0) (Divu rs rt)
    else (if function == 32 then row_if_clear (sa == 0) (Add rd rs rt)
    else (if function == 33 then row_if_clear (sa == 0) (Addu rd rs rt)
    else (if function == 34 then row_if_clear (sa == 0) (Sub rd rs rt)
    else (if function == 35 then row_if_clear (sa == 0) (Subu rd rs rt)
    else (if function == 36 then row_if_clear (sa == 0) (And rd rs rt)
    else (if function == 37 then row_if_clear (sa == 0) (Or rd rs rt)
    else (if function == 38 then row_if_clear (sa == 0) (Xor rd rs rt)
    else (if function == 39 then row_if_clear (sa == 0) (Nor rd rs rt)
    else (if function == 42 then row_if_clear (sa == 0) (Slt rd rs rt)
    else (if function == 43 then row_if_clear (sa == 0) (Sltu rd rs rt)
    else None)))))))))))))))))))))))))))

-- REGIMM, by rt
unfoldable pub branch_of : (rs rt imm : ℕ) → Option Ins
branch_of rs rt imm =
    if rt == 0 then Some (Bltz rs imm)
    else (if rt == 1 then Some (Bgez rs imm)
    else (if rt == 16 then Some (Bltzal rs imm)
    else (if rt == 17 then Some (Bgezal rs imm)
    else None)))

-- COP2, by function
unfoldable pub compartment_of : (rs rt rd sa function : ℕ) → Option Ins
compartment_of rs rt rd sa function =
    if function == 1 then row_if_clear (not (rs == 0) && (rt == 0 && (rd == 0 && sa == 0))) (Xmvtn rs)
    else (if function == 2 then row_if_clear (not (rd == 0) && (not (rs == 0) && (rt == 0 && sa == 0)))
    (Xmvfn rd rs)
    else (if function == 3 then row_if_clear (rs == 0 && (rt == 0 && (rd == 0 && sa == 0))) Xexit
    else (if function == 4 then row_if_clear (rt == 0 && (rd == 0 && sa == 0)) (Xhand rs)
    else (if function == 5 then row_if_clear (rs == 0 && (rt == 0 && (rd == 0 && sa == 0))) Xsigret
    else (if function == 16 then row_if_clear (sa == 0) (Xinstall rs rt rd)
    else (if function == 17 then row_if_clear (rt == 0 && (rd == 0 && sa == 0)) (Xenter rs)
    else (if function == 18 then row_if_clear (rd == 0 && sa == 0) (Xresume rs rt)
    else (if function == 19 then row_if_clear (sa == 0) (Xsave rs rt rd)
    else (if function == 20 then row_if_clear (sa == 0) (Xrestore rs rt rd)
    else (if function == 21 then row_if_clear (sa == 0) (Xmap rs rt rd)
    else (if function == 22 then row_if_clear (rd == 0 && sa == 0) (Xunmap rs rt)
    else (if function == 24 then row_if_clear (rt == 0 && (rd == 0 && sa == 0)) (Xkill rs)
    else (if function == 25 then row_if_clear (rt == 0 && (rd == 0 && sa == 0)) (Xout rs)
    else (if function == 26 then row_if_clear (rs == 0 && (rt == 0 && (rd == 0 && sa == 0))) Xhalt
    else (if function == 27 then row_if_clear (rs == 0 && (rt == 0 && sa == 0)) (Xstat rd)
    else (if function == 28 then row_if_clear (rs == 0 && (rt == 0 && sa == 0)) (Xcause rd)
    else (if function == 29 then row_if_clear (rs == 0 && (rt == 0 && sa == 0)) (Xarg rd)
    else (if function == 30 then row_if_clear (rs == 0 && (rt == 0 && sa == 0)) (Xwho rd)
    else None))))))))))))))))))

-- the words with an immediate, by op
unfoldable pub immediate_of : (op rs rt imm : ℕ) → Option Ins
immediate_of op rs rt imm =
    if op == 4 then Some (Beq rs rt imm)
    else (if op == 5 then Some (Bne rs rt imm)
    else (if op == 6 then row_if_clear (rt == 0) (Blez rs imm)
    else (if op == 7 then row_if_clear (rt == 0) (Bgtz rs imm)
    else (if op == 8 then Some (Addi rt rs imm)
    else (if op == 9 then Some (Addiu rt rs imm)
    else (if op == 10 then Some (Slti rt rs imm)
    else (if op == 11 then Some (Sltiu rt rs imm)
    else (if op == 12 then Some (Andi rt rs imm)
    else (if op == 13 then Some (Ori rt rs imm)
    else (if op == 14 then Some (Xori rt rs imm)
    else (if op == 15 then row_if_clear (rs == 0) (Lui rt imm)
    else (if op == 32 then Some (Lb rt imm rs)
    else (if op == 33 then Some (Lh rt imm rs)
    else (if op == 34 then Some (Lwl rt imm rs)
    else (if op == 35 then Some (Lw rt imm rs)
    else (if op == 36 then Some (Lbu rt imm rs)
    else (if op == 37 then Some (Lhu rt imm rs)
    else (if op == 38 then Some (Lwr rt imm rs)
    else (if op == 40 then Some (Sb rt imm rs)
    else (if op == 41 then Some (Sh rt imm rs)
    else (if op == 42 then Some (Swl rt imm rs)
    else (if op == 43 then Some (Sw rt imm rs)
    else (if op == 46 then Some (Swr rt imm rs)
    else (if op == 50 then Some (Xlwn rt imm rs)
    else (if op == 58 then Some (Xswn rt imm rs)
    else None)))))))))))))))))))))))))

-- the grammar as a reading, field by field: the instruction of a word, or none
unfoldable pub instruction_of_word : ℕ → Option Ins
instruction_of_word w =
    if op_of w == 0 then special_of (rs_of w) (rt_of w) (rd_of w) (sa_of w) (function_of w)
    (code_field w)
    else (if op_of w == 1 then branch_of (rs_of w) (rt_of w) (imm_of w)
    else (if op_of w == 2 then Some (J (index_field w))
    else (if op_of w == 3 then Some (Jal (index_field w))
    else (if op_of w == 18 then compartment_of (rs_of w) (rt_of w) (rd_of w) (sa_of w)
    (function_of w)
    else immediate_of (op_of w) (rs_of w) (rt_of w) (imm_of w)))))
