-- Whether each operand of an instruction is in its range can be decided.
use Rattle.std.proofs.Common.{ℕ, ◌^◌, ◌<◌, ◌⊎◌, inl, inr, arith}
use Rattle.std.proofs.lemmas.Bool.{cases_lt}
use Rattle.mips_instruction.specs.Words.{Fits, IsMoved}
use Rattle.mips_instruction.specs.declared.instruction.Ins.{Ins}
use Rattle.mips_instruction.specs.declared.instruction.Ins.TheVariants.{Sll, Srl, Sra, Sllv, Srlv, Srav, Jr, Jalr, Syscall, Break, Mfhi, Mthi, Mflo, Mtlo, Mult, Multu, Div, Divu, Add, Addu, Sub, Subu, And, Or, Xor, Nor, Slt, Sltu, Bltz, Bgez, Bltzal, Bgezal, J, Jal, Beq, Bne, Blez, Bgtz, Addi, Addiu, Slti, Sltiu, Andi, Ori, Xori, Lui, Lb, Lh, Lwl, Lw, Lbu, Lhu, Lwr, Sb, Sh, Swl, Sw, Swr, Xlwn, Xswn, Xmvtn, Xmvfn, Xexit, Xhand, Xsigret, Xinstall, Xenter, Xresume, Xsave, Xrestore, Xmap, Xunmap, Xkill, Xout, Xhalt, Xstat, Xcause, Xarg, Xwho}

-- it holds, or it doesn't
abbrev pub Decided : Type 0 → Type 0
Decided P = P ⊎ (¬ P)

pub both : {P Q : Type 0} → Decided P → Decided Q → Decided (P × Q)
both (inl p) (inl q) = inl (p, q)
both (inl p) (inr q) = inr (λ h. q h.1)
both (inr p) q = inr (λ h. p h.0)

all_three : {P Q R : Type 0} → Decided P → Decided Q → Decided R → Decided (P × Q × R)
all_three (inl p) (inl q) (inl r) = inl (p, q, r)
all_three (inl p) (inl q) (inr r) = inr (λ h. r h.2)
all_three (inl p) (inr q) r = inr (λ h. q h.1)
all_three (inr p) q r = inr (λ h. p h.0)

below : (n bound : ℕ) → Decided (n < bound)
below n bound = elim (cases_lt n bound) [ inl is ↦ inl is | inr past ↦ inr (λ is. omega arith) ]

moved : (reg : ℕ) → Decided (IsMoved reg)
moved reg =
    both
    (elim (cases_lt 0 reg) [
      | inl some ↦ inl (omega arith)
      | inr none ↦ inr (λ some. omega arith)
    ])
    (below reg 32)

pub Fits-decided : (i : Ins) → Decided (Fits i)
Fits-decided (Sll rd rt sa) = all_three (below rd 32) (below rt 32) (below sa 32)
Fits-decided (Srl rd rt sa) = all_three (below rd 32) (below rt 32) (below sa 32)
Fits-decided (Sra rd rt sa) = all_three (below rd 32) (below rt 32) (below sa 32)
Fits-decided (Sllv rd rt rs) = all_three (below rd 32) (below rt 32) (below rs 32)
Fits-decided (Srlv rd rt rs) = all_three (below rd 32) (below rt 32) (below rs 32)
Fits-decided (Srav rd rt rs) = all_three (below rd 32) (below rt 32) (below rs 32)
Fits-decided (Jr rs) = below rs 32
Fits-decided (Jalr rd rs) = both (below rd 32) (below rs 32)
Fits-decided (Syscall code) = below code (2 ^ 20)
Fits-decided (Break code) = below code (2 ^ 20)
Fits-decided (Mfhi rd) = below rd 32
Fits-decided (Mthi rs) = below rs 32
Fits-decided (Mflo rd) = below rd 32
Fits-decided (Mtlo rs) = below rs 32
Fits-decided (Mult rs rt) = both (below rs 32) (below rt 32)
Fits-decided (Multu rs rt) = both (below rs 32) (below rt 32)
Fits-decided (Div rs rt) = both (below rs 32) (below rt 32)
Fits-decided (Divu rs rt) = both (below rs 32) (below rt 32)
Fits-decided (Add rd rs rt) = all_three (below rd 32) (below rs 32) (below rt 32)
Fits-decided (Addu rd rs rt) = all_three (below rd 32) (below rs 32) (below rt 32)
Fits-decided (Sub rd rs rt) = all_three (below rd 32) (below rs 32) (below rt 32)
Fits-decided (Subu rd rs rt) = all_three (below rd 32) (below rs 32) (below rt 32)
Fits-decided (And rd rs rt) = all_three (below rd 32) (below rs 32) (below rt 32)
Fits-decided (Or rd rs rt) = all_three (below rd 32) (below rs 32) (below rt 32)
Fits-decided (Xor rd rs rt) = all_three (below rd 32) (below rs 32) (below rt 32)
Fits-decided (Nor rd rs rt) = all_three (below rd 32) (below rs 32) (below rt 32)
Fits-decided (Slt rd rs rt) = all_three (below rd 32) (below rs 32) (below rt 32)
Fits-decided (Sltu rd rs rt) = all_three (below rd 32) (below rs 32) (below rt 32)
Fits-decided (Bltz rs imm) = both (below rs 32) (below imm (2 ^ 16))
Fits-decided (Bgez rs imm) = both (below rs 32) (below imm (2 ^ 16))
Fits-decided (Bltzal rs imm) = both (below rs 32) (below imm (2 ^ 16))
Fits-decided (Bgezal rs imm) = both (below rs 32) (below imm (2 ^ 16))
Fits-decided (J index) = below index (2 ^ 26)
Fits-decided (Jal index) = below index (2 ^ 26)
Fits-decided (Beq rs rt imm) = all_three (below rs 32) (below rt 32) (below imm (2 ^ 16))
Fits-decided (Bne rs rt imm) = all_three (below rs 32) (below rt 32) (below imm (2 ^ 16))
Fits-decided (Blez rs imm) = both (below rs 32) (below imm (2 ^ 16))
Fits-decided (Bgtz rs imm) = both (below rs 32) (below imm (2 ^ 16))
Fits-decided (Addi rt rs imm) = all_three (below rt 32) (below rs 32) (below imm (2 ^ 16))
Fits-decided (Addiu rt rs imm) = all_three (below rt 32) (below rs 32) (below imm (2 ^ 16))
Fits-decided (Slti rt rs imm) = all_three (below rt 32) (below rs 32) (below imm (2 ^ 16))
Fits-decided (Sltiu rt rs imm) = all_three (below rt 32) (below rs 32) (below imm (2 ^ 16))
Fits-decided (Andi rt rs imm) = all_three (below rt 32) (below rs 32) (below imm (2 ^ 16))
Fits-decided (Ori rt rs imm) = all_three (below rt 32) (below rs 32) (below imm (2 ^ 16))
Fits-decided (Xori rt rs imm) = all_three (below rt 32) (below rs 32) (below imm (2 ^ 16))
Fits-decided (Lui rt imm) = both (below rt 32) (below imm (2 ^ 16))
Fits-decided (Lb rt imm rs) = all_three (below rt 32) (below imm (2 ^ 16)) (below rs 32)
Fits-decided (Lh rt imm rs) = all_three (below rt 32) (below imm (2 ^ 16)) (below rs 32)
Fits-decided (Lwl rt imm rs) = all_three (below rt 32) (below imm (2 ^ 16)) (below rs 32)
Fits-decided (Lw rt imm rs) = all_three (below rt 32) (below imm (2 ^ 16)) (below rs 32)
Fits-decided (Lbu rt imm rs) = all_three (below rt 32) (below imm (2 ^ 16)) (below rs 32)
Fits-decided (Lhu rt imm rs) = all_three (below rt 32) (below imm (2 ^ 16)) (below rs 32)
Fits-decided (Lwr rt imm rs) = all_three (below rt 32) (below imm (2 ^ 16)) (below rs 32)
Fits-decided (Sb rt imm rs) = all_three (below rt 32) (below imm (2 ^ 16)) (below rs 32)
Fits-decided (Sh rt imm rs) = all_three (below rt 32) (below imm (2 ^ 16)) (below rs 32)
Fits-decided (Swl rt imm rs) = all_three (below rt 32) (below imm (2 ^ 16)) (below rs 32)
Fits-decided (Sw rt imm rs) = all_three (below rt 32) (below imm (2 ^ 16)) (below rs 32)
Fits-decided (Swr rt imm rs) = all_three (below rt 32) (below imm (2 ^ 16)) (below rs 32)
Fits-decided (Xlwn rt imm rs) = all_three (below rt 32) (below imm (2 ^ 16)) (below rs 32)
Fits-decided (Xswn rt imm rs) = all_three (below rt 32) (below imm (2 ^ 16)) (below rs 32)
Fits-decided (Xmvtn rs) = moved rs
Fits-decided (Xmvfn rd rs) = both (moved rd) (moved rs)
Fits-decided Xexit = inl tt
Fits-decided (Xhand rs) = below rs 32
Fits-decided Xsigret = inl tt
Fits-decided (Xinstall rs rt rd) = all_three (below rs 32) (below rt 32) (below rd 32)
Fits-decided (Xenter rs) = below rs 32
Fits-decided (Xresume rs rt) = both (below rs 32) (below rt 32)
Fits-decided (Xsave rs rt rd) = all_three (below rs 32) (below rt 32) (below rd 32)
Fits-decided (Xrestore rs rt rd) = all_three (below rs 32) (below rt 32) (below rd 32)
Fits-decided (Xmap rs rt rd) = all_three (below rs 32) (below rt 32) (below rd 32)
Fits-decided (Xunmap rs rt) = both (below rs 32) (below rt 32)
Fits-decided (Xkill rs) = below rs 32
Fits-decided (Xout rs) = below rs 32
Fits-decided Xhalt = inl tt
Fits-decided (Xstat rd) = below rd 32
Fits-decided (Xcause rd) = below rd 32
Fits-decided (Xarg rd) = below rd 32
Fits-decided (Xwho rd) = below rd 32
