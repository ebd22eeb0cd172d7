-- The reading of a word is the grammar, both ways.
use Rattle.std.proofs.Common.{◌≡◌, ℕ, ◌+◌, ◌^◌, ◌<◌, ◌≤◌, ◌==◌, ◌&&◌, not, Bool, true, false, Option, Some, None, IfSome, IsNone, cond, refl, sym, ◌∙◌, lit<, arith}
use Rattle.std.proofs.lemmas.Bool.{cond_both, eqb-true, eqb-false, and_parts, ne_eqb, not-true}
use Rattle.mips_instruction.specs.declared.instruction.Ins.{Ins}
use Rattle.mips_instruction.specs.declared.instruction.Ins.TheVariants.{Sll, Srl, Sra, Sllv, Srlv, Srav, Jr, Jalr, Syscall, Break, Mfhi, Mthi, Mflo, Mtlo, Mult, Multu, Div, Divu, Add, Addu, Sub, Subu, And, Or, Xor, Nor, Slt, Sltu, Bltz, Bgez, Bltzal, Bgezal, J, Jal, Beq, Bne, Blez, Bgtz, Addi, Addiu, Slti, Sltiu, Andi, Ori, Xori, Lui, Lb, Lh, Lwl, Lw, Lbu, Lhu, Lwr, Sb, Sh, Swl, Sw, Swr, Xlwn, Xswn, Xmvtn, Xmvfn, Xexit, Xhand, Xsigret, Xinstall, Xenter, Xresume, Xsave, Xrestore, Xmap, Xunmap, Xkill, Xout, Xhalt, Xstat, Xcause, Xarg, Xwho}
use Rattle.mips_instruction.specs.Words.{Fits, IsMoved, IsReserved, Word, branch_of, c_word, code_field, compartment_of, function_of, i_word, imm_of, immediate_of, index_field, instruction_of_word, j_word, op_of, r_word, rd_of, row_if_clear, rs_of, rt_of, sa_of, special_of, word_of}

-- ---- From the instruction to its reading

-- the fields of a word of three registers are its parts
pub read-special : (w rs rt rd sa function : ℕ) → rs < 32 → rt < 32 → rd < 32 → sa < 32
    → function < 2 ^ 6 → w ≡ r_word 0 rs rt rd sa function
    → instruction_of_word w ≡ special_of rs rt rd sa function (code_field w)
unfolding instruction_of_word
read-special w rs rt rd sa function rs_fits rt_fits rd_fits sa_fits function_fits is =
    let op_is : op_of w ≡ 0 = omega arith in
    let rs_is : rs_of w ≡ rs = omega arith in
    let rt_is : rt_of w ≡ rt = omega arith in
    let rd_is : rd_of w ≡ rd = omega arith in
    let sa_is : sa_of w ≡ sa = omega arith in
    let function_is : function_of w ≡ function = omega arith in
    rw (op_is, rs_is, rt_is, rd_is, sa_is, function_is) refl

pub read-code : (w code function : ℕ) → code < 2 ^ 20 → function < 2 ^ 6 → w ≡ c_word code function
    → instruction_of_word w ≡ special_of (rs_of w) (rt_of w) (rd_of w) (sa_of w) function code
unfolding instruction_of_word
read-code w code function code_fits function_fits is =
    let op_is : op_of w ≡ 0 = omega arith in
    let code_is : code_field w ≡ code = omega arith in
    let function_is : function_of w ≡ function = omega arith in
    rw (op_is, code_is, function_is) refl

pub read-compartment : (w rs rt rd sa function : ℕ) → rs < 32 → rt < 32 → rd < 32 → sa < 32
    → function < 2 ^ 6 → w ≡ r_word 18 rs rt rd sa function
    → instruction_of_word w ≡ compartment_of rs rt rd sa function
unfolding instruction_of_word
read-compartment w rs rt rd sa function rs_fits rt_fits rd_fits sa_fits function_fits is =
    let op_is : op_of w ≡ 18 = omega arith in
    let rs_is : rs_of w ≡ rs = omega arith in
    let rt_is : rt_of w ≡ rt = omega arith in
    let rd_is : rd_of w ≡ rd = omega arith in
    let sa_is : sa_of w ≡ sa = omega arith in
    let function_is : function_of w ≡ function = omega arith in
    rw (op_is, rs_is, rt_is, rd_is, sa_is, function_is) refl

pub read-branch : (w rs rt imm : ℕ) → rs < 32 → rt < 32 → imm < 2 ^ 16 → w ≡ i_word 1 rs rt imm
    → instruction_of_word w ≡ branch_of rs rt imm
unfolding instruction_of_word
read-branch w rs rt imm rs_fits rt_fits imm_fits is =
    let op_is : op_of w ≡ 1 = omega arith in
    let rs_is : rs_of w ≡ rs = omega arith in
    let rt_is : rt_of w ≡ rt = omega arith in
    let imm_is : imm_of w ≡ imm = omega arith in
    rw (op_is, rs_is, rt_is, imm_is) refl

read-j : (w index : ℕ) → index < 2 ^ 26 → w ≡ j_word 2 index → instruction_of_word w ≡ Some (J index)
unfolding instruction_of_word
read-j w index index_fits is =
    let op_is : op_of w ≡ 2 = omega arith in
    let index_is : index_field w ≡ index = omega arith in
    rw (op_is, index_is) refl

read-jal : (w index : ℕ) → index < 2 ^ 26 → w ≡ j_word 3 index → instruction_of_word w ≡ Some (Jal index)
unfolding instruction_of_word
read-jal w index index_fits is =
    let op_is : op_of w ≡ 3 = omega arith in
    let index_is : index_field w ≡ index = omega arith in
    rw (op_is, index_is) refl

-- an op that has no table of its own
abbrev IsPlain : ℕ → Type 0
IsPlain op =
    ((op == 0) ≡ false) × ((op == 1) ≡ false) × ((op == 2) ≡ false) × ((op == 3) ≡ false)
    × ((op == 18) ≡ false)

pub read-immediate : (w op rs rt imm : ℕ) → IsPlain op → rs < 32 → rt < 32 → imm < 2 ^ 16
    → w ≡ i_word op rs rt imm → instruction_of_word w ≡ immediate_of op rs rt imm
unfolding instruction_of_word
read-immediate w op rs rt imm plain rs_fits rt_fits imm_fits is =
    let op_is : op_of w ≡ op = omega arith in
    let rs_is : rs_of w ≡ rs = omega arith in
    let rt_is : rt_of w ≡ rt = omega arith in
    let imm_is : imm_of w ≡ imm = omega arith in
    rw (op_is, rs_is, rt_is, imm_is, plain.0, plain.1, plain.2, plain.3, plain.4) refl

-- a register that is moved over the border isn't $0
moved : (reg : ℕ) → IsMoved reg → (reg == 0) ≡ false
moved reg is = ne_eqb reg 0 (omega arith)

-- each instruction is read from its word
pub Word-read : (i : Ins) (w : ℕ) → Word i w → instruction_of_word w ≡ Some i
unfolding special_of branch_of compartment_of immediate_of
Word-read (Sll rd rt sa) w is =
    read-special w 0 rt rd sa 0 (lit< tt) is.fits.1 is.fits.0 is.fits.2 (lit< tt) is.word
Word-read (Srl rd rt sa) w is =
    read-special w 0 rt rd sa 2 (lit< tt) is.fits.1 is.fits.0 is.fits.2 (lit< tt) is.word
Word-read (Sra rd rt sa) w is =
    read-special w 0 rt rd sa 3 (lit< tt) is.fits.1 is.fits.0 is.fits.2 (lit< tt) is.word
Word-read (Sllv rd rt rs) w is =
    read-special w rs rt rd 0 4 is.fits.2 is.fits.1 is.fits.0 (lit< tt) (lit< tt) is.word
Word-read (Srlv rd rt rs) w is =
    read-special w rs rt rd 0 6 is.fits.2 is.fits.1 is.fits.0 (lit< tt) (lit< tt) is.word
Word-read (Srav rd rt rs) w is =
    read-special w rs rt rd 0 7 is.fits.2 is.fits.1 is.fits.0 (lit< tt) (lit< tt) is.word
Word-read (Jr rs) w is =
    read-special w rs 0 0 0 8 is.fits (lit< tt) (lit< tt) (lit< tt) (lit< tt) is.word
Word-read (Jalr rd rs) w is =
    read-special w rs 0 rd 0 9 is.fits.1 (lit< tt) is.fits.0 (lit< tt) (lit< tt) is.word
Word-read (Syscall code) w is = read-code w code 12 is.fits (lit< tt) is.word
Word-read (Break code) w is = read-code w code 13 is.fits (lit< tt) is.word
Word-read (Mfhi rd) w is =
    read-special w 0 0 rd 0 16 (lit< tt) (lit< tt) is.fits (lit< tt) (lit< tt) is.word
Word-read (Mthi rs) w is =
    read-special w rs 0 0 0 17 is.fits (lit< tt) (lit< tt) (lit< tt) (lit< tt) is.word
Word-read (Mflo rd) w is =
    read-special w 0 0 rd 0 18 (lit< tt) (lit< tt) is.fits (lit< tt) (lit< tt) is.word
Word-read (Mtlo rs) w is =
    read-special w rs 0 0 0 19 is.fits (lit< tt) (lit< tt) (lit< tt) (lit< tt) is.word
Word-read (Mult rs rt) w is =
    read-special w rs rt 0 0 24 is.fits.0 is.fits.1 (lit< tt) (lit< tt) (lit< tt) is.word
Word-read (Multu rs rt) w is =
    read-special w rs rt 0 0 25 is.fits.0 is.fits.1 (lit< tt) (lit< tt) (lit< tt) is.word
Word-read (Div rs rt) w is =
    read-special w rs rt 0 0 26 is.fits.0 is.fits.1 (lit< tt) (lit< tt) (lit< tt) is.word
Word-read (Divu rs rt) w is =
    read-special w rs rt 0 0 27 is.fits.0 is.fits.1 (lit< tt) (lit< tt) (lit< tt) is.word
Word-read (Add rd rs rt) w is =
    read-special w rs rt rd 0 32 is.fits.1 is.fits.2 is.fits.0 (lit< tt) (lit< tt) is.word
Word-read (Addu rd rs rt) w is =
    read-special w rs rt rd 0 33 is.fits.1 is.fits.2 is.fits.0 (lit< tt) (lit< tt) is.word
Word-read (Sub rd rs rt) w is =
    read-special w rs rt rd 0 34 is.fits.1 is.fits.2 is.fits.0 (lit< tt) (lit< tt) is.word
Word-read (Subu rd rs rt) w is =
    read-special w rs rt rd 0 35 is.fits.1 is.fits.2 is.fits.0 (lit< tt) (lit< tt) is.word
Word-read (And rd rs rt) w is =
    read-special w rs rt rd 0 36 is.fits.1 is.fits.2 is.fits.0 (lit< tt) (lit< tt) is.word
Word-read (Or rd rs rt) w is =
    read-special w rs rt rd 0 37 is.fits.1 is.fits.2 is.fits.0 (lit< tt) (lit< tt) is.word
Word-read (Xor rd rs rt) w is =
    read-special w rs rt rd 0 38 is.fits.1 is.fits.2 is.fits.0 (lit< tt) (lit< tt) is.word
Word-read (Nor rd rs rt) w is =
    read-special w rs rt rd 0 39 is.fits.1 is.fits.2 is.fits.0 (lit< tt) (lit< tt) is.word
Word-read (Slt rd rs rt) w is =
    read-special w rs rt rd 0 42 is.fits.1 is.fits.2 is.fits.0 (lit< tt) (lit< tt) is.word
Word-read (Sltu rd rs rt) w is =
    read-special w rs rt rd 0 43 is.fits.1 is.fits.2 is.fits.0 (lit< tt) (lit< tt) is.word
Word-read (Bltz rs imm) w is = read-branch w rs 0 imm is.fits.0 (lit< tt) is.fits.1 is.word
Word-read (Bgez rs imm) w is = read-branch w rs 1 imm is.fits.0 (lit< tt) is.fits.1 is.word
Word-read (Bltzal rs imm) w is = read-branch w rs 16 imm is.fits.0 (lit< tt) is.fits.1 is.word
Word-read (Bgezal rs imm) w is = read-branch w rs 17 imm is.fits.0 (lit< tt) is.fits.1 is.word
Word-read (J index) w is = read-j w index is.fits is.word
Word-read (Jal index) w is = read-jal w index is.fits is.word
Word-read (Beq rs rt imm) w is =
    read-immediate w 4 rs rt imm (refl, refl, refl, refl, refl) is.fits.0 is.fits.1 is.fits.2
    is.word
Word-read (Bne rs rt imm) w is =
    read-immediate w 5 rs rt imm (refl, refl, refl, refl, refl) is.fits.0 is.fits.1 is.fits.2
    is.word
Word-read (Blez rs imm) w is =
    read-immediate w 6 rs 0 imm (refl, refl, refl, refl, refl) is.fits.0 (lit< tt) is.fits.1 is.word
Word-read (Bgtz rs imm) w is =
    read-immediate w 7 rs 0 imm (refl, refl, refl, refl, refl) is.fits.0 (lit< tt) is.fits.1 is.word
Word-read (Addi rt rs imm) w is =
    read-immediate w 8 rs rt imm (refl, refl, refl, refl, refl) is.fits.1 is.fits.0 is.fits.2
    is.word
Word-read (Addiu rt rs imm) w is =
    read-immediate w 9 rs rt imm (refl, refl, refl, refl, refl) is.fits.1 is.fits.0 is.fits.2
    is.word
Word-read (Slti rt rs imm) w is =
    read-immediate w 10 rs rt imm (refl, refl, refl, refl, refl) is.fits.1 is.fits.0 is.fits.2
    is.word
Word-read (Sltiu rt rs imm) w is =
    read-immediate w 11 rs rt imm (refl, refl, refl, refl, refl) is.fits.1 is.fits.0 is.fits.2
    is.word
Word-read (Andi rt rs imm) w is =
    read-immediate w 12 rs rt imm (refl, refl, refl, refl, refl) is.fits.1 is.fits.0 is.fits.2
    is.word
Word-read (Ori rt rs imm) w is =
    read-immediate w 13 rs rt imm (refl, refl, refl, refl, refl) is.fits.1 is.fits.0 is.fits.2
    is.word
Word-read (Xori rt rs imm) w is =
    read-immediate w 14 rs rt imm (refl, refl, refl, refl, refl) is.fits.1 is.fits.0 is.fits.2
    is.word
Word-read (Lui rt imm) w is =
    read-immediate w 15 0 rt imm (refl, refl, refl, refl, refl) (lit< tt) is.fits.0 is.fits.1
    is.word
Word-read (Lb rt imm rs) w is =
    read-immediate w 32 rs rt imm (refl, refl, refl, refl, refl) is.fits.2 is.fits.0 is.fits.1
    is.word
Word-read (Lh rt imm rs) w is =
    read-immediate w 33 rs rt imm (refl, refl, refl, refl, refl) is.fits.2 is.fits.0 is.fits.1
    is.word
Word-read (Lwl rt imm rs) w is =
    read-immediate w 34 rs rt imm (refl, refl, refl, refl, refl) is.fits.2 is.fits.0 is.fits.1
    is.word
Word-read (Lw rt imm rs) w is =
    read-immediate w 35 rs rt imm (refl, refl, refl, refl, refl) is.fits.2 is.fits.0 is.fits.1
    is.word
Word-read (Lbu rt imm rs) w is =
    read-immediate w 36 rs rt imm (refl, refl, refl, refl, refl) is.fits.2 is.fits.0 is.fits.1
    is.word
Word-read (Lhu rt imm rs) w is =
    read-immediate w 37 rs rt imm (refl, refl, refl, refl, refl) is.fits.2 is.fits.0 is.fits.1
    is.word
Word-read (Lwr rt imm rs) w is =
    read-immediate w 38 rs rt imm (refl, refl, refl, refl, refl) is.fits.2 is.fits.0 is.fits.1
    is.word
Word-read (Sb rt imm rs) w is =
    read-immediate w 40 rs rt imm (refl, refl, refl, refl, refl) is.fits.2 is.fits.0 is.fits.1
    is.word
Word-read (Sh rt imm rs) w is =
    read-immediate w 41 rs rt imm (refl, refl, refl, refl, refl) is.fits.2 is.fits.0 is.fits.1
    is.word
Word-read (Swl rt imm rs) w is =
    read-immediate w 42 rs rt imm (refl, refl, refl, refl, refl) is.fits.2 is.fits.0 is.fits.1
    is.word
Word-read (Sw rt imm rs) w is =
    read-immediate w 43 rs rt imm (refl, refl, refl, refl, refl) is.fits.2 is.fits.0 is.fits.1
    is.word
Word-read (Swr rt imm rs) w is =
    read-immediate w 46 rs rt imm (refl, refl, refl, refl, refl) is.fits.2 is.fits.0 is.fits.1
    is.word
Word-read (Xlwn rt imm rs) w is =
    read-immediate w 50 rs rt imm (refl, refl, refl, refl, refl) is.fits.2 is.fits.0 is.fits.1
    is.word
Word-read (Xswn rt imm rs) w is =
    read-immediate w 58 rs rt imm (refl, refl, refl, refl, refl) is.fits.2 is.fits.0 is.fits.1
    is.word
Word-read (Xmvtn rs) w is =
    read-compartment w rs 0 0 0 1 is.fits.1 (lit< tt) (lit< tt) (lit< tt) (lit< tt) is.word
    ∙ rw (moved rs is.fits) refl
Word-read (Xmvfn rd rs) w is =
    read-compartment w rs 0 rd 0 2 is.fits.1.1 (lit< tt) is.fits.0.1 (lit< tt) (lit< tt) is.word
    ∙ rw (moved rs is.fits.1, moved rd is.fits.0) refl
Word-read Xexit w is =
    read-compartment w 0 0 0 0 3 (lit< tt) (lit< tt) (lit< tt) (lit< tt) (lit< tt) is.word
Word-read (Xhand rs) w is =
    read-compartment w rs 0 0 0 4 is.fits (lit< tt) (lit< tt) (lit< tt) (lit< tt) is.word
Word-read Xsigret w is =
    read-compartment w 0 0 0 0 5 (lit< tt) (lit< tt) (lit< tt) (lit< tt) (lit< tt) is.word
Word-read (Xinstall rs rt rd) w is =
    read-compartment w rs rt rd 0 16 is.fits.0 is.fits.1 is.fits.2 (lit< tt) (lit< tt) is.word
Word-read (Xenter rs) w is =
    read-compartment w rs 0 0 0 17 is.fits (lit< tt) (lit< tt) (lit< tt) (lit< tt) is.word
Word-read (Xresume rs rt) w is =
    read-compartment w rs rt 0 0 18 is.fits.0 is.fits.1 (lit< tt) (lit< tt) (lit< tt) is.word
Word-read (Xsave rs rt rd) w is =
    read-compartment w rs rt rd 0 19 is.fits.0 is.fits.1 is.fits.2 (lit< tt) (lit< tt) is.word
Word-read (Xrestore rs rt rd) w is =
    read-compartment w rs rt rd 0 20 is.fits.0 is.fits.1 is.fits.2 (lit< tt) (lit< tt) is.word
Word-read (Xmap rs rt rd) w is =
    read-compartment w rs rt rd 0 21 is.fits.0 is.fits.1 is.fits.2 (lit< tt) (lit< tt) is.word
Word-read (Xunmap rs rt) w is =
    read-compartment w rs rt 0 0 22 is.fits.0 is.fits.1 (lit< tt) (lit< tt) (lit< tt) is.word
Word-read (Xkill rs) w is =
    read-compartment w rs 0 0 0 24 is.fits (lit< tt) (lit< tt) (lit< tt) (lit< tt) is.word
Word-read (Xout rs) w is =
    read-compartment w rs 0 0 0 25 is.fits (lit< tt) (lit< tt) (lit< tt) (lit< tt) is.word
Word-read Xhalt w is =
    read-compartment w 0 0 0 0 26 (lit< tt) (lit< tt) (lit< tt) (lit< tt) (lit< tt) is.word
Word-read (Xstat rd) w is =
    read-compartment w 0 0 rd 0 27 (lit< tt) (lit< tt) is.fits (lit< tt) (lit< tt) is.word
Word-read (Xcause rd) w is =
    read-compartment w 0 0 rd 0 28 (lit< tt) (lit< tt) is.fits (lit< tt) (lit< tt) is.word
Word-read (Xarg rd) w is =
    read-compartment w 0 0 rd 0 29 (lit< tt) (lit< tt) is.fits (lit< tt) (lit< tt) is.word
Word-read (Xwho rd) w is =
    read-compartment w 0 0 rd 0 30 (lit< tt) (lit< tt) is.fits (lit< tt) (lit< tt) is.word

-- ---- From the reading to the instruction

-- what is read, if anything, has the word
abbrev IsSound : ℕ → Option Ins → Type 0
IsSound w found = IfSome found (λ i. Word i w)

-- a row whose fields are all named, and what comes after it
full : {w : ℕ} {i : Ins} (rest : Option Ins) (field k : ℕ) → (field ≡ k → Word i w) → IsSound w rest
    → IsSound w (cond (field == k) (Some i) rest)
full {w} {i} rest field k here after =
    cond_both (field == k) (Some i) rest (IsSound w) (λ is. here (eqb-true field k is)) (λ _. after)

-- a row with spare fields, and what comes after it
line : {w : ℕ} {i : Ins} (rest : Option Ins) (field k : ℕ) (clear : Bool)
    → (field ≡ k → clear ≡ true → Word i w) → IsSound w rest
    → IsSound w (cond (field == k) (row_if_clear clear i) rest)
line {w} {i} rest field k clear here after =
    cond_both (field == k) (row_if_clear clear i) rest (IsSound w) (λ is. cond_both clear (Some i) None
    (IsSound w) (here (eqb-true field k is)) (λ _. tt)) (λ _. after)

-- a row with spare fields whose operands fit, whatever the spare fields hold
row : {w : ℕ} (i : Ins) (rest : Option Ins) (field k : ℕ) (clear : Bool) → Fits i
    → (field ≡ k → clear ≡ true → w ≡ word_of i) → IsSound w rest
    → IsSound w (cond (field == k) (row_if_clear clear i) rest)
row i rest field k clear fits word after =
    line rest field k clear (λ f s. record { fits = fits; word = word f s }) after

zero : (n : ℕ) → (n == 0) ≡ true → n ≡ 0
zero n = eqb-true n 0

above : (n : ℕ) → not (n == 0) ≡ true → 1 ≤ n
above n is = let e = eqb-false n 0 (not-true (n == 0) is) in omega arith

-- spare fields that are all zero
spare2 : (a b : ℕ) → ((a == 0) && (b == 0)) ≡ true → a + b ≡ 0
spare2 a b clear =
    let parts = and_parts (a == 0) (b == 0) clear in omega (arith, zero a parts.0, zero b parts.1)

spare3 : (a b c : ℕ) → ((a == 0) && ((b == 0) && (c == 0))) ≡ true → a + b + c ≡ 0
spare3 a b c clear =
    let parts = and_parts (a == 0) ((b == 0) && (c == 0)) clear in
    omega (arith, zero a parts.0, spare2 b c parts.1)

spare4 : (a b c d : ℕ) → ((a == 0) && ((b == 0) && ((c == 0) && (d == 0)))) ≡ true
    → a + b + c + d ≡ 0
spare4 a b c d clear =
    let parts = and_parts (a == 0) ((b == 0) && ((c == 0) && (d == 0))) clear in
    omega (arith, zero a parts.0, spare3 b c d parts.1)

-- a register that isn't $0 before other tests
other : (reg : ℕ) (rest : Bool) → (not (reg == 0) && rest) ≡ true → (1 ≤ reg) × (rest ≡ true)
other reg rest clear =
    let parts = and_parts (not (reg == 0)) rest clear in (above reg parts.0, parts.1)

module _ (w rs rt rd sa function : ℕ) (rs_fits : rs < 32) (rt_fits : rt < 32) (rd_fits : rd < 32)
    (sa_fits : sa < 32) where
  special-sound : (code : ℕ) → code < 2 ^ 20 → w ≡ r_word 0 rs rt rd sa function
      → w ≡ c_word code function → IsSound w (special_of rs rt rd sa function code)
  unfolding special_of
  special-sound code code_fits is coded =
      row _ _ function 0 _ (rd_fits, rt_fits, sa_fits) (λ f s. omega (arith, zero rs s)) (
      row _ _ function 2 _ (rd_fits, rt_fits, sa_fits) (λ f s. omega (arith, zero rs s)) (
      row _ _ function 3 _ (rd_fits, rt_fits, sa_fits) (λ f s. omega (arith, zero rs s)) (
      row _ _ function 4 _ (rd_fits, rt_fits, rs_fits) (λ f s. omega (arith, zero sa s)) (
      row _ _ function 6 _ (rd_fits, rt_fits, rs_fits) (λ f s. omega (arith, zero sa s)) (
      row _ _ function 7 _ (rd_fits, rt_fits, rs_fits) (λ f s. omega (arith, zero sa s)) (
      row _ _ function 8 _ rs_fits (λ f s. omega (arith, spare3 rt rd sa s)) (
      row _ _ function 9 _ (rd_fits, rs_fits) (λ f s. omega (arith, spare2 rt sa s)) (
      full _ function 12 (λ f. record { fits = code_fits; word = omega arith }) (
      full _ function 13 (λ f. record { fits = code_fits; word = omega arith }) (
      row _ _ function 16 _ rd_fits (λ f s. omega (arith, spare3 rs rt sa s)) (
      row _ _ function 17 _ rs_fits (λ f s. omega (arith, spare3 rt rd sa s)) (
      row _ _ function 18 _ rd_fits (λ f s. omega (arith, spare3 rs rt sa s)) (
      row _ _ function 19 _ rs_fits (λ f s. omega (arith, spare3 rt rd sa s)) (
      row _ _ function 24 _ (rs_fits, rt_fits) (λ f s. omega (arith, spare2 rd sa s)) (
      row _ _ function 25 _ (rs_fits, rt_fits) (λ f s. omega (arith, spare2 rd sa s)) (
      row _ _ function 26 _ (rs_fits, rt_fits) (λ f s. omega (arith, spare2 rd sa s)) (
      row _ _ function 27 _ (rs_fits, rt_fits) (λ f s. omega (arith, spare2 rd sa s)) (
      row _ _ function 32 _ (rd_fits, rs_fits, rt_fits) (λ f s. omega (arith, zero sa s)) (
      row _ _ function 33 _ (rd_fits, rs_fits, rt_fits) (λ f s. omega (arith, zero sa s)) (
      row _ _ function 34 _ (rd_fits, rs_fits, rt_fits) (λ f s. omega (arith, zero sa s)) (
      row _ _ function 35 _ (rd_fits, rs_fits, rt_fits) (λ f s. omega (arith, zero sa s)) (
      row _ _ function 36 _ (rd_fits, rs_fits, rt_fits) (λ f s. omega (arith, zero sa s)) (
      row _ _ function 37 _ (rd_fits, rs_fits, rt_fits) (λ f s. omega (arith, zero sa s)) (
      row _ _ function 38 _ (rd_fits, rs_fits, rt_fits) (λ f s. omega (arith, zero sa s)) (
      row _ _ function 39 _ (rd_fits, rs_fits, rt_fits) (λ f s. omega (arith, zero sa s)) (
      row _ _ function 42 _ (rd_fits, rs_fits, rt_fits) (λ f s. omega (arith, zero sa s)) (
      row _ _ function 43 _ (rd_fits, rs_fits, rt_fits) (λ f s. omega (arith, zero sa s)) (
      tt))))))))))))))))))))))))))))

  compartment-sound : w ≡ r_word 18 rs rt rd sa function
      → IsSound w (compartment_of rs rt rd sa function)
  unfolding compartment_of
  compartment-sound is =
      line _ function 1 _ (λ f s. let reg = other rs (rt == 0 && (rd == 0 && sa == 0)) s in
      record { fits = (reg.0, rs_fits); word = omega (arith, spare3 rt rd sa reg.1) }) (
      line _ function 2 _ (λ f s. let to = other rd (not (rs == 0) && (rt == 0 && sa == 0)) s in
      let from = other rs (rt == 0 && sa == 0) to.1 in
      record {
        fits = ((to.0, rd_fits), (from.0, rs_fits));
        word =
            omega (arith, spare2 rt sa from.1);
      }) (
      row _ _ function 3 _ tt (λ f s. omega (arith, spare4 rs rt rd sa s)) (
      row _ _ function 4 _ rs_fits (λ f s. omega (arith, spare3 rt rd sa s)) (
      row _ _ function 5 _ tt (λ f s. omega (arith, spare4 rs rt rd sa s)) (
      row _ _ function 16 _ (rs_fits, rt_fits, rd_fits) (λ f s. omega (arith, zero sa s)) (
      row _ _ function 17 _ rs_fits (λ f s. omega (arith, spare3 rt rd sa s)) (
      row _ _ function 18 _ (rs_fits, rt_fits) (λ f s. omega (arith, spare2 rd sa s)) (
      row _ _ function 19 _ (rs_fits, rt_fits, rd_fits) (λ f s. omega (arith, zero sa s)) (
      row _ _ function 20 _ (rs_fits, rt_fits, rd_fits) (λ f s. omega (arith, zero sa s)) (
      row _ _ function 21 _ (rs_fits, rt_fits, rd_fits) (λ f s. omega (arith, zero sa s)) (
      row _ _ function 22 _ (rs_fits, rt_fits) (λ f s. omega (arith, spare2 rd sa s)) (
      row _ _ function 24 _ rs_fits (λ f s. omega (arith, spare3 rt rd sa s)) (
      row _ _ function 25 _ rs_fits (λ f s. omega (arith, spare3 rt rd sa s)) (
      row _ _ function 26 _ tt (λ f s. omega (arith, spare4 rs rt rd sa s)) (
      row _ _ function 27 _ rd_fits (λ f s. omega (arith, spare3 rs rt sa s)) (
      row _ _ function 28 _ rd_fits (λ f s. omega (arith, spare3 rs rt sa s)) (
      row _ _ function 29 _ rd_fits (λ f s. omega (arith, spare3 rs rt sa s)) (
      row _ _ function 30 _ rd_fits (λ f s. omega (arith, spare3 rs rt sa s)) (
      tt)))))))))))))))))))

branch-sound : (w rs rt imm : ℕ) → rs < 32 → imm < 2 ^ 16 → w ≡ i_word 1 rs rt imm
    → IsSound w (branch_of rs rt imm)
unfolding branch_of
branch-sound w rs rt imm rs_fits imm_fits is =
    full _ rt 0 (λ f. record { fits = (rs_fits, imm_fits); word = omega arith }) (
    full _ rt 1 (λ f. record { fits = (rs_fits, imm_fits); word = omega arith }) (
    full _ rt 16 (λ f. record { fits = (rs_fits, imm_fits); word = omega arith }) (
    full _ rt 17 (λ f. record { fits = (rs_fits, imm_fits); word = omega arith }) (
    tt))))

immediate-sound : (w op rs rt imm : ℕ) → rs < 32 → rt < 32 → imm < 2 ^ 16 → w ≡ i_word op rs rt imm
    → IsSound w (immediate_of op rs rt imm)
unfolding immediate_of
immediate-sound w op rs rt imm rs_fits rt_fits imm_fits is =
    full _ op 4 (λ f. record { fits = (rs_fits, rt_fits, imm_fits); word = omega arith }) (
    full _ op 5 (λ f. record { fits = (rs_fits, rt_fits, imm_fits); word = omega arith }) (
    row _ _ op 6 _ (rs_fits, imm_fits) (λ f s. omega (arith, zero rt s)) (
    row _ _ op 7 _ (rs_fits, imm_fits) (λ f s. omega (arith, zero rt s)) (
    full _ op 8 (λ f. record { fits = (rt_fits, rs_fits, imm_fits); word = omega arith }) (
    full _ op 9 (λ f. record { fits = (rt_fits, rs_fits, imm_fits); word = omega arith }) (
    full _ op 10 (λ f. record { fits = (rt_fits, rs_fits, imm_fits); word = omega arith }) (
    full _ op 11 (λ f. record { fits = (rt_fits, rs_fits, imm_fits); word = omega arith }) (
    full _ op 12 (λ f. record { fits = (rt_fits, rs_fits, imm_fits); word = omega arith }) (
    full _ op 13 (λ f. record { fits = (rt_fits, rs_fits, imm_fits); word = omega arith }) (
    full _ op 14 (λ f. record { fits = (rt_fits, rs_fits, imm_fits); word = omega arith }) (
    row _ _ op 15 _ (rt_fits, imm_fits) (λ f s. omega (arith, zero rs s)) (
    full _ op 32 (λ f. record { fits = (rt_fits, imm_fits, rs_fits); word = omega arith }) (
    full _ op 33 (λ f. record { fits = (rt_fits, imm_fits, rs_fits); word = omega arith }) (
    full _ op 34 (λ f. record { fits = (rt_fits, imm_fits, rs_fits); word = omega arith }) (
    full _ op 35 (λ f. record { fits = (rt_fits, imm_fits, rs_fits); word = omega arith }) (
    full _ op 36 (λ f. record { fits = (rt_fits, imm_fits, rs_fits); word = omega arith }) (
    full _ op 37 (λ f. record { fits = (rt_fits, imm_fits, rs_fits); word = omega arith }) (
    full _ op 38 (λ f. record { fits = (rt_fits, imm_fits, rs_fits); word = omega arith }) (
    full _ op 40 (λ f. record { fits = (rt_fits, imm_fits, rs_fits); word = omega arith }) (
    full _ op 41 (λ f. record { fits = (rt_fits, imm_fits, rs_fits); word = omega arith }) (
    full _ op 42 (λ f. record { fits = (rt_fits, imm_fits, rs_fits); word = omega arith }) (
    full _ op 43 (λ f. record { fits = (rt_fits, imm_fits, rs_fits); word = omega arith }) (
    full _ op 46 (λ f. record { fits = (rt_fits, imm_fits, rs_fits); word = omega arith }) (
    full _ op 50 (λ f. record { fits = (rt_fits, imm_fits, rs_fits); word = omega arith }) (
    full _ op 58 (λ f. record { fits = (rt_fits, imm_fits, rs_fits); word = omega arith }) (
    tt))))))))))))))))))))))))))

read-sound : (w : ℕ) → IsSound w (instruction_of_word w)
unfolding instruction_of_word
read-sound w =
    cond_both (op_of w == 0) _ _ (IsSound w)
    (λ o. let e = zero (op_of w) o in special-sound w (rs_of w) (rt_of w) (rd_of w) (sa_of w)
    (function_of w) (omega arith) (omega arith) (omega arith) (omega arith) (code_field w)
    (omega arith) (omega arith) (omega arith))
    (λ _. cond_both (op_of w == 1) _ _ (IsSound w)
    (λ o. let e = eqb-true (op_of w) 1 o in branch-sound w (rs_of w) (rt_of w) (imm_of w)
    (omega arith) (omega arith) (omega arith))
    (λ _. cond_both (op_of w == 2) _ _ (IsSound w)
    (λ o. let e = eqb-true (op_of w) 2 o in record { fits = omega arith; word = omega arith })
    (λ _. cond_both (op_of w == 3) _ _ (IsSound w)
    (λ o. let e = eqb-true (op_of w) 3 o in record { fits = omega arith; word = omega arith })
    (λ _. cond_both (op_of w == 18) _ _ (IsSound w)
    (λ o. let e = eqb-true (op_of w) 18 o in compartment-sound w (rs_of w) (rt_of w) (rd_of w)
    (sa_of w) (function_of w) (omega arith) (omega arith) (omega arith) (omega arith)
    (omega arith))
    (λ _. immediate-sound w (op_of w) (rs_of w) (rt_of w) (imm_of w) (omega arith) (omega arith)
    (omega arith) (omega arith))))))

-- what is read from a word has that word
pub read-Word : (i : Ins) (w : ℕ) → instruction_of_word w ≡ Some i → Word i w
read-Word i w is = let sound = read-sound w in rw is at sound

-- what is read has its operands in their ranges
pub read-Fits : (i : Ins) (w : ℕ) → instruction_of_word w ≡ Some i → Fits i
read-Fits i w is = (read-Word i w is).fits

-- an instruction has one word
pub Word-only : (i : Ins) (v w : ℕ) → Word i v → Word i w → v ≡ w
Word-only i v w first second = first.word ∙ sym second.word

-- nothing is read exactly from a reserved word
pub read-none : (w : ℕ) → IsNone (instruction_of_word w) → IsReserved w
read-none w none i has = let some = rw (Word-read i w has) at none in cc

-- a reading that gives no instruction is none
nothing : (found : Option Ins) → ((i : Ins) → found ≡ Some i → ⊥) → found ≡ None
nothing None none = refl
nothing (Some i) none = absurd (none i refl)

pub reserved-none : (w : ℕ) → IsReserved w → instruction_of_word w ≡ None
reserved-none w reserved = nothing (instruction_of_word w) (λ i is. reserved i (read-Word i w is))
