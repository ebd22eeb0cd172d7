-- The table of forms is exact both ways: an instruction is built of its own form, and what is built
-- has that form.
use Rattle.std.proofs.Common.{◌≡◌, ◌⊎◌, ◌&&◌, ◌==◌, ℕ, suc, length, Bool, true, false, cond, List, [], ◌∷◌, map, Option, Some, None, refl, sym, ◌∙◌, ap, inl, inr, is_some}
use Rattle.std.proofs.lemmas.Bool.{cases_Bool}
use Rattle.std.proofs.lemmas.Slice.Eq.{bytes_eq-Decides}
use Rattle.std.specs.Str.{bytes_eq}
use Rattle.std.specs.List.{AllByRecursion, find}
use Rattle.mips_instruction.specs.declared.instruction.Ins.{Ins}
use Rattle.mips_instruction.specs.declared.instruction.Ins.TheVariants.{Sll, Srl, Sra, Sllv, Srlv, Srav, Jr, Jalr, Syscall, Break, Mfhi, Mthi, Mflo, Mtlo, Mult, Multu, Div, Divu, Add, Addu, Sub, Subu, And, Or, Xor, Nor, Slt, Sltu, Bltz, Bgez, Bltzal, Bgezal, J, Jal, Beq, Bne, Blez, Bgtz, Addi, Addiu, Slti, Sltiu, Andi, Ori, Xori, Lui, Lb, Lh, Lwl, Lw, Lbu, Lhu, Lwr, Sb, Sh, Swl, Sw, Swr, Xlwn, Xswn, Xmvtn, Xmvfn, Xexit, Xhand, Xsigret, Xinstall, Xenter, Xresume, Xsave, Xrestore, Xmap, Xunmap, Xkill, Xout, Xhalt, Xstat, Xcause, Xarg, Xwho}
use Rattle.mips_forms.specs.declared.operand.Operand.{Operand}
use Rattle.mips_forms.specs.declared.operand.Operand.TheVariants.{Register, Shift, Signed, Unsigned, Code, Branch, Jump, Offset}
use Rattle.mips_forms.specs.declared.operand.OperandKind.{OperandKind}
use Rattle.mips_forms.specs.declared.operand.OperandKind.TheVariants as kinds
use Rattle.mips_forms.specs.Forms.{FormTakes, IsNoMnemonic, form_of, operand_kind_of}
use Rattle.mips_forms.specs.Builds.{FormRow, access_rows, build_of, coded_rows, compare_rows, in_rows, jump_rows, kinds_of, plain_rows, register_rows, rows_of_shifts, rows_with_operands, sample_of, shapes, signed_rows, slot_rows, sum_rows, takes, test_rows, three_registers_rows, two_registers_rows, unsigned_rows, upper_rows}
use Rattle.mips_forms.specs.FormLaws.{FormsDiffer, KindsOfForms, OperandsFit}

-- ---- From the instruction to its form and back

-- an instruction is built of its own form, and its operands are of the kinds of its mnemonic
record IsInTable (i : Ins) : Type 0 where
  built : build_of (form_of i).0 (form_of i).1 ≡ Some i
  taken : kinds_of (form_of i).0 ≡ Some (map operand_kind_of (form_of i).1)

-- each instruction is in the table, by computation: `_` stands for each of the others
in_table : (i : Ins) → IsInTable i
unfolding kinds_of rows_with_operands plain_rows register_rows two_registers_rows
    three_registers_rows sum_rows slot_rows rows_of_shifts signed_rows unsigned_rows upper_rows
    access_rows compare_rows test_rows jump_rows coded_rows
in_table (Sll rd rt sa) = record { built = refl; taken = refl }
in_table _ = record { built = refl; taken = refl }

pub built_form : (i : Ins) → build_of (form_of i).0 (form_of i).1 ≡ Some i
built_form i = (in_table i).built

pub kinds_of_forms : KindsOfForms
kinds_of_forms i = (in_table i).taken

pub forms_differ : FormsDiffer
forms_differ i j same =
    let both : Some i ≡ Some j = sym (built_form i)
    ∙ ap (λ (form : List ℕ × List Operand). build_of form.0 form.1) same ∙ built_form j in
    cc

-- ---- From the form to the instruction

-- a row makes an instruction with the row's mnemonic and these operands
abbrev Holds : List Operand → FormRow → Type 0
Holds operands row = form_of row.1 ≡ (row.0, operands)

-- the row that is found is this one, or stands behind it
found_row : (here : Bool) (i j : Ins) (behind : Option Ins) → cond here (Some i) behind ≡ Some j
    → ((here ≡ true) × (i ≡ j)) ⊎ (behind ≡ Some j)
found_row true i j behind is = inl (refl, cc)
found_row false i j behind is = inr is

in_rows-form : (name : List ℕ) (operands : List Operand) (i : Ins) (rows : List FormRow)
    → AllByRecursion (Holds operands) rows → in_rows name rows ≡ Some i
    → form_of i ≡ (name, operands)
in_rows-form name operands i [] all is = absurd (let none : None ≡ Some i = is in cc)
in_rows-form name operands i (row ∷ rows) all is =
    elim (found_row (bytes_eq name row.0) row.1 i (in_rows name rows) is) [
      | inl here ↦
          let same : name ≡ row.0 = (bytes_eq-Decides name row.0).0 here.0 in
          ap form_of (sym here.1) ∙ all.0 ∙ ap (λ (word : List ℕ). (word, operands)) (sym same)
      | inr behind ↦ in_rows-form name operands i rows all.1 behind
    ]

-- each row of the tables makes an instruction of its form
rows_of-hold : (operands : List Operand) → AllByRecursion (Holds operands) (rows_with_operands operands)
unfolding rows_with_operands plain_rows register_rows two_registers_rows three_registers_rows sum_rows
    slot_rows rows_of_shifts signed_rows unsigned_rows upper_rows access_rows compare_rows test_rows
    jump_rows coded_rows
rows_of-hold [] = (refl, (refl, (refl, tt)))
rows_of-hold (Register a ∷ []) = (
  refl,
  (
    refl,
    (
      refl,
      (
        refl,
        (refl, (refl, (refl, (refl, (refl, (refl, (refl, (refl, (refl, (refl, tt)))))))))),
      ),
    ),
  ),
)
rows_of-hold (Register a ∷ Register b ∷ []) =
    (refl, (refl, (refl, (refl, (refl, (refl, (refl, (refl, tt))))))))
rows_of-hold (Register a ∷ Register b ∷ Register c ∷ []) = (
  refl,
  (
    refl,
    (
      refl,
      (
        refl,
        (
          refl,
          (
            refl,
            (
              refl,
              (
                refl,
                (refl, (refl, (refl, (refl, (refl, (refl, (refl, (refl, (refl, tt))))))))),
              ),
            ),
          ),
        ),
      ),
    ),
  ),
)
rows_of-hold (Register a ∷ Register b ∷ Shift c ∷ []) = (refl, (refl, (refl, tt)))
rows_of-hold (Register a ∷ Register b ∷ Signed c ∷ []) = (refl, (refl, (refl, (refl, tt))))
rows_of-hold (Register a ∷ Register b ∷ Unsigned c ∷ []) = (refl, (refl, (refl, tt)))
rows_of-hold (Register a ∷ Unsigned b ∷ []) = (refl, tt)
rows_of-hold (Register a ∷ Offset imm base ∷ []) = (
  refl,
  (
    refl,
    (
      refl,
      (
        refl,
        (refl, (refl, (refl, (refl, (refl, (refl, (refl, (refl, (refl, (refl, tt)))))))))),
      ),
    ),
  ),
)
rows_of-hold (Register a ∷ Register b ∷ Branch c ∷ []) = (refl, (refl, tt))
rows_of-hold (Register a ∷ Branch b ∷ []) = (refl, (refl, (refl, (refl, (refl, (refl, tt))))))
rows_of-hold (Jump a ∷ []) = (refl, (refl, tt))
rows_of-hold (Code a ∷ []) = (refl, (refl, tt))
rows_of-hold _ = tt

-- what is built has that form
pub build_of-form : (name : List ℕ) (operands : List Operand) (i : Ins)
    → build_of name operands ≡ Some i → form_of i ≡ (name, operands)
build_of-form name operands i is =
    in_rows-form name operands i (rows_with_operands operands) (rows_of-hold operands) is

-- what has that form is built
pub form-build_of : (name : List ℕ) (operands : List Operand) (i : Ins)
    → form_of i ≡ (name, operands) → build_of name operands ≡ Some i
form-build_of name operands i is =
    ap (λ (form : List ℕ × List Operand). build_of form.0 form.1) (sym is) ∙ built_form i

-- ---- Which operands a mnemonic takes

-- what is found passes the test
find-passes : (test : List OperandKind → Bool) (all : List (List OperandKind))
    (shape : List OperandKind)
    → find test all ≡ Some shape → test shape ≡ true
find-passes test [] shape is = absurd (let none : None ≡ Some shape = is in cc)
find-passes test (first ∷ all) shape is =
    elim (cases_Bool (test first)) [
      | inl passes ↦ let here : Some first ≡ Some shape = (rw passes at is) in
          let same : first ≡ shape = cc in ap test (sym same) ∙ passes
      | inr fails ↦ find-passes test all shape (rw fails at is)
    ]

-- a sample is of its kind
sample_of-kind : (kind : OperandKind) → operand_kind_of (sample_of kind) ≡ kind
sample_of-kind kinds.Register = refl
sample_of-kind kinds.Shift = refl
sample_of-kind kinds.Signed = refl
sample_of-kind kinds.Unsigned = refl
sample_of-kind kinds.Code = refl
sample_of-kind kinds.Branch = refl
sample_of-kind kinds.Jump = refl
sample_of-kind kinds.Offset = refl

kind_of-sample : (shape : List OperandKind) → map operand_kind_of (map sample_of shape) ≡ shape
kind_of-sample [] = refl
kind_of-sample (kind ∷ shape) =
    ap (λ (first : OperandKind). first ∷ map operand_kind_of (map sample_of shape)) (sample_of-kind kind)
    ∙ ap (λ (rest : List OperandKind). kind ∷ rest) (kind_of-sample shape)

-- a value that is there
some_of : (o : Option Ins) → is_some o ≡ true → (i : Ins) × (o ≡ Some i)
some_of (Some i) there = (i, refl)
some_of None there = absurd (let bad : false ≡ true = there in cc)

-- the kinds of a mnemonic are those of an instruction
pub kinds_of-Takes : (name : List ℕ) (shape : List OperandKind) → kinds_of name ≡ Some shape
    → FormTakes name shape
unfolding kinds_of
kinds_of-Takes name shape is =
    let built = some_of (build_of name (map sample_of shape)) (find-passes (takes name) shapes shape
    is) in
    let form = build_of-form name (map sample_of shape) built.0 built.1 in (
      built.0,
      ap (λ (form : List ℕ × List Operand). form.0) form,
      ap (λ (form : List ℕ × List Operand). map operand_kind_of form.1) form ∙ kind_of-sample shape,
    )

-- where an instruction with this mnemonic has operands of these kinds, they are the mnemonic's
pub kinds_of_takes : (name : List ℕ) (shape : List OperandKind) → takes name shape ≡ true
    → kinds_of name ≡ Some shape
kinds_of_takes name shape is =
    let built = some_of (build_of name (map sample_of shape)) is in
    let form = build_of-form name (map sample_of shape) built.0 built.1 in
    sym (ap (λ (form : List ℕ × List Operand). kinds_of form.0) form) ∙ kinds_of_forms built.0
    ∙ ap (λ (form : List ℕ × List Operand). Some (map operand_kind_of form.1)) form
    ∙ ap (λ (kinds : List OperandKind). Some kinds) (kind_of-sample shape)

-- the same of what was found there
pub kinds_of_found : (name : List ℕ) (shape : List OperandKind) (found : Option Ins)
    → found ≡ build_of name (map sample_of shape) → is_some found ≡ true
    → kinds_of name ≡ Some shape
kinds_of_found name shape found is some = kinds_of_takes name shape (ap is_some (sym is) ∙ some)

-- a name without kinds is no mnemonic
pub kinds_of-none : (name : List ℕ) → kinds_of name ≡ None → IsNoMnemonic name
kinds_of-none name none i is =
    let found : None ≡ Some (map operand_kind_of (form_of i).1) = sym none ∙ ap kinds_of (sym is)
    ∙ kinds_of_forms i in
    cc

-- ---- Texts that differ

false_and : (b : Bool) → (b && false) ≡ false
false_and true = refl
false_and false = refl

-- texts of different lengths differ
pub other_length : (xs ys : List ℕ) → ¬ (length xs ≡ length ys) → bytes_eq xs ys ≡ false
other_length [] [] differ = absurd (differ refl)
other_length [] (y ∷ ys) differ = refl
other_length (x ∷ xs) [] differ = refl
other_length (x ∷ xs) (y ∷ ys) differ =
    ap (λ (rest : Bool). (x == y) && rest)
    (other_length xs ys (λ same. differ (ap (λ (n : ℕ). suc n) same))) ∙ false_and (x == y)

-- ---- Ranges

pub operands_fit : OperandsFit
operands_fit (Sll rd rt sa) fits = (fits.0, (fits.1, (fits.2, tt)))
operands_fit (Srl rd rt sa) fits = (fits.0, (fits.1, (fits.2, tt)))
operands_fit (Sra rd rt sa) fits = (fits.0, (fits.1, (fits.2, tt)))
operands_fit (Sllv rd rt rs) fits = (fits.0, (fits.1, (fits.2, tt)))
operands_fit (Srlv rd rt rs) fits = (fits.0, (fits.1, (fits.2, tt)))
operands_fit (Srav rd rt rs) fits = (fits.0, (fits.1, (fits.2, tt)))
operands_fit (Jr rs) fits = (fits, tt)
operands_fit (Jalr rd rs) fits = (fits.0, (fits.1, tt))
operands_fit (Syscall code) fits = (fits, tt)
operands_fit (Break code) fits = (fits, tt)
operands_fit (Mfhi rd) fits = (fits, tt)
operands_fit (Mthi rs) fits = (fits, tt)
operands_fit (Mflo rd) fits = (fits, tt)
operands_fit (Mtlo rs) fits = (fits, tt)
operands_fit (Mult rs rt) fits = (fits.0, (fits.1, tt))
operands_fit (Multu rs rt) fits = (fits.0, (fits.1, tt))
operands_fit (Div rs rt) fits = (fits.0, (fits.1, tt))
operands_fit (Divu rs rt) fits = (fits.0, (fits.1, tt))
operands_fit (Add rd rs rt) fits = (fits.0, (fits.1, (fits.2, tt)))
operands_fit (Addu rd rs rt) fits = (fits.0, (fits.1, (fits.2, tt)))
operands_fit (Sub rd rs rt) fits = (fits.0, (fits.1, (fits.2, tt)))
operands_fit (Subu rd rs rt) fits = (fits.0, (fits.1, (fits.2, tt)))
operands_fit (And rd rs rt) fits = (fits.0, (fits.1, (fits.2, tt)))
operands_fit (Or rd rs rt) fits = (fits.0, (fits.1, (fits.2, tt)))
operands_fit (Xor rd rs rt) fits = (fits.0, (fits.1, (fits.2, tt)))
operands_fit (Nor rd rs rt) fits = (fits.0, (fits.1, (fits.2, tt)))
operands_fit (Slt rd rs rt) fits = (fits.0, (fits.1, (fits.2, tt)))
operands_fit (Sltu rd rs rt) fits = (fits.0, (fits.1, (fits.2, tt)))
operands_fit (Bltz rs imm) fits = (fits.0, (fits.1, tt))
operands_fit (Bgez rs imm) fits = (fits.0, (fits.1, tt))
operands_fit (Bltzal rs imm) fits = (fits.0, (fits.1, tt))
operands_fit (Bgezal rs imm) fits = (fits.0, (fits.1, tt))
operands_fit (J index) fits = (fits, tt)
operands_fit (Jal index) fits = (fits, tt)
operands_fit (Beq rs rt imm) fits = (fits.0, (fits.1, (fits.2, tt)))
operands_fit (Bne rs rt imm) fits = (fits.0, (fits.1, (fits.2, tt)))
operands_fit (Blez rs imm) fits = (fits.0, (fits.1, tt))
operands_fit (Bgtz rs imm) fits = (fits.0, (fits.1, tt))
operands_fit (Addi rt rs imm) fits = (fits.0, (fits.1, (fits.2, tt)))
operands_fit (Addiu rt rs imm) fits = (fits.0, (fits.1, (fits.2, tt)))
operands_fit (Slti rt rs imm) fits = (fits.0, (fits.1, (fits.2, tt)))
operands_fit (Sltiu rt rs imm) fits = (fits.0, (fits.1, (fits.2, tt)))
operands_fit (Andi rt rs imm) fits = (fits.0, (fits.1, (fits.2, tt)))
operands_fit (Ori rt rs imm) fits = (fits.0, (fits.1, (fits.2, tt)))
operands_fit (Xori rt rs imm) fits = (fits.0, (fits.1, (fits.2, tt)))
operands_fit (Lui rt imm) fits = (fits.0, (fits.1, tt))
operands_fit (Lb rt imm rs) fits = (fits.0, ((fits.1, fits.2), tt))
operands_fit (Lh rt imm rs) fits = (fits.0, ((fits.1, fits.2), tt))
operands_fit (Lwl rt imm rs) fits = (fits.0, ((fits.1, fits.2), tt))
operands_fit (Lw rt imm rs) fits = (fits.0, ((fits.1, fits.2), tt))
operands_fit (Lbu rt imm rs) fits = (fits.0, ((fits.1, fits.2), tt))
operands_fit (Lhu rt imm rs) fits = (fits.0, ((fits.1, fits.2), tt))
operands_fit (Lwr rt imm rs) fits = (fits.0, ((fits.1, fits.2), tt))
operands_fit (Sb rt imm rs) fits = (fits.0, ((fits.1, fits.2), tt))
operands_fit (Sh rt imm rs) fits = (fits.0, ((fits.1, fits.2), tt))
operands_fit (Swl rt imm rs) fits = (fits.0, ((fits.1, fits.2), tt))
operands_fit (Sw rt imm rs) fits = (fits.0, ((fits.1, fits.2), tt))
operands_fit (Swr rt imm rs) fits = (fits.0, ((fits.1, fits.2), tt))
operands_fit (Xlwn rt imm rs) fits = (fits.0, ((fits.1, fits.2), tt))
operands_fit (Xswn rt imm rs) fits = (fits.0, ((fits.1, fits.2), tt))
operands_fit (Xmvtn rs) fits = (fits.1, tt)
operands_fit (Xmvfn rd rs) fits = (fits.0.1, (fits.1.1, tt))
operands_fit Xexit fits = tt
operands_fit (Xhand rs) fits = (fits, tt)
operands_fit Xsigret fits = tt
operands_fit (Xinstall rs rt rd) fits = (fits.0, (fits.1, (fits.2, tt)))
operands_fit (Xenter rs) fits = (fits, tt)
operands_fit (Xresume rs rt) fits = (fits.0, (fits.1, tt))
operands_fit (Xsave rs rt rd) fits = (fits.0, (fits.1, (fits.2, tt)))
operands_fit (Xrestore rs rt rd) fits = (fits.0, (fits.1, (fits.2, tt)))
operands_fit (Xmap rs rt rd) fits = (fits.0, (fits.1, (fits.2, tt)))
operands_fit (Xunmap rs rt) fits = (fits.0, (fits.1, tt))
operands_fit (Xkill rs) fits = (fits, tt)
operands_fit (Xout rs) fits = (fits, tt)
operands_fit Xhalt fits = tt
operands_fit (Xstat rd) fits = (fits, tt)
operands_fit (Xcause rd) fits = (fits, tt)
operands_fit (Xarg rd) fits = (fits, tt)
operands_fit (Xwho rd) fits = (fits, tt)
