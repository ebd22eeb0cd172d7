-- The instructions that the short forms are.
use Rattle.std.proofs.Common.{◌≡◌, ℕ, ◌%◌, ◌^◌, ◌<◌, ◌&&◌, ◌==◌, leb, Bool, true, false, cond, List, [], ◌∷◌, Option, Some, None, option_map, refl, sym, ap, subst, ◌∙◌, arith, codes}
use Rattle.std.proofs.lemmas.Bool.{and_parts, eqb-true, leb-true}
use Rattle.std.proofs.lemmas.Option.{cond_some, none-some, option_and_then_some as steps, same_Some}
use Rattle.xom_base.specs.Options.{◌>>=◌}
use Rattle.mips_instruction.specs.declared.instruction.Ins.{Ins}
use Rattle.mips_instruction.specs.declared.instruction.Ins.TheVariants.{Addiu, Addu, Beq, Ori, Sll}
use Rattle.mips_forms.proofs.FormTable.{built_form, kinds_of_forms}
use Rattle.asm_tokens.specs.declared.integers.Integer.{Integer}
use Rattle.asm_source.specs.declared.argument.Argument.{Argument}
use Rattle.asm_source.specs.declared.argument.Argument.TheVariants.{Register, Value}
use Rattle.asm_source.specs.declared.argument.Value.{Value as ValueType}
use Rattle.asm_source.specs.declared.argument.Value.TheVariants.{Number, Label}
use Rattle.asm_source.specs.declared.content.Content.{Content}
use Rattle.asm_source.specs.declared.content.Content.TheVariants.{LoadNumber, LoadAddress, Instruction}
use Rattle.asm_syntax.specs.Arguments.{zero_argument}
use Rattle.asm_syntax.specs.Lines.{b_statement, la_statement, li_statement, mnemonic_statement, move_statement, nop_statement, statement_of}
use Rattle.mips_asm.specs.Encoding.{AreWords, IsCode, StatementGives, branch_field, field_of, instruction_address, instruction_at, load_address, load_halves, load_number, one_instruction, operand_of, operands_of, twos_complement, value_number}
use Rattle.mips_asm.specs.Layout.{in_range}
use Rattle.mips_asm.specs.Passes.{Labels}
use Rattle.asm_laws.specs.ShortForms.{StandsIn}

-- ---- Contents

pub li_is : (reg : ℕ) (n : Integer)
    → statement_of (codes "li") (Register reg ∷ Value (Number n) ∷ []) ≡ Some (LoadNumber reg n)
unfolding statement_of mnemonic_statement li_statement
li_is reg n = refl

pub la_is : (reg : ℕ) (name : List ℕ)
    → statement_of (codes "la") (Register reg ∷ Value (Label name) ∷ []) ≡ Some (LoadAddress reg
    name)
unfolding statement_of mnemonic_statement la_statement
la_is reg name = refl

pub move_is : (a b : ℕ)
    → statement_of (codes "move") (Register a ∷ Register b ∷ []) ≡ Some (Instruction (codes "addu")
    (Register a ∷ Register b ∷ Register 0 ∷ []))
unfolding statement_of mnemonic_statement move_statement
move_is a b = refl

pub nop_is : statement_of (codes "nop") [] ≡ Some (Instruction (codes "sll")
    (Register 0 ∷ Register 0 ∷ zero_argument ∷ []))
unfolding statement_of mnemonic_statement nop_statement
nop_is = refl

pub b_is : (target : ValueType)
    → statement_of (codes "b") (Value target ∷ []) ≡ Some (Instruction (codes "beq")
    (Register 0 ∷ Register 0 ∷ Value target ∷ []))
unfolding statement_of mnemonic_statement b_statement
b_is target = refl

-- what a statement in memory gives
pub gives_as : (memory own : List ℕ) (labels : Labels) (place : ℕ) (name : List ℕ)
    (operands : List Argument) (content : Content)
    → StandsIn memory labels place name operands own
    → statement_of name operands ≡ Some content → StatementGives labels place content own
gives_as memory own labels place name operands content stands is =
    subst (λ (c : Content). StatementGives labels place c own)
    (same_Some stands.content content (sym stands.statement ∙ is)) stands.gives

-- ---- Instructions

-- code, by the instructions that it is
pub code_as : (place : ℕ) (made : Option (List Ins)) (is : List Ins) (own : List ℕ)
    → IsCode place made own → made ≡ Some is → AreWords is own
code_as place made is own code known =
    subst (λ (l : List Ins). AreWords l own) (same_Some code.0 is (sym code.2 ∙ known)) code.3

pub addu_at : (labels : Labels) (place a b : ℕ)
    → instruction_at labels place (codes "addu") (Register a ∷ Register b ∷ Register 0 ∷ [])
    ≡ Some (Addu a b 0)
unfolding instruction_at operands_of operand_of
addu_at labels place a b = rw (kinds_of_forms (Addu a b 0)) (built_form (Addu a b 0))

pub sll_at : (labels : Labels) (place : ℕ)
    → instruction_at labels place (codes "sll") (Register 0 ∷ Register 0 ∷ zero_argument ∷ [])
    ≡ Some (Sll 0 0 0)
unfolding instruction_at operands_of operand_of field_of
sll_at labels place = rw (kinds_of_forms (Sll 0 0 0)) (built_form (Sll 0 0 0))

-- the branch with this field, if there is one
abbrev beq_of : Option ℕ → Option Ins
beq_of None = None
beq_of (Some imm) = Some (Beq 0 0 imm)

beq_by : (labels : Labels) (place : ℕ) (target : ValueType) (n : Integer) (field : Option ℕ)
    → value_number labels target ≡ Some n → (instruction_address n >>= branch_field place) ≡ field
    → instruction_at labels place (codes "beq") (Register 0 ∷ Register 0 ∷ Value target ∷ [])
    ≡ beq_of field
unfolding instruction_at operands_of operand_of field_of
beq_by labels place target n None known is = rw (kinds_of_forms (Beq 0 0 0), known, is) refl
beq_by labels place target n (Some imm) known is =
    rw (kinds_of_forms (Beq 0 0 0), known, is) (built_form (Beq 0 0 imm))

pub beq_at : (labels : Labels) (place : ℕ) (target : ValueType) (n : Integer)
    → value_number labels target ≡ Some n
    → instruction_at labels place (codes "beq") (Register 0 ∷ Register 0 ∷ Value target ∷ [])
    ≡ beq_of (instruction_address n >>= branch_field place)
beq_at labels place target n known =
    beq_by labels place target n (instruction_address n >>= branch_field place) known refl

-- a branch that is code has a field, of an address
pub record HasField (place : ℕ) (n : Integer) (own : List ℕ) : Type 0 where
  pub imm : ℕ
  pub address : n.magnitude < 2 ^ 32
  pub words : n.magnitude % 4 ≡ 0
  pub field : branch_field place n.magnitude ≡ Some imm
  pub code : AreWords (Beq 0 0 imm ∷ []) own

in_range-below : (b : Bool) (m : ℕ) → cond b (leb m 0) (leb m 4294967295) ≡ true → m < 2 ^ 32
in_range-below true m fits = let most = leb-true m 0 fits in omega arith
in_range-below false m fits = let most = leb-true m 4294967295 fits in omega arith

pub has_field : (labels : Labels) (place : ℕ) (target : ValueType) (n : Integer) (own : List ℕ)
    → value_number labels target ≡ Some n
    → IsCode place (option_map one_instruction (instruction_at labels place (codes "beq")
    (Register 0 ∷ Register 0 ∷ Value target ∷ []))) own
    → HasField place n own
has_field labels place target n own known code = by_field (instruction_address n >>= branch_field place) refl
    (sym (ap (option_map one_instruction) (beq_at labels place target n known)) ∙ code.2)
  where
    by_field : (field : Option ℕ) → (instruction_address n >>= branch_field place) ≡ field
        → option_map one_instruction (beq_of field) ≡ Some code.0 → HasField place n own
    by_field None is made = absurd (none-some code.0 made)
    by_field (Some imm) is made =
        steps (branch_field place) (instruction_address n) imm is (λ address given reaches.
        let tested = cond_some (in_range 0 4294967295 n && (n.magnitude % 4 == 0)) n.magnitude
        address given in
        let parts = and_parts (in_range 0 4294967295 n) (n.magnitude % 4 == 0) tested.0 in
        record {
          imm = imm;
          address = in_range-below n.negative n.magnitude parts.0;
          words = eqb-true (n.magnitude % 4) 0 parts.1;
          field = subst (λ (a : ℕ). branch_field place a ≡ Some imm) (sym tested.1) reaches;
          code = subst (λ (is : List Ins). AreWords is own)
              (sym (same_Some (Beq 0 0 imm ∷ []) code.0 made)) code.3;
        })

-- `li` by its three lengths and instructions
pub li_by_addiu : (reg : ℕ) (n : Integer) → in_range 32768 32767 n ≡ true
    → load_number reg n ≡ Some (Addiu reg 0 (twos_complement 16 n) ∷ [])
unfolding load_number
li_by_addiu reg n small = rw small refl

pub li_by_ori : (reg : ℕ) (n : Integer) → in_range 32768 32767 n ≡ false → in_range 0 65535 n ≡ true
    → load_number reg n ≡ Some (Ori reg 0 n.magnitude ∷ [])
unfolding load_number
li_by_ori reg n large small = rw (large, small) refl

pub li_by_halves : (reg : ℕ) (n : Integer) (is : List Ins) → in_range 32768 32767 n ≡ false
    → in_range 0 65535 n ≡ false → load_number reg n ≡ Some is
    → (in_range 2147483648 4294967295 n ≡ true) × (load_halves reg (twos_complement 32 n) ≡ is)
unfolding load_number
li_by_halves reg n is large more found =
    cond_some (in_range 2147483648 4294967295 n) (load_halves reg (twos_complement 32 n)) is
    (rw (large, more) at found)

-- `la`
pub la_by_halves : (labels : Labels) (reg address : ℕ) (name : List ℕ) (is : List Ins)
    → labels name ≡ Some address → load_address labels reg name ≡ Some is
    → (leb address 4294967295 ≡ true) × (load_halves reg address ≡ is)
unfolding load_address
la_by_halves labels reg address name is known found =
    cond_some (leb address 4294967295) (load_halves reg address) is (rw known at found)
