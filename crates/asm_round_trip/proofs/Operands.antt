-- The operands of an instruction, as their texts are read again.
use Rattle.std.proofs.Common.{◌≡◌, ℕ, zero, suc, ◌+◌, ◌/◌, ◌%◌, ◌^◌, ◌<◌, Bool, true, false, cond, ltb, ◌&&◌, ℤ, pos, negsuc, ◌+ℤ◌, ◌*ℤ◌, List, [], ◌∷◌, ◌++◌, map, inl, inr, Option, Some, None, refl, sym, ap, subst, ◌∙◌, arith, append_assoc, append-nil}
use Rattle.std.specs.Prelude.{slice_get}
use Rattle.std.specs.Fmt.{decimal, signed_decimal}
use Rattle.std.specs.List.{AllByRecursion, AllZip, slice_split}
use Rattle.std.specs.Str.{bytes_eq}
use Rattle.std.proofs.lemmas.Bool.{and_parts, cases_lt, le-ltb, lt-ltb, true≢false}
use Rattle.std.proofs.lemmas.Fmt.{decimal_digit, decimal_step}
use Rattle.std.proofs.lemmas.Slice.Eq.{bytes_eq-Decides}
use Rattle.mips_instruction.specs.Numbers.{jump_target, next_address, number_modulo_word, signed_16, target}
use Rattle.asm_tokens.specs.declared.integers.Integer.{Integer}
use Rattle.mips_forms.specs.declared.operand.Operand.{Operand}
use Rattle.mips_forms.specs.declared.operand.Operand.TheVariants as operand
use Rattle.asm_tokens.specs.declared.token.TokenKind.TheVariants as kinds
use Rattle.mips_forms.specs.Forms.{InRange, operand_kind_of}
use Rattle.asm_tokens.specs.Integers.{IsInteger}
use Rattle.asm_tokens.specs.Registers.{IsRegister, register_numbers}
use Rattle.mips_text.specs.Texts.{comma_joined, operand_text, operand_value, operands_text, register_text}
use Rattle.asm_tokens.specs.Tokens.{NoNameByte}
use Rattle.asm_tokens.proofs.IntegerLaws.{integer_of-exact}
use Rattle.asm_tokens.proofs.RegisterLaws.{register_of-exact}
use Rattle.asm_source.specs.declared.argument.Argument.{Argument}
use Rattle.asm_source.specs.declared.argument.Argument.TheVariants as argument
use Rattle.asm_source.specs.declared.argument.Value.TheVariants as values
use Rattle.asm_syntax.specs.declared.lexeme.Lexeme.{Lexeme}
use Rattle.asm_syntax.specs.declared.lexeme.Lexeme.TheVariants.{Number, Register, Comma, Left, Right}
use Rattle.asm_syntax.specs.Arguments.{argument_of, arguments_of, is_comma}
use Rattle.asm_syntax.specs.Forms.{map_some}
use Rattle.asm_syntax.specs.Lines.{may_be, may_be_all}
use Rattle.asm_round_trip.specs.Printed.{PrintsArgument}
use Rattle.asm_round_trip.proofs.Lexed.{Lexes, lexes_none, lexes_space, lexes_token}
use Rattle.asm_round_trip.proofs.Numerals.{address-integer, printed, signed-integer, signed_16-small, whole-printed}

-- ---- registers

-- a number below 100 in decimal
abbrev short : ℕ → List ℕ
short n = cond (ltb n 10) ((48 + n) ∷ []) ((48 + n / 10) ∷ (48 + n % 10) ∷ [])

-- that is what is printed
short-decimal : (n : ℕ) → n < 100 → decimal n ≡ short n
short-decimal n small =
    elim (cases_lt n 10) [
      | inl low ↦ decimal_digit n low ∙ sym (rw (lt-ltb n 10 low) refl)
      | inr high ↦
          decimal_step n high (omega arith) ∙ ap (λ (front : List ℕ). front ++ ((48 + n % 10) ∷ []))
          (decimal_digit (n / 10) (omega arith))
          ∙ sym (rw (le-ltb n 10 high) refl)
    ]

-- it is that text
is_text : Option (List ℕ) → List ℕ → Bool
is_text None text = false
is_text (Some found) text = bytes_eq found text

-- that is what the test says
is_text-true : (o : Option (List ℕ)) (text : List ℕ) → is_text o text ≡ true → o ≡ Some text
unfolding is_text
is_text-true None text h = absurd (true≢false (sym h))
is_text-true (Some found) text h = ap Some ((bytes_eq-Decides found text).0 h)

-- the table has the numbers below n
numbered : ℕ → Bool
numbered zero = true
numbered (suc n) = is_text (slice_get register_numbers n) (36 ∷ short n) && numbered n

-- so each of them stands at its place
numbered-at : (n r : ℕ) → numbered n ≡ true → r < n
    → slice_get register_numbers r ≡ Some (36 ∷ short r)
unfolding numbered
numbered-at zero r h below = absurd (omega arith)
numbered-at (suc n) r h below =
    let parts = and_parts (is_text (slice_get register_numbers n) (36 ∷ short n)) (numbered n) h in
    elim (cases_lt r n) [
      | inl less ↦ numbered-at n r parts.1 less
      | inr top ↦
          let same : r ≡ n = omega arith in
          rw same (is_text-true (slice_get register_numbers n) (36 ∷ short n) parts.0)
    ]

-- it has all 32
numbered-all : numbered 32 ≡ true
unfolding numbered is_text register_numbers
numbered-all = refl

-- a register is written by its number
register-written : (r : ℕ) → r < 32 → IsRegister (register_text r) r
register-written r fits =
    inl
    (numbered-at 32 r numbered-all fits ∙ ap (λ (digits : List ℕ). Some (36 ∷ digits))
    (sym (short-decimal r (omega arith))))

-- ---- pieces

-- a number in front
pub lexes_number : (text behind : List ℕ) (n : Integer) (lexemes : List Lexeme) → IsInteger text n
    → NoNameByte behind → Lexes behind lexemes → Lexes (text ++ behind) (Number n ∷ lexemes)
lexes_number text behind n lexemes is ends more =
    let read = (integer_of-exact text n).1 is in
    lexes_token kinds.Number text behind (Number n) lexemes (n, is) ends (rw read refl) more

-- a register in front
lexes_register : (r : ℕ) (behind : List ℕ) (lexemes : List Lexeme) → r < 32 → NoNameByte behind
    → Lexes behind lexemes → Lexes (register_text r ++ behind) (Register r ∷ lexemes)
lexes_register r behind lexemes fits ends more =
    let is = register-written r fits in
    let read = (register_of-exact (register_text r) r).1 is in
    lexes_token kinds.Register (register_text r) behind (Register r) lexemes (r, is) ends
    (rw read refl) more

-- parentheses round a register
lexes_base : (r : ℕ) (behind : List ℕ) (lexemes : List Lexeme) → r < 32 → Lexes behind lexemes
    → Lexes (40 ∷ (register_text r ++ 41 ∷ behind)) (Left ∷ Register r ∷ Right ∷ lexemes)
lexes_base r behind lexemes fits more =
    lexes_token kinds.Left (40 ∷ []) (register_text r ++ 41 ∷ behind) Left (Register r ∷ Right
    ∷ lexemes) refl tt refl
    (lexes_register r (41 ∷ behind) (Right ∷ lexemes) fits refl
    (lexes_token kinds.Right (41 ∷ []) behind Right lexemes refl tt refl more))

-- ---- one operand

-- the lexemes of an operand of the instruction at pc
abbrev pub lexed : (pc : ℕ) → Operand → List Lexeme
lexed pc (operand.Register r) = Register r ∷ []
lexed pc (operand.Offset imm base) =
    Number (printed (signed_16 imm)) ∷ Left ∷ Register base ∷ Right ∷ []
lexed pc v = Number (printed (operand_value pc v)) ∷ []

-- and the argument that they are
abbrev pub shown : (pc : ℕ) → Operand → Argument
shown pc (operand.Register r) = argument.Register r
shown pc (operand.Offset imm base) = argument.Offset (values.Number (printed (signed_16 imm))) base
shown pc v = argument.Value (values.Number (printed (operand_value pc v)))

-- what is reduced to 32 bits
reduced-below : (z : ℤ) → number_modulo_word z < 2 ^ 32
reduced-below (pos n) = omega arith
reduced-below (negsuc n) = omega arith

-- targets are addresses
target-below : (following imm : ℕ) → target following imm < 2 ^ 32
target-below following imm = reduced-below (pos following +ℤ signed_16 imm *ℤ pos 4)

jump_target-below : (pc index : ℕ) → index < 2 ^ 26 → jump_target (next_address pc) index < 2 ^ 32
jump_target-below pc index fits = omega arith

-- a number without a sign
lexes_decimal : (n : ℕ) (behind : List ℕ) (lexemes : List Lexeme) → n < 2 ^ 32 → NoNameByte behind
    → Lexes behind lexemes → Lexes (decimal n ++ behind) (Number (printed (pos n)) ∷ lexemes)
lexes_decimal n behind lexemes small =
    lexes_number (decimal n) behind (printed (pos n)) lexemes (signed-integer (pos n) small)

-- an offset with what stands behind it
offset_parts : (front base behind : List ℕ)
    → (front ++ (40 ∷ (base ++ 41 ∷ []))) ++ behind ≡ front ++ (40 ∷ (base ++ 41 ∷ behind))
offset_parts front base behind = simp append_assoc

-- an operand is read as its lexemes
lexes_operand : (pc : ℕ) (v : Operand) (behind : List ℕ) (lexemes : List Lexeme) → InRange v
    → NoNameByte behind → Lexes behind lexemes
    → Lexes (operand_text pc v ++ behind) (lexed pc v ++ lexemes)
lexes_operand pc (operand.Register r) behind lexemes fits ends more =
    lexes_register r behind lexemes fits ends more
lexes_operand pc (operand.Shift n) behind lexemes fits ends more =
    lexes_decimal n behind lexemes (omega arith) ends more
lexes_operand pc (operand.Signed imm) behind lexemes fits ends more =
    lexes_number (signed_decimal (signed_16 imm)) behind (printed (signed_16 imm)) lexemes
    (signed-integer (signed_16 imm) (signed_16-small imm fits)) ends more
lexes_operand pc (operand.Unsigned n) behind lexemes fits ends more =
    lexes_decimal n behind lexemes (omega arith) ends more
lexes_operand pc (operand.Code n) behind lexemes fits ends more =
    lexes_decimal n behind lexemes (omega arith) ends more
lexes_operand pc (operand.Branch imm) behind lexemes fits ends more =
    let address : ℕ = target (next_address pc) imm in
    lexes_number (operand_text pc (operand.Branch imm)) behind (printed (pos address)) lexemes
    (address-integer address (target-below (next_address pc) imm)) ends more
lexes_operand pc (operand.Jump index) behind lexemes fits ends more =
    let address : ℕ = jump_target (next_address pc) index in
    lexes_number (operand_text pc (operand.Jump index)) behind (printed (pos address)) lexemes
    (address-integer address (jump_target-below pc index fits)) ends more
lexes_operand pc (operand.Offset imm base) behind lexemes fits ends more =
    let number = signed-integer (signed_16 imm) (signed_16-small imm fits.0) in
    subst (λ (text : List ℕ). Lexes text (lexed pc (operand.Offset imm base) ++ lexemes))
    (sym (offset_parts (signed_decimal (signed_16 imm)) (register_text base) behind))
    (lexes_number (signed_decimal (signed_16 imm)) (40 ∷ (register_text base ++ 41 ∷ behind))
    (printed (signed_16 imm)) (Left ∷ Register base ∷ Right ∷ lexemes) number refl
    (lexes_base base behind lexemes fits.1 more))

-- those lexemes are its argument
argument-lexed : (pc : ℕ) (v : Operand) → argument_of (lexed pc v) ≡ Some (shown pc v)
unfolding argument_of
argument-lexed pc (operand.Register r) = refl
argument-lexed pc _ = refl

-- which shows the operand
shows-shown : (pc : ℕ) (v : Operand) → PrintsArgument pc v (shown pc v)
shows-shown pc (operand.Register r) = refl
shows-shown pc (operand.Offset imm base) =
    (printed (signed_16 imm), whole-printed (signed_16 imm), refl)
shows-shown pc (operand.Shift n) = (printed (pos n), refl, refl)
shows-shown pc (operand.Signed imm) = (printed (signed_16 imm), whole-printed (signed_16 imm), refl)
shows-shown pc (operand.Unsigned n) = (printed (pos n), refl, refl)
shows-shown pc (operand.Code n) = (printed (pos n), refl, refl)
shows-shown pc (operand.Branch imm) = (printed (pos (target (next_address pc) imm)), refl, refl)
shows-shown pc (operand.Jump index) = (printed (pos (jump_target (next_address pc) index)), refl, refl)

-- and may stand for its kind
may_be-shown : (pc : ℕ) (v : Operand) → may_be (operand_kind_of v) (shown pc v) ≡ true
may_be-shown pc (operand.Register r) = refl
may_be-shown pc _ = refl

-- ---- all operands

-- the lexemes of operands, with commas between them
abbrev pub all_lexed : (pc : ℕ) → List Operand → List Lexeme
all_lexed pc [] = []
all_lexed pc (v ∷ []) = lexed pc v
all_lexed pc (v ∷ next ∷ vs) = lexed pc v ++ (Comma ∷ all_lexed pc (next ∷ vs))

-- the texts of operands
abbrev operand_texts : (pc : ℕ) → List Operand → List (List ℕ)
operand_texts pc vs = map (operand_text pc) vs

-- they are read as their lexemes
lexes_joined : (pc : ℕ) (vs : List Operand) → AllByRecursion InRange vs
    → Lexes (comma_joined (operand_texts pc vs)) (all_lexed pc vs)
lexes_joined pc [] fits = lexes_none
lexes_joined pc (v ∷ []) fits =
    let alone = lexes_operand pc v [] [] fits.0 tt lexes_none in
    rw (append-nil (operand_text pc v), append-nil (lexed pc v)) at alone
lexes_joined pc (v ∷ next ∷ vs) fits =
    let others : List ℕ = comma_joined (operand_texts pc (next ∷ vs)) in
    let rest : List Lexeme = all_lexed pc (next ∷ vs) in
    lexes_operand pc v (44 ∷ 32 ∷ others) (Comma ∷ rest) fits.0 refl
    (lexes_token kinds.Comma (44 ∷ []) (32 ∷ others) Comma rest refl tt refl
    (lexes_space others rest (lexes_joined pc (next ∷ vs) fits.1)))

-- behind a mnemonic
pub lexes_operands : (pc : ℕ) (vs : List Operand) → AllByRecursion InRange vs
    → Lexes (operands_text (operand_texts pc vs)) (all_lexed pc vs)
lexes_operands pc [] fits = lexes_none
lexes_operands pc (v ∷ vs) fits =
    lexes_space (comma_joined (operand_texts pc (v ∷ vs))) (all_lexed pc (v ∷ vs))
    (lexes_joined pc (v ∷ vs) fits)

-- no name byte follows the mnemonic
pub operands_end : (pc : ℕ) (vs : List Operand) → NoNameByte (operands_text (operand_texts pc vs))
operands_end pc [] = tt
operands_end pc (v ∷ vs) = refl

-- the first operand goes up to its comma
split-first : (pc : ℕ) (v : Operand) (rest : List Lexeme)
    → slice_split is_comma (lexed pc v ++ (Comma ∷ rest)) ≡ lexed pc v ∷ slice_split is_comma rest
split-first pc (operand.Register r) rest = refl
split-first pc _ rest = refl

-- and the last one to the end
split-last : (pc : ℕ) (v : Operand) → slice_split is_comma (lexed pc v) ≡ lexed pc v ∷ []
split-last pc (operand.Register r) = refl
split-last pc _ = refl

-- cut at their commas, they are the arguments
arguments-split : (pc : ℕ) (v : Operand) (vs : List Operand)
    → map_some argument_of (slice_split is_comma (all_lexed pc (v ∷ vs))) ≡ Some (map (shown pc)
    (v ∷ vs))
arguments-split pc v [] = rw (split-last pc v, argument-lexed pc v) refl
arguments-split pc v (next ∷ vs) =
    rw (
      split-first pc v (all_lexed pc (next ∷ vs)),
      argument-lexed pc v,
      arguments-split pc next
          vs,
    ) refl

-- there is a lexeme to cut
arguments-cut : (pc : ℕ) (v : Operand) (vs : List Operand)
    → arguments_of (all_lexed pc (v ∷ vs)) ≡ map_some argument_of
    (slice_split is_comma (all_lexed pc (v ∷ vs)))
unfolding arguments_of
arguments-cut pc (operand.Register r) [] = refl
arguments-cut pc _ [] = refl
arguments-cut pc (operand.Register r) (next ∷ vs) = refl
arguments-cut pc _ (next ∷ vs) = refl

-- the arguments of the lexemes are those that are shown
pub arguments-lexed : (pc : ℕ) (vs : List Operand)
    → arguments_of (all_lexed pc vs) ≡ Some (map (shown pc) vs)
unfolding arguments_of
arguments-lexed pc [] = refl
arguments-lexed pc (v ∷ vs) = arguments-cut pc v vs ∙ arguments-split pc v vs

-- each shows its operand
pub all_shown : (pc : ℕ) (vs : List Operand) → AllZip (PrintsArgument pc) vs (map (shown pc) vs)
all_shown pc [] = tt
all_shown pc (v ∷ vs) = (shows-shown pc v, all_shown pc vs)

-- and they may stand for the kinds of the operands
pub may_be_all-shown : (pc : ℕ) (vs : List Operand)
    → may_be_all (map operand_kind_of vs) (map (shown pc) vs) ≡ true
may_be_all-shown pc [] = refl
may_be_all-shown pc (v ∷ vs) = rw (may_be-shown pc v, may_be_all-shown pc vs) refl
