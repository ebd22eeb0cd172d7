-- The text of a word is one line: no byte in it ends a line.
use Rattle.std.proofs.Common.{◌≡◌, ℕ, zero, suc, ◌+◌, ◌/◌, ◌%◌, ◌==◌, false, eqb, ltb, ℤ, pos, negsuc, List, [], ◌∷◌, ◌++◌, get_or, map, Option, Some, None, refl, ◌∙◌, arith}
use Rattle.std.specs.Prelude.{codes}
use Rattle.std.specs.Fmt.{decimal, digit_glyph, digits, digits_onto, signed_decimal}
use Rattle.std.specs.Int.{w32, to_be_bytes}
use Rattle.std.specs.List.{AllByRecursion, list_any}
use Rattle.std.proofs.lemmas.Bool.{cond_both, ne_eqb, or_from, or_parts}
use Rattle.std.proofs.lemmas.List.Folds.{list_any-append}
use Rattle.hex.specs.Hex.{encode_lower, encode_with, lower_digits}
use Rattle.mips_instruction.specs.Words.{instruction_of_word}
use Rattle.mips_instruction.specs.declared.instruction.Ins.{Ins}
use Rattle.mips_instruction.specs.declared.instruction.Ins.TheVariants.{Sll}
use Rattle.mips_instruction.specs.Numbers.{signed_16}
use Rattle.mips_forms.specs.Forms.{form_of}
use Rattle.mips_text.specs.Texts.{address_text, comma_joined, instruction_text, operand_text, operands_text, read_text, word_text}
use Rattle.mips_forms.specs.declared.operand.Operand.{Operand}
use Rattle.mips_forms.specs.declared.operand.Operand.TheVariants.{Register, Shift, Signed, Unsigned, Code, Branch, Jump, Offset}

-- no byte ends a line
abbrev pub OneLine : List ℕ → Type 0
OneLine text = list_any (λ byte. eqb byte 10) text ≡ false

-- two pieces of one line are one
one_line-append : (a b : List ℕ) → OneLine a → OneLine b → OneLine (a ++ b)
one_line-append a b p q =
    list_any-append (λ byte. eqb byte 10) a b
    ∙ or_from (list_any (λ byte. eqb byte 10) a) (list_any (λ byte. eqb byte 10) b) p q

-- the same, byte by byte
pub one_line-each : (text : List ℕ) → OneLine text
    → AllByRecursion (λ byte. eqb byte 10 ≡ false) text
one_line-each [] one = tt
one_line-each (byte ∷ text) one =
    let parts = or_parts (eqb byte 10) (list_any (λ byte. eqb byte 10) text) one in
    (parts.0, one_line-each text parts.1)

-- ---- numbers

-- a digit ends no line
glyph-plain : (d : ℕ) → eqb (digit_glyph false d) 10 ≡ false
glyph-plain d =
    cond_both (ltb d 10) (48 + d) (87 + d) (λ byte. eqb byte 10 ≡ false)
    (λ low. ne_eqb (48 + d) 10 (λ same. omega arith))
    (λ high. ne_eqb (87 + d) 10 (λ same. omega arith))

-- one more byte in front
one_line-cons : (byte : ℕ) (text : List ℕ) → eqb byte 10 ≡ false → OneLine text
    → OneLine (byte ∷ text)
one_line-cons byte text plain one = or_from (eqb byte 10) (list_any (λ b. eqb b 10) text) plain one

-- digits in front of one line
digits-one : (k n : ℕ) (behind : List ℕ) → OneLine behind
    → OneLine (digits_onto k 10 false n behind)
digits-one zero n behind one = one
digits-one (suc k) n behind one =
    let more = one_line-cons (digit_glyph false (n % 10)) behind (glyph-plain (n % 10)) one in
    cond_both (n / 10 == 0) (digit_glyph false (n % 10) ∷ behind)
    (digits_onto k 10 false (n / 10) (digit_glyph false (n % 10) ∷ behind)) OneLine
    (λ last. more) (λ others. digits-one k (n / 10) (digit_glyph false (n % 10) ∷ behind) more)

-- a number in decimal
decimal-one : (n : ℕ) → OneLine (decimal n)
unfolding digits
decimal-one n = digits-one 64 n [] refl

-- and with a sign
signed-one : (z : ℤ) → OneLine (signed_decimal z)
signed-one (pos n) = decimal-one n
signed-one (negsuc n) = decimal-one (suc n)

-- what is read from one line, or past its end
place-plain : (text : List ℕ) (i : ℕ) → OneLine text → eqb (get_or text i 0) 10 ≡ false
place-plain [] i one = refl
place-plain (byte ∷ text) zero one = (or_parts (eqb byte 10) (list_any (λ b. eqb b 10) text) one).0
place-plain (byte ∷ text) (suc i) one =
    place-plain text i (or_parts (eqb byte 10) (list_any (λ b. eqb b 10) text) one).1

-- bytes in hexadecimal
encode-one : (bytes : List ℕ) → OneLine (encode_lower bytes)
unfolding encode_with
encode-one [] = refl
encode-one (b ∷ bytes) =
    one_line-cons (get_or lower_digits (b / 16) 0) (get_or lower_digits (b % 16) 0
    ∷ encode_lower bytes) (place-plain lower_digits (b / 16) refl)
    (one_line-cons (get_or lower_digits (b % 16) 0) (encode_lower bytes)
    (place-plain lower_digits (b % 16) refl) (encode-one bytes))

-- an address
address-one : (address : ℕ) → OneLine (address_text address)
address-one address = encode-one (to_be_bytes w32 address)

-- ---- instructions

-- an operand
operand-one : (pc : ℕ) (v : Operand) → OneLine (operand_text pc v)
operand-one pc (Register r) = decimal-one r
operand-one pc (Shift amount) = decimal-one amount
operand-one pc (Signed imm) = signed-one (signed_16 imm)
operand-one pc (Unsigned imm) = decimal-one imm
operand-one pc (Code code) = decimal-one code
operand-one pc (Branch imm) = address-one _
operand-one pc (Jump index) = address-one _
operand-one pc (Offset imm base) =
    one_line-append (signed_decimal (signed_16 imm)) _ (signed-one (signed_16 imm))
    (one_line-append (decimal base) (codes ")") (decimal-one base) refl)

-- operands, with commas between them
joined-one : (pc : ℕ) (vs : List Operand) → OneLine (comma_joined (map (operand_text pc) vs))
joined-one pc [] = refl
joined-one pc (v ∷ []) = operand-one pc v
joined-one pc (v ∷ w ∷ vs) =
    one_line-append (operand_text pc v) (codes ", " ++ comma_joined (map (operand_text pc) (w ∷ vs)))
    (operand-one pc v) (joined-one pc (w ∷ vs))

-- all operands of an instruction
operands-one : (pc : ℕ) (vs : List Operand) → OneLine (operands_text (map (operand_text pc) vs))
operands-one pc [] = refl
operands-one pc (v ∷ vs) = joined-one pc (v ∷ vs)

-- a mnemonic
name-one : (i : Ins) → OneLine (form_of i).0
name-one (Sll rd rt sa) = refl
name-one _ = refl

-- an instruction
text-one : (i : Ins) (pc : ℕ) → OneLine (instruction_text i pc)
unfolding instruction_text
text-one i pc =
    one_line-append (form_of i).0 (operands_text (map (operand_text pc) (form_of i).1)) (name-one i)
    (operands-one pc (form_of i).1)

-- the text of what was read of a word
read-one : (found : Option Ins) (word pc : ℕ) → OneLine (read_text found word pc)
read-one (Some i) word pc = text-one i pc
read-one None word pc = address-one word

-- the text of a word
pub no_line_end : (word pc : ℕ) → OneLine (word_text word pc)
no_line_end word pc = read-one (instruction_of_word word) word pc
