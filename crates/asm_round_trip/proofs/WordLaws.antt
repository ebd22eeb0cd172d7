-- The text of a word is a line that writes the word again.
use Rattle.std.proofs.Common.{◌≡◌, ℕ, ◌+◌, ◌%◌, ◌^◌, ◌<◌, pos, List, [], ◌∷◌, ◌++◌, map, Option, Some, None, refl, sym, ap, subst, ◌∙◌, arith, append-nil}
use Rattle.std.specs.Prelude.{codes}
use Rattle.std.specs.Int.{w32, to_be_bytes}
use Rattle.std.proofs.lemmas.Bool.{le-leb}
use Rattle.mips_isa.proofs.Reading.{read-Word}
use Rattle.mips_instruction.specs.Words.{Fits, instruction_of_word}
use Rattle.mips_instruction.specs.declared.instruction.Ins.{Ins}
use Rattle.mips_instruction.specs.declared.instruction.Ins.TheVariants.{Jalr}
use Rattle.mips_forms.proofs.FormTable.{kinds_of_forms, operands_fit}
use Rattle.asm_tokens.specs.declared.integers.Integer.{Integer}
use Rattle.mips_forms.specs.declared.operand.Operand.{Operand}
use Rattle.mips_forms.specs.declared.operand.Operand.TheVariants as operand
use Rattle.asm_tokens.specs.declared.token.TokenKind.TheVariants as kinds
use Rattle.mips_forms.specs.Forms.{form_of}
use Rattle.asm_tokens.specs.Lexemes.{IsName}
use Rattle.mips_text.specs.Texts.{address_text, instruction_text, operand_text, operands_text, read_text}
use Rattle.asm_source.specs.declared.argument.Argument.{Argument}
use Rattle.asm_source.specs.declared.argument.Argument.TheVariants as argument
use Rattle.asm_source.specs.declared.argument.Value.TheVariants as values
use Rattle.asm_source.specs.declared.content.Content.{Content}
use Rattle.asm_source.specs.declared.content.Content.TheVariants.{Instruction, Words}
use Rattle.asm_syntax.specs.declared.lexeme.Lexeme.{Lexeme}
use Rattle.asm_syntax.specs.declared.lexeme.Lexeme.TheVariants.{Name, Number}
use Rattle.asm_syntax.specs.Arguments.{argument_of, arguments_of}
use Rattle.xom_base.specs.Options.{◌>>=◌}
use Rattle.asm_syntax.specs.Lines.{coded_statement, instruction_statement, jalr_statement, line_parts, mnemonic_statement, part_of_line, parts_of_line, statement_of, statement_parts, word_statement as words_of}
use Rattle.asm_round_trip.proofs.PrintedLaws.{printed_is_assembled}
use Rattle.mips_asm.specs.Encoding.{StatementGives, join_some, word_value}
use Rattle.mips_asm.specs.Passes.{Labels}
use Rattle.asm_round_trip.specs.Listed.{WordsAreReadAgain}
use Rattle.asm_round_trip.proofs.Lexed.{Lexes, lexes_line, lexes_none, lexes_space, lexes_token}
use Rattle.asm_round_trip.proofs.Numerals.{address-integer, printed}
use Rattle.asm_round_trip.proofs.Operands.{all_lexed, all_shown, arguments-lexed, lexes_operands, lexes_number, may_be_all-shown, operands_end, shown}

-- ---- instructions

-- a mnemonic is a name
mnemonic-name : (i : Ins) → IsName (form_of i).0
mnemonic-name (Jalr rd rs) = (refl, refl)
mnemonic-name _ = (refl, refl)

-- the text of an instruction, in lexemes
lexes_text : (i : Ins) (pc : ℕ) → Fits i
    → Lexes (instruction_text i pc) (Name (form_of i).0 ∷ all_lexed pc (form_of i).1)
unfolding instruction_text
lexes_text i pc fits =
    let vs : List Operand = (form_of i).1 in
    lexes_token kinds.Name (form_of i).0 (operands_text (map (operand_text pc) vs))
    (Name (form_of i).0) (all_lexed pc vs) (mnemonic-name i) (operands_end pc vs) refl
    (lexes_operands pc vs (operands_fit i fits))

-- no label stands in front
no_label : (number pc : ℕ) (name : List ℕ) (vs : List Operand)
    → parts_of_line number (Name name ∷ all_lexed pc vs) ≡ statement_parts number (Name name ∷ all_lexed pc vs)
unfolding parts_of_line
no_label number pc name [] = refl
no_label number pc name (operand.Register r ∷ []) = refl
no_label number pc name (_ ∷ []) = refl
no_label number pc name (operand.Register r ∷ next ∷ vs) = refl
no_label number pc name (_ ∷ next ∷ vs) = refl

-- the arguments that an instruction shows
abbrev shown_of : (pc : ℕ) → Ins → List Argument
shown_of pc i = map (shown pc) (form_of i).1

-- a mnemonic is no directive and no short form
mnemonic-plain : (pc : ℕ) (i : Ins)
    → statement_of (form_of i).0 (shown_of pc i) ≡ instruction_statement (form_of i).0 (shown_of pc i)
unfolding statement_of mnemonic_statement jalr_statement coded_statement
mnemonic-plain pc (Jalr rd rs) = refl
mnemonic-plain pc _ = refl

-- so the statement is the instruction
instruction-shown : (pc : ℕ) (i : Ins)
    → instruction_statement (form_of i).0 (shown_of pc i) ≡ Some (Instruction (form_of i).0
    (shown_of pc i))
unfolding instruction_statement
instruction-shown pc i = rw (kinds_of_forms i, may_be_all-shown pc (form_of i).1) refl

-- a name and operands that give arguments and a statement
statement-last : (number : ℕ) (name : List ℕ) (operands : List Lexeme) (arguments : List Argument)
    (content : Content)
    → arguments_of operands ≡ Some arguments
    → statement_of name arguments ≡ Some content
    → statement_parts number (Name name ∷ operands) ≡ Some (part_of_line number content ∷ [])
unfolding statement_parts
statement-last number name operands arguments content are is = rw (are, is) refl

-- a line by its lexemes
line_parts-by : (number : ℕ) (line : List ℕ) (lexemes : List Lexeme) → Lexes line lexemes
    → line_parts number line ≡ parts_of_line number lexemes
unfolding line_parts
line_parts-by number line lexemes is =
    ap (λ (o : Option (List Lexeme)). o >>= parts_of_line number) (lexes_line line lexemes is)

-- the text of an instruction is a line with that instruction
text-read : (number pc : ℕ) (i : Ins) → Fits i
    → line_parts number (instruction_text i pc) ≡ Some (part_of_line number
    (Instruction (form_of i).0 (shown_of pc i)) ∷ [])
text-read number pc i fits =
    let vs : List Operand = (form_of i).1 in
    line_parts-by number (instruction_text i pc) (Name (form_of i).0 ∷ all_lexed pc vs)
    (lexes_text i pc fits)
    ∙ no_label number pc (form_of i).0 vs
    ∙ statement-last number (form_of i).0 (all_lexed pc vs) (shown_of pc i)
    (Instruction (form_of i).0 (shown_of pc i)) (arguments-lexed pc vs)
    (mnemonic-plain pc i ∙ instruction-shown pc i)

-- ---- reserved words

-- the number of a reserved word
abbrev number_of : ℕ → Integer
number_of word = printed (pos word)

-- its text, in lexemes
lexes_reserved : (word : ℕ) → word < 2 ^ 32
    → Lexes (codes ".word " ++ address_text word) (Name (codes ".word") ∷ Number (number_of word)
    ∷ [])
lexes_reserved word fits =
    let digits = lexes_number (address_text word) [] (number_of word) [] (address-integer word fits)
    tt lexes_none in
    let last : Lexes (address_text word) (Number (number_of word) ∷ []) = rw append-nil at digits in
    lexes_token kinds.Name (codes ".word") (32 ∷ address_text word) (Name (codes ".word"))
    (Number (number_of word) ∷ []) (refl, refl) refl refl
    (lexes_space (address_text word) (Number (number_of word) ∷ []) last)

-- one number is one argument
arguments-number : (n : Integer)
    → arguments_of (Number n ∷ []) ≡ Some (argument.Value (values.Number n) ∷ [])
unfolding arguments_of argument_of
arguments-number n = refl

-- and `.word` writes it
statement-word : (n : Integer)
    → statement_of (codes ".word") (argument.Value (values.Number n) ∷ []) ≡ Some (Words
    (values.Number n ∷ []))
unfolding statement_of words_of
statement-word n = refl

-- no label stands in front
no_label-word : (number : ℕ) (n : Integer)
    → parts_of_line number (Name (codes ".word") ∷ Number n ∷ []) ≡ statement_parts number (Name (codes ".word")
    ∷ Number n ∷ [])
unfolding parts_of_line
no_label-word number n = refl

-- the text of a reserved word is a line with that directive
reserved-read : (number word : ℕ) → word < 2 ^ 32
    → line_parts number (codes ".word " ++ address_text word) ≡ Some (part_of_line number
    (Words (values.Number (number_of word) ∷ [])) ∷ [])
reserved-read number word fits =
    let n : Integer = number_of word in
    line_parts-by number (codes ".word " ++ address_text word) (Name (codes ".word") ∷ Number n
    ∷ []) (lexes_reserved word fits)
    ∙ no_label-word number n
    ∙ statement-last number (codes ".word") (Number n ∷ []) (argument.Value (values.Number n) ∷ [])
    (Words (values.Number n ∷ [])) (arguments-number n) (statement-word n)

-- which writes the word
reserved-gives : (labels : Labels) (word : ℕ) → word < 2 ^ 32
    → word_value labels (values.Number (number_of word)) ≡ Some (to_be_bytes w32 word)
unfolding word_value
reserved-gives labels word fits =
    let same : word % 2 ^ 32 ≡ word = omega arith in
    rw (le-leb word 4294967295 (omega arith), same) refl

-- and nothing else
reserved-joined : (labels : Labels) (word : ℕ) → word < 2 ^ 32
    → join_some (word_value labels) (values.Number (number_of word) ∷ []) ≡ Some (to_be_bytes w32
    word)
reserved-joined labels word fits =
    rw (reserved-gives labels word fits) (ap (λ (bytes : List ℕ). Some bytes)
    (append-nil (to_be_bytes w32 word)))

-- ---- words

-- a line that writes the word, by what was read of it
abbrev IsReadAgain : Labels → (number pc word : ℕ) → Option Ins → Type 0
IsReadAgain labels number pc word found =
    (content : Content) × (line_parts number (read_text found word pc) ≡ Some (part_of_line number content
    ∷ [])) × StatementGives labels pc content (to_be_bytes w32 word)

-- there is one, whatever was read
read_again : (labels : Labels) (number pc word : ℕ) → pc % 4 ≡ 0 → pc + 4 < 2 ^ 32 → word < 2 ^ 32
    → (found : Option Ins) → instruction_of_word word ≡ found → IsReadAgain labels number pc word found
read_again labels number pc word even below fits (Some i) is =
    let w = read-Word i word is in
    let gives = printed_is_assembled labels pc i (shown_of pc i) even below w.fits
    (all_shown pc (form_of i).1) in (
      Instruction (form_of i).0 (shown_of pc i),
      text-read number pc i w.fits,
      subst (λ (n : ℕ). StatementGives labels pc (Instruction (form_of i).0 (shown_of pc i))
          (to_be_bytes w32 n)) (sym w.word) gives,
    )
read_again labels number pc word even below fits None is = (
  Words (values.Number (number_of word) ∷ []),
  reserved-read number word fits,
  (even, reserved-joined labels word fits),
)

-- so the text of each word is a line that writes it
pub words_read_again : WordsAreReadAgain
words_read_again labels number pc word even below fits =
    read_again labels number pc word even below fits (instruction_of_word word) refl
