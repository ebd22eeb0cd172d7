-- The lines of an assembler source: any number of labels, then at most one statement.
use Rattle.std.specs.Prelude.{ℕ, Bool, true, false, ◌&&◌, ◌||◌, if◌then◌else◌, List, [], ◌∷◌, ◌++◌, codes, Option, Some, None, option_map, Result, Ok, Err}
use Rattle.std.specs.Str.{bytes_eq}
use Rattle.text_lines.specs.Lines.{LineStep, lines_of, read_from}
use Rattle.mips_forms.specs.Builds.{kinds_of}
use Rattle.asm_tokens.specs.declared.integers.Integer.{Integer}
use Rattle.mips_forms.specs.declared.operand.OperandKind.{OperandKind}
use Rattle.mips_forms.specs.declared.operand.OperandKind.TheVariants as kinds
use Rattle.asm_source.specs.declared.argument.Argument.{Argument}
use Rattle.asm_source.specs.declared.argument.Argument.TheVariants.{Register, Value, Offset, Text}
use Rattle.asm_source.specs.declared.argument.Value.TheVariants as values
use Rattle.asm_source.specs.declared.argument.Value.{Value as ValueType}
use Rattle.asm_source.specs.declared.content.Content.{Content}
use Rattle.asm_source.specs.declared.content.Content.TheVariants as content
use Rattle.asm_source.specs.declared.content.Part.{Part}
use Rattle.asm_syntax.specs.declared.lexeme.Lexeme.{Lexeme}
use Rattle.asm_syntax.specs.declared.lexeme.Lexeme.TheVariants as lexeme
use Rattle.asm_syntax.specs.Arguments.{arguments_of, zero_argument}
use Rattle.asm_syntax.specs.Forms.{map_some}
use Rattle.xom_base.specs.Options.{◌>>=◌}
use Rattle.asm_syntax.specs.Lexing.{lexemes_of}

-- ---- what an operand must be

-- the register that an operand is, or none
abbrev pub register_of_argument : Argument → Option ℕ
register_of_argument (Register r) = Some r
register_of_argument _ = None

-- a number or a label
abbrev pub value_of_argument : Argument → Option ValueType
value_of_argument (Value v) = Some v
value_of_argument _ = None

-- the number that an operand is, or none; a label is no number here
abbrev pub number_of_argument : Argument → Option Integer
number_of_argument (Value (values.Number n)) = Some n
number_of_argument _ = None

-- the name of the label that an operand is, or none
abbrev pub label_of_argument : Argument → Option (List ℕ)
label_of_argument (Value (values.Label name)) = Some name
label_of_argument _ = None

-- the bytes of the quoted text that an operand is, or none
abbrev pub text_in : Argument → Option (List ℕ)
text_in (Text bytes) = Some bytes
text_in _ = None

-- a number with no `-`
abbrev pub unsigned_of : Integer → Option ℕ
unsigned_of n = if n.negative then None else Some n.magnitude

-- the number that an operand is, where it has no `-`
abbrev pub size_in : Argument → Option ℕ
size_in argument = number_of_argument argument >>= unsigned_of

-- ---- directives and short forms, each by its operands

-- there is one at least
abbrev pub some_of : {A : Type 0} → List A → Option (List A)
some_of [] = None
some_of (x ∷ xs) = Some (x ∷ xs)

-- the operand, where there is just one
abbrev pub only_argument : {A : Type 0} → List A → Option A
only_argument (x ∷ []) = Some x
only_argument _ = None

-- the operands, where there are just two
abbrev pub both_arguments : {A : Type 0} → List A → Option (A × A)
both_arguments (x ∷ y ∷ []) = Some (x, y)
both_arguments _ = None

-- .word v, v
unfoldable pub word_statement : List Argument → Option Content
word_statement arguments = do
  some ← some_of arguments
  found ← map_some value_of_argument some
  Some (content.Words found)

-- .byte n, n
unfoldable pub byte_statement : List Argument → Option Content
byte_statement arguments = do
  some ← some_of arguments
  found ← map_some number_of_argument some
  Some (content.Bytes found)

-- .ascii "text"
unfoldable pub ascii_statement : List Argument → Option Content
ascii_statement arguments = do
  one ← only_argument arguments
  bytes ← text_in one
  Some (content.Ascii bytes)

-- .space n
unfoldable pub space_statement : List Argument → Option Content
space_statement arguments = do
  one ← only_argument arguments
  n ← size_in one
  Some (content.Space n)

-- .align n
unfoldable pub align_statement : List Argument → Option Content
align_statement arguments = do
  one ← only_argument arguments
  n ← size_in one
  Some (content.Align n)

-- .org n
unfoldable pub org_statement : List Argument → Option Content
org_statement arguments = do
  one ← only_argument arguments
  n ← size_in one
  Some (content.Org n)

-- .entry v
unfoldable pub entry_statement : List Argument → Option Content
entry_statement arguments = do
  one ← only_argument arguments
  v ← value_of_argument one
  Some (content.Entry v)

-- li r, n
unfoldable pub li_statement : List Argument → Option Content
li_statement arguments = do
  two ← both_arguments arguments
  r ← register_of_argument two.0
  n ← number_of_argument two.1
  Some (content.LoadNumber r n)

-- la r, label
unfoldable pub la_statement : List Argument → Option Content
la_statement arguments = do
  two ← both_arguments arguments
  r ← register_of_argument two.0
  name ← label_of_argument two.1
  Some (content.LoadAddress r name)

-- move rd, rs is addu rd, rs, $0
unfoldable pub move_statement : List Argument → Option Content
move_statement arguments = do
  two ← both_arguments arguments
  rd ← register_of_argument two.0
  rs ← register_of_argument two.1
  Some (content.Instruction (codes "addu") (Register rd ∷ Register rs ∷ Register 0 ∷ []))

-- nop is sll $0, $0, 0
unfoldable pub nop_statement : List Argument → Option Content
nop_statement [] = Some (content.Instruction (codes "sll") (Register 0 ∷ Register 0 ∷ zero_argument ∷ []))
nop_statement _ = None

-- b target is beq $0, $0, target
unfoldable pub b_statement : List Argument → Option Content
b_statement arguments = do
  one ← only_argument arguments
  target ← value_of_argument one
  Some (content.Instruction (codes "beq") (Register 0 ∷ Register 0 ∷ Value target ∷ []))

-- ---- instructions

-- whether an operand may stand where the instruction takes one of this kind
abbrev pub may_be : OperandKind → Argument → Bool
may_be kinds.Register (Register r) = true
may_be kinds.Shift (Value (values.Number n)) = true
may_be kinds.Code (Value (values.Number n)) = true
may_be kinds.Signed (Value v) = true
may_be kinds.Unsigned (Value v) = true
may_be kinds.Branch (Value v) = true
may_be kinds.Jump (Value v) = true
may_be kinds.Offset (Offset v r) = true
may_be _ _ = false

-- whether these operands may stand where the instruction takes those of these kinds
abbrev pub may_be_all : List OperandKind → List Argument → Bool
may_be_all [] [] = true
may_be_all (kind ∷ shape) (argument ∷ arguments) =
    may_be kind argument && may_be_all shape arguments
may_be_all _ _ = false

-- an instruction with all its operands
unfoldable pub instruction_statement : List ℕ → List Argument → Option Content
instruction_statement name arguments = do
  shape ← kinds_of name
  if may_be_all shape arguments then Some (content.Instruction name arguments) else None

-- jalr rs is jalr $31, rs
unfoldable pub jalr_statement : List Argument → Option Content
jalr_statement (Register rs ∷ []) =
    Some (content.Instruction (codes "jalr") (Register 31 ∷ Register rs ∷ []))
jalr_statement arguments = instruction_statement (codes "jalr") arguments

-- syscall and break without a code have the code 0
unfoldable pub coded_statement : List ℕ → List Argument → Option Content
coded_statement name [] = Some (content.Instruction name (zero_argument ∷ []))
coded_statement name (first ∷ rest) = instruction_statement name (first ∷ rest)

-- ---- statements

-- a statement that isn't a directive: a short form by its own rule, every other one by its form
unfoldable pub mnemonic_statement : List ℕ → List Argument → Option Content
mnemonic_statement name arguments =
    if bytes_eq name (codes "li") then li_statement arguments
    else (if bytes_eq name (codes "la") then la_statement arguments
    else (if bytes_eq name (codes "move") then move_statement arguments
    else (if bytes_eq name (codes "nop") then nop_statement arguments
    else (if bytes_eq name (codes "b") then b_statement arguments
    else (if bytes_eq name (codes "jalr") then jalr_statement arguments
    else (if bytes_eq name (codes "syscall") || bytes_eq name (codes "break") then coded_statement name
    arguments
    else instruction_statement name arguments))))))

-- the statement with this name and these operands, or none
unfoldable pub statement_of : List ℕ → List Argument → Option Content
statement_of name arguments =
    if bytes_eq name (codes ".word") then word_statement arguments
    else (if bytes_eq name (codes ".byte") then byte_statement arguments
    else (if bytes_eq name (codes ".ascii") then ascii_statement arguments
    else (if bytes_eq name (codes ".space") then space_statement arguments
    else (if bytes_eq name (codes ".align") then align_statement arguments
    else (if bytes_eq name (codes ".org") then org_statement arguments
    else (if bytes_eq name (codes ".entry") then entry_statement arguments
    else mnemonic_statement name arguments))))))

-- ---- lines and sources

-- a label or a statement with the number of its line
abbrev pub part_of_line : ℕ → Content → Part
part_of_line number content = record { line = number; content = content }

-- what stands behind the labels of the line of this number: nothing, or a name and operands
unfoldable pub statement_parts : ℕ → List Lexeme → Option (List Part)
statement_parts number [] = Some []
statement_parts number (lexeme.Name name ∷ operands) = do
  arguments ← arguments_of operands
  statement ← statement_of name arguments
  Some (part_of_line number statement ∷ [])
statement_parts number _ = None

-- the labels and the statement of the line of this number
unfoldable pub parts_of_line : ℕ → List Lexeme → Option (List Part)
parts_of_line number (lexeme.Name label ∷ lexeme.Colon ∷ rest) =
    option_map (λ more. part_of_line number (content.Label label) ∷ more) (parts_of_line number rest)
parts_of_line number lexemes = statement_parts number lexemes

-- the same of a line's bytes
unfoldable pub line_parts : ℕ → List ℕ → Option (List Part)
line_parts number line = lexemes_of line >>= parts_of_line number

-- A line adds its parts to those of the lines before. It gives no value of its own.
abbrev pub source_step : LineStep (List Part) (Unit {0})
source_step before number line =
    option_map (λ more. (None, before ++ more)) (line_parts number line)

-- the state behind the last line
abbrev pub state_behind : {S X : Type 0} → Result (List X × S) ℕ → Result S ℕ
state_behind (Ok read) = Ok read.1
state_behind (Err bad) = Err bad

-- the labels and statements of a source in their order, or the first line that is off the grammar
unfoldable pub source_of : List ℕ → Result (List Part) ℕ
source_of text = state_behind (read_from source_step [] 1 (lines_of text))
