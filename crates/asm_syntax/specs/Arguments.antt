-- Operands as a source writes them: parts between commas.
use Rattle.std.specs.Prelude.{ℕ, Bool, true, false, List, [], ◌∷◌, Option, Some, None, option_map}
use Rattle.std.specs.List.{slice_split}
use Rattle.asm_tokens.specs.declared.integers.Integer.{Integer}
use Rattle.asm_source.specs.declared.argument.Argument.{Argument}
use Rattle.asm_source.specs.declared.argument.Argument.TheVariants as argument
use Rattle.asm_source.specs.declared.argument.Value.{Value}
use Rattle.asm_source.specs.declared.argument.Value.TheVariants as «value»
use Rattle.asm_syntax.specs.declared.lexeme.Lexeme.{Lexeme}
use Rattle.asm_syntax.specs.declared.lexeme.Lexeme.TheVariants.{Name, Number, Register, Text, Comma, Left, Right}
use Rattle.asm_syntax.specs.Forms.{map_some}
use Rattle.xom_base.specs.Options.{◌>>=◌}

-- the number 0
abbrev pub zero_integer : Integer
zero_integer = record { negative = false; magnitude = 0 }

-- an operand that is not there and counts as 0
abbrev pub zero_argument : Argument
zero_argument = argument.Value («value».Number zero_integer)

-- a number, or the name of a label
abbrev pub value_of_lexeme : Lexeme → Option Value
value_of_lexeme (Number n) = Some («value».Number n)
value_of_lexeme (Name label) = Some («value».Label label)
value_of_lexeme _ = None

-- an operand of one lexeme: a register, a number, a label or a quoted text
abbrev pub single_of : Lexeme → Option Argument
single_of (Register r) = Some (argument.Register r)
single_of (Number n) = Some (argument.Value («value».Number n))
single_of (Name label) = Some (argument.Value («value».Label label))
single_of (Text bytes) = Some (argument.Text bytes)
single_of _ = None

-- the register of `($r)`
abbrev pub based_of : Lexeme → Lexeme → Lexeme → Option ℕ
based_of Left (Register r) Right = Some r
based_of _ _ _ = None

-- an offset in front of its register
abbrev pub offset_of : Lexeme → Option ℕ → Option Argument
offset_of offset register = do
  offset ← value_of_lexeme offset
  r ← register
  Some (argument.Offset offset r)

-- One operand. A missing offset is 0.
unfoldable pub argument_of : List Lexeme → Option Argument
argument_of (one ∷ []) = single_of one
argument_of (left ∷ register ∷ right ∷ []) =
    option_map (λ r. argument.Offset («value».Number zero_integer) r) (based_of left register right)
argument_of (offset ∷ left ∷ register ∷ right ∷ []) =
    offset_of offset (based_of left register right)
argument_of _ = None

-- a comma stands between operands
abbrev pub is_comma : Lexeme → Bool
is_comma Comma = true
is_comma _ = false

-- all operands of a statement
unfoldable pub arguments_of : List Lexeme → Option (List Argument)
arguments_of [] = Some []
arguments_of (first ∷ rest) = map_some argument_of (slice_split is_comma (first ∷ rest))
