-- The lexemes of a line: its tokens with what they stand for.
use Rattle.std.specs.Prelude.{ℕ, List, slice_range, Option, Some, None, Result, Ok, Err, drop, option_map}
use Rattle.asm_tokens.specs.Integers.{integer_of}
use Rattle.asm_tokens.specs.Lexemes.{quoted_of}
use Rattle.asm_tokens.specs.Registers.{register_of}
use Rattle.asm_tokens.specs.Tokens.{tokens_from, tokens_of}
use Rattle.asm_tokens.specs.declared.token.Token.{Token}
use Rattle.asm_tokens.specs.declared.token.TokenKind.{TokenKind}
use Rattle.asm_tokens.specs.declared.token.TokenKind.TheVariants as kinds
use Rattle.asm_syntax.specs.declared.lexeme.Lexeme.{Lexeme}
use Rattle.asm_syntax.specs.declared.lexeme.Lexeme.TheVariants.{Name, Number, Register, Text, Comma, Colon, Left, Right}
use Rattle.asm_syntax.specs.Forms.{map_some}

-- the lexeme of a token of this kind with this text
abbrev pub lexeme_of : TokenKind → List ℕ → Option Lexeme
lexeme_of kinds.Name text = Some (Name text)
lexeme_of kinds.Number text = option_map (λ n. Number n) (integer_of text)
lexeme_of kinds.Register text = option_map (λ r. Register r) (register_of text)
lexeme_of kinds.Text text = option_map (λ bytes. Text bytes) (quoted_of text)
lexeme_of kinds.Comma text = Some Comma
lexeme_of kinds.Colon text = Some Colon
lexeme_of kinds.Left text = Some Left
lexeme_of kinds.Right text = Some Right

-- the lexeme of a token of a line
abbrev pub lexeme_at : List ℕ → Token → Option Lexeme
lexeme_at line token = lexeme_of token.kind (slice_range line token.start token.end)

-- the lexemes of tokens that a line has
abbrev pub lexemes_in : List ℕ → Result (List Token) ℕ → Option (List Lexeme)
lexemes_in line (Ok tokens) = map_some (lexeme_at line) tokens
lexemes_in line (Err bad) = None

-- the lexemes of what stands from a place of a line on, or none
unfoldable pub lexemes_from : List ℕ → ℕ → Option (List Lexeme)
lexemes_from line at = lexemes_in line (tokens_from at 0 (drop at line))

-- the lexemes of a line, or none where a byte of it begins no token
unfoldable pub lexemes_of : List ℕ → Option (List Lexeme)
lexemes_of line = lexemes_in line (tokens_of line)
