-- What in a source says nothing: blanks and comments, and a line end behind the last line. This
-- project's own.
use Rattle.std.specs.Prelude.{◌≡◌, ℕ, List, [], ◌∷◌, ◌++◌, map, slice_range}
use Rattle.std.specs.List.{AllZip}
use Rattle.text_lines.specs.Lines.{lines_of}
use Rattle.asm_tokens.specs.declared.token.Token.{Token}
use Rattle.asm_tokens.specs.declared.token.TokenKind.{TokenKind}
use Rattle.asm_tokens.specs.Tokens.{AreTokens}
use Rattle.asm_syntax.specs.Lines.{source_of}

-- the kind and the text of a token of a line
abbrev pub said_by : (line : List ℕ) → Token → TokenKind × List ℕ
said_by line token = (token.kind, slice_range line token.start token.end)

-- two lines have tokens of the same kinds and texts, in the same order; blanks and comments are all
-- else that stands in a line
pub record HaveSameTokens (a b : List ℕ) : Type 0 where
  pub of_a : List Token
  pub of_b : List Token
  pub a_has : AreTokens a of_a
  pub b_has : AreTokens b of_b
  pub same : map (said_by a) of_a ≡ map (said_by b) of_b

-- two texts whose lines have the same tokens, line by line, have the same labels and statements, or
-- the same first bad line
abbrev pub TokensSayAll : Type 0
TokensSayAll =
    (a b : List ℕ) → AllZip HaveSameTokens (lines_of a) (lines_of b) → source_of a ≡ source_of b

-- a comment at the end of a line with tokens, or with none, leaves it the same tokens
abbrev pub CommentsSayNothing : Type 0
CommentsSayNothing =
    (line comment : List ℕ) (tokens : List Token) → AreTokens line tokens
    → HaveSameTokens line (line ++ (35 ∷ comment))

-- a text with a line end behind it has the same labels and statements, or the same first bad line
abbrev pub LastLineEndSaysNothing : Type 0
LastLineEndSaysNothing = (text : List ℕ) → source_of (text ++ (10 ∷ [])) ≡ source_of text
