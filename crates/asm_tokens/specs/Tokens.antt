-- The tokens of a source line. This project's own.
use Rattle.std.specs.Prelude.{◌≡◌, ℕ, ◌+◌, ◌-◌, ◌<◌, ◌≤◌, ◌==◌, ◌||◌, Bool, true, false, if◌then◌else◌, List, [], ◌∷◌, ◌++◌, length, take, drop, codes, slice_get, slice_range, Option, Some, None, is_some, option_map, option_and_then, Result, Ok, Err, IsTrue, zero, suc}
use Rattle.std.specs.List.{list_all, prefix_len}
use Rattle.std.specs.Char.{is_ascii_digit}
use Rattle.text_lines.specs.Words.{is_blank, begins_comment}
use Rattle.asm_tokens.specs.declared.integers.Integer.{Integer}
use Rattle.asm_tokens.specs.declared.token.Token.{Token}
use Rattle.asm_tokens.specs.declared.token.TokenFault.{TokenFault}
use Rattle.asm_tokens.specs.declared.token.TokenFault.TheVariants as fault
use Rattle.asm_tokens.specs.declared.token.TokenKind.{TokenKind}
use Rattle.asm_tokens.specs.declared.token.TokenKind.TheVariants.{Name, Number, Register, Text, Comma, Colon, Left, Right}
use Rattle.asm_tokens.specs.Integers.{IsInteger, integer_of}
use Rattle.asm_tokens.specs.Lexemes.{IsName, Quotes, begins_name, is_name_byte, read_quoted}
use Rattle.asm_tokens.specs.Registers.{IsRegister, register_of}

-- ---- one token

-- the text is in the grammar of this kind
abbrev pub IsTextOf : TokenKind → List ℕ → Type 0
IsTextOf Name text = IsName text
IsTextOf Number text = (integer : Integer) × IsInteger text integer
IsTextOf Register text = (r : ℕ) × IsRegister text r
IsTextOf Text text = (bytes : List ℕ) × Quotes text bytes
IsTextOf Comma text = text ≡ codes ","
IsTextOf Colon text = text ≡ codes ":"
IsTextOf Left text = text ≡ codes "("
IsTextOf Right text = text ≡ codes ")"

-- the first of these bytes, if there is one, fails the test
abbrev pub FirstFails : (ℕ → Bool) → List ℕ → Type 0
FirstFails test [] = Unit {0}
FirstFails test (byte ∷ behind) = test byte ≡ false

-- no letter, digit, `_` or `.` follows
abbrev pub NoNameByte : List ℕ → Type 0
NoNameByte behind = FirstFails is_name_byte behind

-- A token of this kind may end before these bytes: a name, a number or a register takes all
-- letters,
-- digits, `_` and `.` that follow.
abbrev pub EndsBefore : TokenKind → List ℕ → Type 0
EndsBefore Name behind = NoNameByte behind
EndsBefore Number behind = NoNameByte behind
EndsBefore Register behind = NoNameByte behind
EndsBefore Text behind = Unit {0}
EndsBefore Comma behind = Unit {0}
EndsBefore Colon behind = Unit {0}
EndsBefore Left behind = Unit {0}
EndsBefore Right behind = Unit {0}

-- it is a token of this line
pub record IsTokenOf (line : List ℕ) (token : Token) : Type 0 where
  pub ascends : token.start < token.end
  pub within : token.end ≤ length line
  pub text : IsTextOf token.kind (slice_range line token.start token.end)
  pub ends : EndsBefore token.kind (drop token.end line)

-- ---- the tokens of a line

-- from the one place to the other there are blanks alone
pub record BlankBetween (line : List ℕ) (from to : ℕ) : Type 0 where
  pub ascends : from ≤ to
  pub within : to ≤ length line
  pub blanks : IsTrue (list_all is_blank (slice_range line from to))

-- these tokens, one behind the other, and blanks alone between them, stand from the one place to
-- the other
abbrev pub StandBetween : List ℕ → ℕ → List Token → ℕ → Type 0
StandBetween line from [] to = BlankBetween line from to
StandBetween line from (token ∷ tokens) to =
    BlankBetween line from token.start × IsTokenOf line token × StandBetween line token.end tokens
    to

-- nothing stands there any more, or a comment begins
abbrev pub nothing_follows : List ℕ → Bool
nothing_follows [] = true
nothing_follows (byte ∷ behind) = begins_comment byte

-- the line has these tokens: they stand there up to its end or to its comment
pub record AreTokens (line : List ℕ) (tokens : List Token) : Type 0 where
  pub place : ℕ
  pub stand : StandBetween line 0 tokens place
  pub over : IsTrue (nothing_follows (drop place line))

-- The first byte that begins no token stands at this place: before it are tokens and blanks, it is
-- no blank and begins no comment, and no token of the line begins there.
pub record IsBadAt (line : List ℕ) (bad : ℕ) : Type 0 where
  pub before : List Token
  pub stand : StandBetween line 0 before bad
  pub byte : ℕ
  pub here : slice_get line bad ≡ Some byte
  pub no_blank : is_blank byte ≡ false
  pub no_comment : begins_comment byte ≡ false
  pub no_token : (token : Token) → token.start ≡ bad → ¬ IsTokenOf line token

-- ---- the same as functions

-- the kind of token that a byte begins, or none
unfoldable pub kind_of_token : ℕ → Option TokenKind
kind_of_token byte =
    if begins_name byte then Some Name
    else if is_ascii_digit byte || (byte == 45) then Some Number
    else if byte == 36 then Some Register
    else if byte == 34 then Some Text
    else if byte == 44 then Some Comma
    else if byte == 58 then Some Colon
    else if byte == 40 then Some Left
    else if byte == 41 then Some Right
    else None

-- the first byte, and how many letters, digits, `_` and `.` follow it
abbrev pub name_run_size : List ℕ → ℕ
name_run_size bytes = 1 + prefix_len is_name_byte (drop 1 bytes)

-- so many bytes, where the test passes
abbrev pub so_many : Bool → ℕ → Option ℕ
so_many passes count = if passes then Some count else None

-- how many bytes a token of this kind takes that begins with the first of these bytes, or none
-- where
-- there is no such token
unfoldable pub size_of_token : TokenKind → List ℕ → Option ℕ
size_of_token Name bytes = Some (name_run_size bytes)
size_of_token Number bytes = so_many (is_some (integer_of (take (name_run_size bytes) bytes))) (name_run_size bytes)
size_of_token Register bytes = so_many (is_some (register_of (take (name_run_size bytes) bytes))) (name_run_size bytes)
size_of_token Text bytes =
    option_map (λ read. length bytes - length read.1) (read_quoted false (drop 1 bytes))
size_of_token Comma bytes = Some 1
size_of_token Colon bytes = Some 1
size_of_token Left bytes = Some 1
size_of_token Right bytes = Some 1

-- the kind and the size of the token that begins with the first of these bytes, or none
unfoldable pub token_of : List ℕ → Option (TokenKind × ℕ)
token_of [] = None
token_of (first ∷ rest) =
    option_and_then (λ kind. option_map (λ size. (kind, size)) (size_of_token kind (first ∷ rest)))
    (kind_of_token first)

-- tokens in front of those that follow
abbrev pub with_tokens : List Token → Result (List Token) ℕ → Result (List Token) ℕ
with_tokens front (Ok more) = Ok (front ++ more)
with_tokens front (Err bad) = Err bad

-- a token of this kind and size at a place
abbrev pub token_at : ℕ → TokenKind × ℕ → Token
token_at at found = record { kind = found.0; start = at; end = at + found.1 }

-- what follows of the token that begins at a place, if there is one; the tokens behind it depend on
-- its size
abbrev pub tokens_go_on : ℕ → Option (TokenKind × ℕ) → (ℕ → Result (List Token) ℕ) → Result (List Token) ℕ
tokens_go_on at None more = Err at
tokens_go_on at (Some found) more = with_tokens (token_at at found ∷ []) (more (found.1 - 1))

-- The tokens of what stands from a place on, or the place of the first byte that begins none. So
-- many
-- bytes are passed over first: those of the token before that are left.
unfoldable pub tokens_from : ℕ → ℕ → List ℕ → Result (List Token) ℕ
tokens_from at left [] = Ok []
tokens_from at (suc left) (byte ∷ bytes) = tokens_from (at + 1) left bytes
tokens_from at zero (byte ∷ bytes) =
    if is_blank byte then tokens_from (at + 1) 0 bytes
    else if begins_comment byte then Ok []
    else tokens_go_on at (token_of (byte ∷ bytes)) (λ left. tokens_from (at + 1) left bytes)

-- the tokens of a line, or the place of the first byte that begins none
unfoldable pub tokens_of : List ℕ → Result (List Token) ℕ
tokens_of line = tokens_from 0 0 line

-- what was answered of a line; want of memory comes freely
abbrev pub TokenFaults : Result (List Token) ℕ → TokenFault → Type 0
TokenFaults read (fault.Token bad) = read ≡ Err bad
TokenFaults read fault.NoMemory = Unit {0}

-- what the tokenizer may answer where the definition gives these tokens or the place of a fault
abbrev pub TokensAnswers : Result (List Token) ℕ → Result (List Token) TokenFault → Type 0
TokensAnswers read (Ok tokens) = read ≡ Ok tokens
TokensAnswers read (Err fault) = TokenFaults read fault
