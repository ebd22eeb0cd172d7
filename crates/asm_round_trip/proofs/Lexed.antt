-- The lexemes of a text, piece by piece: the tokens of what stands behind are those of its own
-- text.
use Rattle.std.proofs.Common.{◌≡◌, ℕ, ◌+◌, ◌-◌, false, List, [], ◌∷◌, ◌++◌, length, Some, Result, Ok, Err, refl, ap, ◌∙◌, arith, append_assoc}
use Rattle.std.specs.Prelude.{slice_range}
use Rattle.std.proofs.lemmas.List.{length-append}
use Rattle.std.proofs.lemmas.Option.{none-some}
use Rattle.std.proofs.Math.Seq.{drop-append_seam, take-append_seam}
use Rattle.asm_tokens.proofs.KindLaws.{kind_of-no_blank}
use Rattle.asm_tokens.proofs.SizeLaws.{token_found, token_kind, token_only}
use Rattle.asm_tokens.proofs.StepLaws.{NoBlank, tokens_from-blank, tokens_from-token}
use Rattle.asm_tokens.specs.declared.token.Token.{Token}
use Rattle.asm_tokens.specs.declared.token.TokenKind.{TokenKind}
use Rattle.asm_tokens.specs.Tokens.{EndsBefore, IsTextOf, nothing_follows, token_at, token_of, tokens_from, tokens_of, with_tokens}
use Rattle.asm_syntax.specs.declared.lexeme.Lexeme.{Lexeme}
use Rattle.asm_syntax.specs.Lexing.{lexeme_at, lexeme_of, lexemes_in, lexemes_of}

-- the lexemes of the bytes at the end of a line, whatever stands in front of them
pub record Lexes (bytes : List ℕ) (lexemes : List Lexeme) : Type 0 where
  pub read : (front : List ℕ)
      → lexemes_in (front ++ bytes) (tokens_from (length front) 0 bytes) ≡ Some lexemes

-- the end of a line has none
pub lexes_none : Lexes [] []
unfolding tokens_from
lexes_none = record { read = λ front. refl }

-- what stands behind a piece, by its own place
behind_piece : (front own behind : List ℕ) (lexemes : List Lexeme) → Lexes behind lexemes
    → lexemes_in (front ++ (own ++ behind)) (tokens_from (length front + length own) 0 behind)
    ≡ Some lexemes
behind_piece front own behind lexemes is =
    rw (← append_assoc front own behind, ← length-append front own) (is.read (front ++ own))

-- a space in front
pub lexes_space : (behind : List ℕ) (lexemes : List Lexeme) → Lexes behind lexemes
    → Lexes (32 ∷ behind) lexemes
lexes_space behind lexemes is =
    record {
      read = λ front. ap (lexemes_in (front ++ 32 ∷ behind))
          (tokens_from-blank (length front) 32 behind refl) ∙ behind_piece front (32 ∷ []) behind
          lexemes is;
    }

-- where a token begins, no blank stands and the line isn't over
token_front : (bytes : List ℕ) (kind : TokenKind) (size : ℕ) → token_of bytes ≡ Some (kind, size)
    → NoBlank bytes × (nothing_follows bytes ≡ false)
unfolding token_of
token_front [] kind size h = absurd (none-some (kind, size) h)
token_front (first ∷ rest) kind size h =
    kind_of-no_blank first kind (token_kind first rest kind size h)

-- a token in front, in tokens
token_first : (kind : TokenKind) (text behind : List ℕ) (at : ℕ) → IsTextOf kind text
    → EndsBefore kind behind
    → tokens_from at 0 (text ++ behind) ≡ with_tokens (token_at at (kind, length text) ∷ [])
    (tokens_from (at + length text) 0 behind)
token_first kind text behind at is ends =
    let found = token_only kind text behind is ends in
    let front = token_front (text ++ behind) kind (length text) found in
    tokens_from-token at (text ++ behind) kind (length text) front.0 front.1 found
    (token_found (text ++ behind) kind (length text) found).some
    ∙ ap (λ (rest : List ℕ). with_tokens (token_at at (kind, length text) ∷ [])
    (tokens_from (at + length text) 0 rest)) (drop-append_seam text behind)

-- the text of that token
token_text : (front text behind : List ℕ)
    → slice_range (front ++ (text ++ behind)) (length front) (length front + length text) ≡ text
token_text front text behind =
    let size : (length front + length text) - length front ≡ length text = omega arith in
    rw (size, drop-append_seam front (text ++ behind)) (take-append_seam text behind)

-- a token in front, in lexemes
lexeme_first : (line : List ℕ) (token : Token) (read : Result (List Token) ℕ) (lexeme : Lexeme)
    (lexemes : List Lexeme)
    → lexeme_at line token ≡ Some lexeme
    → lexemes_in line read ≡ Some lexemes
    → lexemes_in line (with_tokens (token ∷ []) read) ≡ Some (lexeme ∷ lexemes)
lexeme_first line token (Ok tokens) lexeme lexemes here behind = rw (here, behind) refl
lexeme_first line token (Err bad) lexeme lexemes here behind = absurd (none-some lexemes behind)

-- a token in front of what it may stand before
pub lexes_token : (kind : TokenKind) (text behind : List ℕ) (lexeme : Lexeme)
    (lexemes : List Lexeme)
    → IsTextOf kind text → EndsBefore kind behind → lexeme_of kind text ≡ Some lexeme
    → Lexes behind lexemes → Lexes (text ++ behind) (lexeme ∷ lexemes)
lexes_token kind text behind lexeme lexemes is ends here more = record {
  read = λ front.
      let line : List ℕ = front ++ (text ++ behind) in
      ap (lexemes_in line) (token_first kind text behind (length front) is ends)
      ∙ lexeme_first line (token_at (length front) (kind, length text))
      (tokens_from (length front + length text) 0 behind) lexeme lexemes
      (ap (lexeme_of kind) (token_text front text behind) ∙ here)
      (behind_piece front text behind lexemes more);
}

-- a whole line
pub lexes_line : (line : List ℕ) (lexemes : List Lexeme) → Lexes line lexemes
    → lexemes_of line ≡ Some lexemes
unfolding lexemes_of tokens_of
lexes_line line lexemes is = is.read []
