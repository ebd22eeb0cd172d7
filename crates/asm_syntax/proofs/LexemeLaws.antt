-- The lexemes of what stands from a place of a line on, one after another.
use Rattle.std.proofs.Common.{◌≡◌, ℕ, List, [], ◌∷◌, Some, None, Result, Ok, Err, refl, sym, ap, ◌∙◌, drop}
use Rattle.std.specs.Prelude.{option_and_then}
use Rattle.asm_tokens.specs.declared.token.Token.{Token}
use Rattle.asm_tokens.specs.Tokens.{tokens_from, tokens_of, with_tokens}
use Rattle.asm_syntax.specs.declared.lexeme.Lexeme.{Lexeme}
use Rattle.asm_syntax.specs.Forms.{in_front}
use Rattle.asm_syntax.specs.Lexing.{lexeme_at, lexemes_from, lexemes_in, lexemes_of}
use Rattle.asm_syntax.proofs.FormLaws.{in_front_none, none_then}

-- from its start on they are the lexemes of the line
pub lexemes_from_start : (line : List ℕ) → in_front [] (lexemes_from line 0) ≡ lexemes_of line
unfolding lexemes_from lexemes_of tokens_of
lexemes_from_start line = in_front_none (lexemes_in line (tokens_from 0 0 line))

-- the line is over
pub lexemes_from_over : (line : List ℕ) (at : ℕ) → tokens_from at 0 (drop at line) ≡ Ok []
    → lexemes_from line at ≡ Some []
unfolding lexemes_from
lexemes_from_over line at over = rw over refl

-- no token begins where the first one should
pub lexemes_from_bad : (line : List ℕ) (at bad : ℕ) → tokens_from at 0 (drop at line) ≡ Err bad
    → lexemes_from line at ≡ None
unfolding lexemes_from
lexemes_from_bad line at bad is = rw is refl

-- the lexemes of a token and of those that follow it
lexemes_in-front : (line : List ℕ) (token : Token) (read : Result (List Token) ℕ)
    → lexemes_in line (with_tokens (token ∷ []) read)
    ≡ option_and_then (λ (first : Lexeme). in_front (first ∷ []) (lexemes_in line read)) (lexeme_at line token)
lexemes_in-front line token (Ok more) = refl
lexemes_in-front line token (Err bad) =
    sym (none_then (λ (first : Lexeme). in_front (first ∷ []) None) (λ first. refl)
    (lexeme_at line token))

-- a token, and its lexeme
pub lexemes_from_one : (line : List ℕ) (at : ℕ) (token : Token) (lexeme : Lexeme)
    → tokens_from at 0 (drop at line) ≡ with_tokens (token ∷ []) (tokens_from token.end 0 (drop token.end line))
    → lexeme_at line token ≡ Some lexeme
    → lexemes_from line at ≡ in_front (lexeme ∷ []) (lexemes_from line token.end)
unfolding lexemes_from
lexemes_from_one line at token lexeme read is =
    ap (lexemes_in line) read ∙ lexemes_in-front line token (tokens_from token.end 0 (drop token.end line)) ∙ rw is refl

-- a token that stands for nothing
pub lexemes_from_none : (line : List ℕ) (at : ℕ) (token : Token)
    → tokens_from at 0 (drop at line) ≡ with_tokens (token ∷ []) (tokens_from token.end 0 (drop token.end line))
    → lexeme_at line token ≡ None
    → lexemes_from line at ≡ None
unfolding lexemes_from
lexemes_from_none line at token read is =
    ap (lexemes_in line) read ∙ lexemes_in-front line token (tokens_from token.end 0 (drop token.end line)) ∙ rw is refl
