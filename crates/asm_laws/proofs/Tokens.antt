-- A source is what its tokens say.
use Rattle.std.proofs.Common.{◌≡◌, ◌⊎◌, ℕ, ◌+◌, ◌-◌, ◌≤◌, ◌==◌, Bool, true, false, cond, inl, inr, List, [], ◌∷◌, ◌++◌, length, take, drop, map, Option, Some, None, Result, Err, option_map, refl, sym, ap, subst, ◌∙◌, arith, append-nil, length-append}
use Rattle.std.specs.Prelude.{IsTrue, slice_range}
use Rattle.std.specs.Option.{option_to_list}
use Rattle.std.specs.List.{AllZip, list_all, onto_first}
use Rattle.std.proofs.lemmas.List.{take-append-le, drop-append-le, length-drop}
use Rattle.text_lines.specs.Lines.{go_on_behind_line, lines_of, read_from, with_front}
use Rattle.xom_base.specs.Options.{◌>>=◌}
use Rattle.text_lines.specs.Words.{is_blank}
use Rattle.asm_tokens.specs.declared.token.Token.{Token}
use Rattle.asm_tokens.specs.declared.token.TokenKind.{TokenKind}
use Rattle.asm_tokens.specs.declared.token.TokenKind.TheVariants.{Name, Number, Register, Text, Comma, Colon, Left, Right}
use Rattle.asm_tokens.specs.Tokens.{AreTokens, BlankBetween, EndsBefore, IsTextOf, IsTokenOf, NoNameByte, StandBetween, nothing_follows, tokens_from, tokens_of}
use Rattle.asm_tokens.proofs.LineLaws.{tokens_only}
use Rattle.asm_source.specs.declared.content.Part.{Part}
use Rattle.asm_syntax.specs.declared.lexeme.Lexeme.{Lexeme}
use Rattle.asm_syntax.specs.Forms.{map_some}
use Rattle.asm_syntax.specs.Lexing.{lexeme_at, lexeme_of, lexemes_in, lexemes_of}
use Rattle.asm_syntax.specs.Lines.{line_parts, parts_of_line, source_of, source_step, state_behind, statement_parts}
use Rattle.asm_laws.specs.Texts.{CommentsSayNothing, HaveSameTokens, LastLineEndSaysNothing, TokensSayAll, said_by}

-- ---- Lines

-- lexemes, by what tokens say
abbrev lexeme_said : TokenKind × List ℕ → Option Lexeme
lexeme_said said = lexeme_of said.0 said.1

lexemes-said : (line : List ℕ) (tokens : List Token)
    → map_some (lexeme_at line) tokens ≡ map_some lexeme_said (map (said_by line) tokens)
lexemes-said line [] = refl
lexemes-said line (token ∷ tokens) = rw (lexemes-said line tokens) refl

lexemes_of-said : (line : List ℕ) (tokens : List Token) → AreTokens line tokens
    → lexemes_of line ≡ map_some lexeme_said (map (said_by line) tokens)
unfolding lexemes_of
lexemes_of-said line tokens has =
    ap (lexemes_in line) (tokens_only line tokens has) ∙ lexemes-said line tokens

line_parts-same : (n : ℕ) (a b : List ℕ) → HaveSameTokens a b → line_parts n a ≡ line_parts n b
unfolding line_parts
line_parts-same n a b both =
    ap (λ (o : Option (List Lexeme)). o >>= parts_of_line n) (lexemes_of-said a both.of_a both.a_has
    ∙ ap (map_some lexeme_said) both.same ∙ sym (lexemes_of-said b both.of_b both.b_has))

-- ---- Texts

-- what follows of a line is the same where the line says the same
go_on-same : {S X : Type 0} (n : ℕ) (o p : Option (Option X × S)) (f g : S → Result (List X × S) ℕ)
    → o ≡ p → ((s : S) → f s ≡ g s) → go_on_behind_line n o f ≡ go_on_behind_line n p g
go_on-same n None p f g same next = subst (λ q. Err n ≡ go_on_behind_line n q g) same refl
go_on-same n (Some read) p f g same next =
    subst (λ q. with_front (option_to_list read.0) (f read.1) ≡ go_on_behind_line n q g) same
    (ap (with_front (option_to_list read.0)) (next read.1))

read-same : (before : List Part) (n : ℕ) (xs ys : List (List ℕ)) → AllZip HaveSameTokens xs ys
    → read_from source_step before n xs ≡ read_from source_step before n ys
unfolding read_from
read-same before n [] [] all = refl
read-same before n [] (y ∷ ys) all = absurd all
read-same before n (x ∷ xs) [] all = absurd all
read-same before n (x ∷ xs) (y ∷ ys) all =
    go_on-same n (source_step before n x) (source_step before n y) _ _
    (ap (λ (o : Option (List Part)). option_map (λ (more : List Part). (None, before ++ more)) o)
    (line_parts-same n x y all.0))
    (λ s. read-same s (n + 1) xs ys all.1)

pub tokens_say_all : TokensSayAll
unfolding source_of
tokens_say_all a b same = ap state_behind (read-same [] 1 (lines_of a) (lines_of b) same)

-- ---- The last line end

-- one line more, which is empty
empty_line : (n : ℕ) → line_parts n [] ≡ Some []
unfolding line_parts lexemes_of parts_of_line statement_parts tokens_of tokens_from
empty_line n = refl

read-empty : (before : List Part) (n : ℕ) (lines : List (List ℕ))
    → read_from source_step before n (lines ++ ([] ∷ [])) ≡ read_from source_step before n lines
unfolding read_from
read-empty before n [] = rw (empty_line n, append-nil before) refl
read-empty before n (line ∷ lines) =
    go_on-same n (source_step before n line) (source_step before n line) _ _ refl
    (λ s. read-empty s (n + 1) lines)

-- the lines behind one more byte
byte_front : (byte : ℕ) (ended lines : List (List ℕ))
    → (ended ≡ lines) ⊎ (ended ≡ lines ++ ([] ∷ []))
    → (onto_first byte ended ≡ onto_first byte lines)
    ⊎ (onto_first byte ended ≡ onto_first byte lines ++ ([] ∷ []))
byte_front byte ended lines (inl same) = inl (ap (onto_first byte) same)
byte_front byte ended [] (inr more) = inl (ap (onto_first byte) more)
byte_front byte ended (line ∷ lines) (inr more) = inr (ap (onto_first byte) more)

either_line : (ends : Bool) (byte : ℕ) (ended lines : List (List ℕ))
    → (ended ≡ lines) ⊎ (ended ≡ lines ++ ([] ∷ []))
    → (cond ends ([] ∷ ended) (onto_first byte ended) ≡ cond ends ([] ∷ lines)
    (onto_first byte lines)) ⊎ (cond ends ([] ∷ ended) (onto_first byte ended) ≡ cond ends
    ([] ∷ lines) (onto_first byte lines) ++ ([] ∷ []))
either_line true byte ended lines (inl same) = inl (ap (λ (l : List (List ℕ)). [] ∷ l) same)
either_line true byte ended lines (inr more) = inr (ap (λ (l : List (List ℕ)). [] ∷ l) more)
either_line false byte ended lines both = byte_front byte ended lines both

lines-ended : (text : List ℕ)
    → (lines_of (text ++ (10 ∷ [])) ≡ lines_of text) ⊎ (lines_of (text ++ (10 ∷ [])) ≡ lines_of text
    ++ ([] ∷ []))
lines-ended [] = inr refl
lines-ended (byte ∷ bytes) =
    either_line (byte == 10) byte (lines_of (bytes ++ (10 ∷ []))) (lines_of bytes)
    (lines-ended bytes)

pub last_line_end : LastLineEndSaysNothing
unfolding source_of
last_line_end text = elim (lines-ended text) [
  | inl same ↦ ap (λ (lines : List (List ℕ)). state_behind (read_from source_step [] 1 lines)) same
  | inr more ↦ ap (λ (lines : List (List ℕ)). state_behind (read_from source_step [] 1 lines)) more
      ∙ ap state_behind (read-empty [] 1 (lines_of text))
]

-- ---- Comments

module _ (line comment : List ℕ) where
  -- the line with its comment
  abbrev longer : List ℕ
  longer = line ++ (35 ∷ comment)

  longer-range : (from to : ℕ) → from ≤ to → to ≤ length line
      → slice_range longer from to ≡ slice_range line from to
  longer-range from to ascends within =
      ap (take (to - from)) (drop-append-le from line (35 ∷ comment) (omega arith))
      ∙ take-append-le (to - from) (drop from line) (35 ∷ comment)
      (omega (arith, length-drop from line))

  longer-length : (to : ℕ) → to ≤ length line → to ≤ length longer
  longer-length to within = omega (arith, length-append line (35 ∷ comment))

  longer-blank : (from to : ℕ) → BlankBetween line from to → BlankBetween longer from to
  longer-blank from to blank = record {
    ascends = blank.ascends;
    within = longer-length to blank.within;
    blanks = subst (λ (bytes : List ℕ). IsTrue (list_all is_blank bytes))
        (sym (longer-range from to blank.ascends blank.within)) blank.blanks;
  }

  no_name_byte : (behind : List ℕ) → NoNameByte behind → NoNameByte (behind ++ (35 ∷ comment))
  no_name_byte [] none = refl
  no_name_byte (byte ∷ behind) none = none

  longer-ends : (kind : TokenKind) (behind : List ℕ) → EndsBefore kind behind
      → EndsBefore kind (behind ++ (35 ∷ comment))
  longer-ends Name behind ends = no_name_byte behind ends
  longer-ends Number behind ends = no_name_byte behind ends
  longer-ends Register behind ends = no_name_byte behind ends
  longer-ends Text behind ends = tt
  longer-ends Comma behind ends = tt
  longer-ends Colon behind ends = tt
  longer-ends Left behind ends = tt
  longer-ends Right behind ends = tt

  longer-token : (token : Token) → IsTokenOf line token → IsTokenOf longer token
  longer-token token is = record {
    ascends = is.ascends;
    within = longer-length token.end is.within;
    text = subst (IsTextOf token.kind)
        (sym (longer-range token.start token.end (omega (arith, is.ascends)) is.within)) is.text;
    ends = subst (EndsBefore token.kind)
        (sym (drop-append-le token.end line (35 ∷ comment) is.within))
        (longer-ends token.kind (drop token.end line) is.ends);
  }

  longer-stand : (from : ℕ) (tokens : List Token) (to : ℕ) → StandBetween line from tokens to
      → StandBetween longer from tokens to
  longer-stand from [] to stand = longer-blank from to stand
  longer-stand from (token ∷ tokens) to stand = (
    longer-blank from token.start stand.0,
    longer-token token stand.1,
    longer-stand token.end
        tokens to stand.2,
  )

  longer-said : (from : ℕ) (tokens : List Token) (to : ℕ) → StandBetween line from tokens to
      → map (said_by line) tokens ≡ map (said_by longer) tokens
  longer-said from [] to stand = refl
  longer-said from (token ∷ tokens) to stand =
      let is = stand.1 in
      rw (
        longer-range token.start token.end (omega (arith, is.ascends)) is.within,
        longer-said
            token.end tokens to stand.2,
      ) refl

  stand-within : (from : ℕ) (tokens : List Token) (to : ℕ) → StandBetween line from tokens to
      → to ≤ length line
  stand-within from [] to stand = stand.within
  stand-within from (token ∷ tokens) to stand = stand-within token.end tokens to stand.2

  longer-over : (behind : List ℕ) → IsTrue (nothing_follows behind)
      → IsTrue (nothing_follows (behind ++ (35 ∷ comment)))
  longer-over [] over = refl
  longer-over (byte ∷ behind) over = over

pub comments_say_nothing : CommentsSayNothing
comments_say_nothing line comment tokens has = record {
  of_a = tokens;
  of_b = tokens;
  a_has = has;
  b_has = record {
    place = has.place;
    stand = longer-stand line comment 0 tokens has.place has.stand;
    over = subst (λ (behind : List ℕ). IsTrue (nothing_follows behind))
        (sym (drop-append-le has.place line (35 ∷ comment) (stand-within line comment 0 tokens
        has.place has.stand)))
        (longer-over line comment (drop has.place line) has.over);
  };
  same = longer-said line comment 0 tokens has.place has.stand;
}
