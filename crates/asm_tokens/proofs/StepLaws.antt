-- The tokens of a line, one after another.
use Rattle.std.proofs.Common.{◌≡◌, ℕ, zero, suc, ◌+◌, ◌-◌, ◌<◌, true, false, inl, inr, List, [], ◌∷◌, ◌++◌, drop, Some, None, Result, Ok, Err, refl, sym, ap, subst, ◌∙◌, arith, append_assoc}
use Rattle.std.specs.List.{prefix_len}
use Rattle.std.proofs.lemmas.Bool.{cases_Bool, true≢false}
use Rattle.std.proofs.Math.Seq.{drop-drop}
use Rattle.text_lines.specs.Words.{is_blank}
use Rattle.asm_tokens.proofs.Heads.{FirstFails-behind}
use Rattle.asm_tokens.specs.declared.token.Token.{Token}
use Rattle.asm_tokens.specs.declared.token.TokenKind.{TokenKind}
use Rattle.asm_tokens.specs.Tokens.{FirstFails, nothing_follows, token_at, token_of, tokens_from, with_tokens}

-- ---- what is passed over

-- the bytes of a token that are left
pub tokens_from-left : (at left : ℕ) (bytes : List ℕ)
    → tokens_from at left bytes ≡ tokens_from (at + left) 0 (drop left bytes)
unfolding tokens_from
tokens_from-left at zero bytes = let same : at + 0 ≡ at = omega arith in rw same refl
tokens_from-left at (suc left) [] = refl
tokens_from-left at (suc left) (byte ∷ bytes) =
    let same : at + suc left ≡ (at + 1) + left = omega arith in
    rw same (tokens_from-left (at + 1) left bytes)

-- blanks in front
pub tokens_from-blank : (at byte : ℕ) (bytes : List ℕ) → is_blank byte ≡ true
    → tokens_from at 0 (byte ∷ bytes) ≡ tokens_from (at + 1) 0 bytes
unfolding tokens_from
tokens_from-blank at byte bytes blank = rw blank refl

pub tokens_from-blanks : (at : ℕ) (bytes : List ℕ)
    → tokens_from at 0 bytes ≡ tokens_from (at + prefix_len is_blank bytes) 0
    (drop (prefix_len is_blank bytes) bytes)
tokens_from-blanks at [] = let same : at + 0 ≡ at = omega arith in rw same refl
tokens_from-blanks at (byte ∷ bytes) =
    elim (cases_Bool (is_blank byte)) [
      | inl blank ↦
          let same : at + suc (prefix_len is_blank bytes) ≡ (at + 1) + prefix_len is_blank bytes =
          omega arith in
          let one : 1 + prefix_len is_blank bytes ≡ suc (prefix_len is_blank bytes) = omega arith in
          tokens_from-blank at byte bytes blank ∙ tokens_from-blanks (at + 1) bytes
          ∙ rw (blank, one, same) refl
      | inr other ↦ let same : at + 0 ≡ at = omega arith in rw (other, same) refl
    ]

-- no blank stands in front
abbrev pub NoBlank : List ℕ → Type 0
NoBlank bytes = FirstFails is_blank bytes

-- from a place of a line on, the same from the first byte that is no blank
pub from_start : (line : List ℕ) (at count : ℕ) → count ≡ prefix_len is_blank (drop at line)
    → tokens_from at 0 (drop at line) ≡ tokens_from (at + count) 0 (drop (at + count) line)
from_start line at count h =
    tokens_from-blanks at (drop at line)
    ∙ rw (← h) (ap (tokens_from (at + count) 0) (drop-drop count at line))

pub start_no_blank : (line : List ℕ) (at count : ℕ) → count ≡ prefix_len is_blank (drop at line)
    → NoBlank (drop (at + count) line)
start_no_blank line at count h =
    subst NoBlank (ap (λ n. drop n (drop at line)) (sym h) ∙ drop-drop count at line)
    (FirstFails-behind is_blank (drop at line))

-- ---- what stands there

pub tokens_from-over : (at : ℕ) (bytes : List ℕ) → NoBlank bytes → nothing_follows bytes ≡ true
    → tokens_from at 0 bytes ≡ Ok []
unfolding tokens_from
tokens_from-over at [] front over = refl
tokens_from-over at (byte ∷ bytes) front over = rw (front, over) refl

pub tokens_from-bad : (at : ℕ) (bytes : List ℕ) → NoBlank bytes → nothing_follows bytes ≡ false
    → token_of bytes ≡ None → tokens_from at 0 bytes ≡ Err at
unfolding tokens_from
tokens_from-bad at [] front there none = absurd (true≢false there)
tokens_from-bad at (byte ∷ bytes) front there none = rw (front, there, none) refl

pub tokens_from-token : (at : ℕ) (bytes : List ℕ) (kind : TokenKind) (size : ℕ) → NoBlank bytes
    → nothing_follows bytes ≡ false → token_of bytes ≡ Some (kind, size) → 0 < size
    → tokens_from at 0 bytes ≡ with_tokens (token_at at (kind, size) ∷ [])
    (tokens_from (at + size) 0 (drop size bytes))
unfolding tokens_from
tokens_from-token at [] kind size front there is some = absurd (true≢false there)
tokens_from-token at (byte ∷ bytes) kind zero front there is some = absurd (omega arith)
tokens_from-token at (byte ∷ bytes) kind (suc size) front there is some =
    let same : at + suc size ≡ (at + 1) + size = omega arith in
    let less : suc size - 1 ≡ size = omega arith in
    rw (front, there, is) (ap (with_tokens (token_at at (kind, suc size) ∷ []))
    (rw (less, same) (tokens_from-left (at + 1) size bytes)))

pub from_token : (line : List ℕ) (at : ℕ) (kind : TokenKind) (size : ℕ) → NoBlank (drop at line)
    → nothing_follows (drop at line) ≡ false → token_of (drop at line) ≡ Some (kind, size) → 0 < size
    → tokens_from at 0 (drop at line) ≡ with_tokens (token_at at (kind, size) ∷ [])
    (tokens_from (at + size) 0 (drop (at + size) line))
from_token line at kind size front there is some =
    tokens_from-token at (drop at line) kind size front there is some
    ∙ ap (λ rest. with_tokens (token_at at (kind, size) ∷ []) (tokens_from (at + size) 0 rest))
    (drop-drop size at line)

-- ---- one behind the other

-- one token more
pub with_tokens-one : (front : List Token) (token : Token) (read : Result (List Token) ℕ)
    → with_tokens front (with_tokens (token ∷ []) read) ≡ with_tokens (front ++ token ∷ []) read
with_tokens-one front token (Ok more) = rw append_assoc refl
with_tokens-one front token (Err bad) = refl

pub with_tokens-nil : (read : Result (List Token) ℕ) → with_tokens [] read ≡ read
with_tokens-nil (Ok more) = refl
with_tokens-nil (Err bad) = refl
