-- The tokens of a line: the function is the grammar.
use Rattle.std.proofs.Common.{◌≡◌, ℕ, zero, suc, ◌+◌, ◌-◌, ◌<◌, ◌≤◌, true, false, inl, inr, List, [], ◌∷◌, ◌++◌, length, take, drop, Option, Some, None, Result, Ok, Err, refl, sym, ap, subst, ◌∙◌, arith, append-nil, length-drop}
use Rattle.std.specs.Prelude.{All, IfOk, IsTrue, slice_get, slice_range}
use Rattle.std.specs.List.{list_all}
use Rattle.std.proofs.lemmas.Bool.{cases_Bool, and_parts, and_from, eqb-true}
use Rattle.std.proofs.lemmas.List.{length-take-le, take-append-drop}
use Rattle.std.proofs.lemmas.List.Elements.{All-cons, All-nil}
use Rattle.std.proofs.lemmas.Option.{none-some}
use Rattle.std.proofs.Math.Seq.{drop-drop}
use Rattle.xom_base.specs.Memory.{OrOut}
use Rattle.text_lines.specs.Words.{begins_comment, is_blank}
use Rattle.asm_tokens.proofs.KindLaws.{kind_of-no_blank}
use Rattle.asm_tokens.proofs.SizeLaws.{Sized, token_found, token_kind, token_only}
use Rattle.asm_tokens.proofs.StepLaws.{NoBlank, from_token, tokens_from-bad, tokens_from-blank, tokens_from-over, with_tokens-nil}
use Rattle.asm_tokens.specs.declared.token.Token.{Token}
use Rattle.asm_tokens.specs.declared.token.TokenFault.{TokenFault}
use Rattle.asm_tokens.specs.declared.token.TokenFault.TheVariants as fault
use Rattle.asm_tokens.specs.declared.token.TokenKind.{TokenKind}
use Rattle.asm_tokens.specs.Tokens.{AreTokens, BlankBetween, IsBadAt, IsTokenOf, StandBetween, TokensAnswers, nothing_follows, token_at, token_of, tokens_from, tokens_go_on, tokens_of, with_tokens}

-- ---- places of a line

-- the next place
next_place : (line : List ℕ) (at byte : ℕ) (bytes : List ℕ) → drop at line ≡ byte ∷ bytes
    → drop (at + 1) line ≡ bytes
next_place line at byte bytes here = sym (drop-drop 1 at line) ∙ ap (drop 1) here

-- a byte stands there
some_place : (line : List ℕ) (at byte : ℕ) (bytes : List ℕ) → drop at line ≡ byte ∷ bytes
    → at < length line
some_place line at byte bytes here = omega (arith, length-drop at line, ap length here)

slice_get_drop : (line : List ℕ) (at byte : ℕ) (bytes : List ℕ) → drop at line ≡ byte ∷ bytes
    → slice_get line at ≡ Some byte
slice_get_drop [] zero byte bytes here = absurd (omega (arith, ap length here))
slice_get_drop [] (suc at) byte bytes here = absurd (omega (arith, ap length here))
slice_get_drop (x ∷ line) zero byte bytes here = cc here
slice_get_drop (x ∷ line) (suc at) byte bytes here = slice_get_drop line at byte bytes here

drop_slice_get : (line : List ℕ) (at byte : ℕ) → slice_get line at ≡ Some byte
    → (bytes : List ℕ) × (drop at line ≡ byte ∷ bytes)
drop_slice_get [] at byte here = absurd (none-some byte here)
drop_slice_get (x ∷ line) zero byte here =
    let same : x ≡ byte = cc here in (line, ap (λ b. b ∷ line) same)
drop_slice_get (x ∷ line) (suc at) byte here = drop_slice_get line at byte here

-- a part of a line, and what stands behind it
part_whole : (line : List ℕ) (from to : ℕ) → from ≤ to
    → drop from line ≡ slice_range line from to ++ drop to line
part_whole line from to h =
    let sum : from + (to - from) ≡ to = omega arith in
    sym (take-append-drop (to - from) (drop from line)) ∙ ap (λ behind. slice_range line from to
    ++ behind) (drop-drop (to - from) from line ∙ ap (λ n. drop n line) sum)

part_length : (line : List ℕ) (from to : ℕ) → from ≤ to → to ≤ length line
    → length (slice_range line from to) ≡ to - from
part_length line from to h within =
    let fits : to - from ≤ length (drop from line) = omega (arith, length-drop from line) in
    length-take-le (to - from) (drop from line) fits

-- ---- one token of a line

-- what is of a size stands there
pub token_there : (line bytes : List ℕ) (at : ℕ) (found : TokenKind × ℕ) → drop at line ≡ bytes
    → at ≤ length line → Sized found.0 bytes found.1 → IsTokenOf line (token_at at found)
token_there line bytes at found here within s =
    let size : (at + found.1) - at ≡ found.1 = omega arith in
    record {
      ascends = omega (arith, s.some);
      within = omega (arith, s.within, length-drop at line, ap length here);
      text = rw (size, here) (s.text);
      ends = rw (← drop-drop found.1 at line, here) (s.ends);
    }

-- what stands there is found
pub token_at_start : (line : List ℕ) (token : Token) → IsTokenOf line token
    → token_of (drop token.start line) ≡ Some (token.kind, token.end - token.start)
token_at_start line token is =
    let later : token.start ≤ token.end = omega (arith, is.ascends) in
    ap token_of (part_whole line token.start token.end later)
    ∙ token_only token.kind (slice_range line token.start token.end) (drop token.end line) is.text
    is.ends
    ∙ ap (λ size. Some (token.kind, size)) (part_length line token.start token.end later is.within)

-- where a token begins, no blank stands and the line isn't over
token_front : (bytes : List ℕ) (kind : TokenKind) (size : ℕ) → token_of bytes ≡ Some (kind, size)
    → NoBlank bytes × (nothing_follows bytes ≡ false)
unfolding token_of
token_front [] kind size h = absurd (none-some (kind, size) h)
token_front (first ∷ rest) kind size h =
    kind_of-no_blank first kind (token_kind first rest kind size h)

-- ---- blanks

blank_none : (line : List ℕ) (at : ℕ) → at ≤ length line → BlankBetween line at at
blank_none line at within =
    let none : at - at
    ≡ 0 = omega arith in record { ascends = omega arith; within = within; blanks = rw none refl }

blank_front : (line : List ℕ) (from to byte : ℕ) (bytes : List ℕ) → drop from line ≡ byte ∷ bytes
    → is_blank byte ≡ true → BlankBetween line (from + 1) to → BlankBetween line from to
blank_front line from to byte bytes here blank b =
    let count : to - from ≡ suc (to - (from + 1)) = omega (arith, b.ascends) in
    let more : list_all is_blank (take (to - (from + 1)) bytes) ≡ true =
    rw (next_place line from byte bytes here) at b.blanks in
    record {
      ascends = omega (arith, b.ascends);
      within = b.within;
      blanks = rw (count, here)
          (and_from (is_blank byte) (list_all is_blank (take (to - (from + 1)) bytes)) blank more);
    }

stand_front : (line : List ℕ) (from to byte : ℕ) (bytes : List ℕ) (tokens : List Token)
    → drop from line ≡ byte ∷ bytes → is_blank byte ≡ true
    → StandBetween line (from + 1) tokens to → StandBetween line from tokens to
stand_front line from to byte bytes [] here blank s =
    blank_front line from to byte bytes here blank s
stand_front line from to byte bytes (token ∷ tokens) here blank s =
    (blank_front line from token.start byte bytes here blank s.0, s.1, s.2)

-- blanks are passed over
blanks_over : (at : ℕ) (blanks more : List ℕ) → list_all is_blank blanks ≡ true
    → tokens_from at 0 (blanks ++ more) ≡ tokens_from (at + length blanks) 0 more
blanks_over at [] more h = let same : at + 0 ≡ at = omega arith in rw same refl
blanks_over at (byte ∷ blanks) more h =
    let parts = and_parts (is_blank byte) (list_all is_blank blanks) h in
    let same : at + suc (length blanks) ≡ (at + 1) + length blanks = omega arith in
    rw same (tokens_from-blank at byte (blanks ++ more) parts.0 ∙ blanks_over (at + 1) blanks more
    parts.1)

blank_run : (line : List ℕ) (from to : ℕ) → BlankBetween line from to
    → tokens_from from 0 (drop from line) ≡ tokens_from to 0 (drop to line)
blank_run line from to b =
    let sum : from + (to - from) ≡ to = omega (arith, b.ascends) in
    ap (tokens_from from 0) (part_whole line from to b.ascends)
    ∙ blanks_over from (slice_range line from to) (drop to line) b.blanks
    ∙ ap (λ n. tokens_from n 0 (drop to line))
    (ap (λ n. from + n) (part_length line from to b.ascends b.within) ∙ sum)

-- ---- from the function to the grammar

-- no token begins there
pub record BadHere (line : List ℕ) (bad : ℕ) : Type 0 where
  pub byte : ℕ
  pub here : slice_get line bad ≡ Some byte
  pub no_blank : is_blank byte ≡ false
  pub no_comment : begins_comment byte ≡ false
  pub none : token_of (drop bad line) ≡ None

-- what an answer tells of a line from a place on
abbrev pub Told : List ℕ → ℕ → Result (List Token) ℕ → Type 0
Told line from (Ok tokens) =
    (place : ℕ) × StandBetween line from tokens place × IsTrue (nothing_follows (drop place line))
Told line from (Err bad) =
    (before : List Token) × StandBetween line from before bad × BadHere line bad

told_front : (line : List ℕ) (from byte : ℕ) (bytes : List ℕ) (read : Result (List Token) ℕ)
    → drop from line ≡ byte ∷ bytes → is_blank byte ≡ true → Told line (from + 1) read
    → Told line from read
told_front line from byte bytes (Ok tokens) here blank t =
    (t.0, stand_front line from t.0 byte bytes tokens here blank t.1, t.2)
told_front line from byte bytes (Err bad) here blank t =
    (t.0, stand_front line from bad byte bytes t.0 here blank t.1, t.2)

told_token : (line : List ℕ) (token : Token) (read : Result (List Token) ℕ) → IsTokenOf line token
    → Told line token.end read → Told line token.start (with_tokens (token ∷ []) read)
told_token line token (Ok tokens) is t =
    (t.0, (blank_none line token.start (omega (arith, is.ascends, is.within)), is, t.1), t.2)
told_token line token (Err bad) is t = (
  token ∷ t.0,
  (blank_none line token.start (omega (arith, is.ascends, is.within)), is, t.1),
  t.2,
)

told_go_on : (line : List ℕ) (at byte : ℕ) (bytes : List ℕ) → drop at line ≡ byte ∷ bytes
    → is_blank byte ≡ false → begins_comment byte ≡ false
    → ((left : ℕ) → left ≤ length bytes → Told line ((at + 1) + left)
    (tokens_from (at + 1) left bytes))
    → (found : Option (TokenKind × ℕ)) → token_of (byte ∷ bytes) ≡ found
    → Told line at (tokens_go_on at found (λ left. tokens_from (at + 1) left bytes))
told_go_on line at byte bytes here no_blank no_comment more None h =
    let within = some_place line at byte bytes here in (
      [],
      blank_none line at (omega arith),
      record {
        byte = byte;
        here = slice_get_drop line at byte bytes here;
        no_blank = no_blank;
        no_comment = no_comment;
        none = ap token_of here ∙ h;
      },
    )
told_go_on line at byte bytes here no_blank no_comment more (Some found) h =
    let within = some_place line at byte bytes here in
    let s = token_found (byte ∷ bytes) found.0 found.1 h in
    let is = token_there line (byte ∷ bytes) at found here (omega arith) s in
    let sum : (at + 1) + (found.1 - 1) ≡ at + found.1 = omega (arith, s.some) in
    let fits : found.1 - 1 ≤ length bytes = omega (arith, s.within) in
    told_token line (token_at at found) (tokens_from (at + 1) (found.1 - 1) bytes) is
    (subst (λ place. Told line place (tokens_from (at + 1) (found.1 - 1) bytes)) sum
    (more (found.1 - 1) fits))

told_from : (line rest : List ℕ) (at left : ℕ) → drop at line ≡ rest → left ≤ length rest
    → at ≤ length line → Told line (at + left) (tokens_from at left rest)
unfolding tokens_from
told_from line [] at zero here small within =
    let same : at + 0 ≡ at = omega arith in
    rw same (at, blank_none line at within, rw here refl)
told_from line [] at (suc left) here small within = absurd (omega arith)
told_from line (byte ∷ bytes) at (suc left) here small within =
    let same : at + suc left ≡ (at + 1) + left = omega arith in
    let there = some_place line at byte bytes here in
    rw same (told_from line bytes (at + 1) left (next_place line at byte bytes here) (omega arith)
    (omega arith))
told_from line (byte ∷ bytes) at zero here small within =
    let same : at + 0 ≡ at = omega arith in
    let there = some_place line at byte bytes here in
    let more : (left : ℕ) → left ≤ length bytes → Told line ((at + 1) + left)
    (tokens_from (at + 1) left bytes)
    = λ left fits. told_from line bytes (at + 1) left (next_place line at byte bytes here) fits
    (omega arith) in
    rw same (elim (cases_Bool (is_blank byte)) [
      | inl blank ↦
          let none : (at + 1) + 0 ≡ at + 1 = omega arith in
          rw blank (told_front line at byte bytes (tokens_from (at + 1) 0 bytes) here blank
          (subst (λ place. Told line place (tokens_from (at + 1) 0 bytes)) none
          (more 0 (omega arith))))
      | inr plain ↦
          elim (cases_Bool (begins_comment byte)) [
            | inl comment ↦ rw (plain, comment) (at, blank_none line at within, rw here comment)
            | inr code ↦ rw (plain, code) (told_go_on line at byte bytes here plain code more
                (token_of (byte ∷ bytes)) refl)
          ]
    ])

-- ---- from the grammar to the function

-- a first token, in front of the others
with_tokens-cons : (token : Token) (tokens : List Token) (read : Result (List Token) ℕ)
    → with_tokens (token ∷ []) (with_tokens tokens read) ≡ with_tokens (token ∷ tokens) read
with_tokens-cons token tokens (Ok more) = refl
with_tokens-cons token tokens (Err bad) = refl

-- a token that stands at a place is found there
stands_first : (line : List ℕ) (token : Token) → IsTokenOf line token
    → tokens_from token.start 0 (drop token.start line) ≡ with_tokens (token ∷ [])
    (tokens_from token.end 0 (drop token.end line))
stands_first line token is =
    let size : token.start + (token.end - token.start) ≡ token.end = omega (arith, is.ascends) in
    let some : 0 < token.end - token.start = omega (arith, is.ascends) in
    let found = token_at_start line token is in
    let front = token_front (drop token.start line) token.kind (token.end - token.start) found in
    from_token line token.start token.kind (token.end - token.start) front.0 front.1 found some
    ∙ ap (λ end. with_tokens (record { kind = token.kind; start = token.start; end = end } ∷ [])
    (tokens_from end 0 (drop end line))) size

told_only : (line : List ℕ) (from : ℕ) (tokens : List Token) (to : ℕ)
    → StandBetween line from tokens to
    → tokens_from from 0 (drop from line) ≡ with_tokens tokens (tokens_from to 0 (drop to line))
told_only line from [] to s =
    blank_run line from to s ∙ sym (with_tokens-nil (tokens_from to 0 (drop to line)))
told_only line from (token ∷ tokens) to s =
    blank_run line from token.start s.0
    ∙ stands_first line token s.1
    ∙ ap (with_tokens (token ∷ [])) (told_only line token.end tokens to s.2)
    ∙ with_tokens-cons token tokens (tokens_from to 0 (drop to line))

-- where a line is over, no blank stands
over_no_blank : (bytes : List ℕ) → nothing_follows bytes ≡ true → NoBlank bytes
over_no_blank [] over = tt
over_no_blank (byte ∷ bytes) over = let is : byte ≡ 35 = eqb-true byte 35 over in rw is refl

-- ---- the whole line

pub tokens_found : (line : List ℕ) (tokens : List Token) → tokens_of line ≡ Ok tokens
    → AreTokens line tokens
unfolding tokens_of
tokens_found line tokens h =
    let t : Told line 0 (Ok tokens) =
    subst (Told line 0) h (told_from line line 0 0 refl (omega arith) (omega arith)) in
    record { place = t.0; stand = t.1; over = t.2 }

pub tokens_only : (line : List ℕ) (tokens : List Token) → AreTokens line tokens
    → tokens_of line ≡ Ok tokens
unfolding tokens_of
tokens_only line tokens are =
    told_only line 0 tokens are.place are.stand
    ∙ ap (with_tokens tokens) (tokens_from-over are.place (drop are.place line)
    (over_no_blank (drop are.place line) are.over) are.over)
    ∙ ap Ok (append-nil tokens)

pub bad_found : (line : List ℕ) (bad : ℕ) → tokens_of line ≡ Err bad → IsBadAt line bad
unfolding tokens_of
bad_found line bad h =
    let t : Told line 0 (Err bad) =
    subst (Told line 0) h (told_from line line 0 0 refl (omega arith) (omega arith)) in
    record {
      before = t.0;
      stand = t.1;
      byte = t.2.byte;
      here = t.2.here;
      no_blank = t.2.no_blank;
      no_comment = t.2.no_comment;
      no_token = λ token starts is.
          none-some (token.kind, token.end - token.start)
          (sym (t.2.none) ∙ ap (λ n. token_of (drop n line)) (sym starts) ∙ token_at_start line
          token is);
    }

-- where no token of the line begins, none is found
none_found : (line bytes : List ℕ) (bad : ℕ) → drop bad line ≡ bytes → bad ≤ length line
    → ((token : Token) → token.start ≡ bad → ¬ IsTokenOf line token)
    → (found : Option (TokenKind × ℕ)) → token_of bytes ≡ found → token_of bytes ≡ None
none_found line bytes bad here within never None h = h
none_found line bytes bad here within never (Some found) h =
    absurd (never (token_at bad found) refl (token_there line bytes bad found here within
    (token_found bytes found.0 found.1 h)))

pub bad_only : (line : List ℕ) (bad : ℕ) → IsBadAt line bad → tokens_of line ≡ Err bad
unfolding tokens_of
bad_only line bad is =
    let d = drop_slice_get line bad is.byte is.here in
    let within = some_place line bad is.byte d.0 d.1 in
    let none = none_found line (is.byte ∷ d.0) bad d.1 (omega arith) is.no_token
    (token_of (is.byte ∷ d.0)) refl in
    told_only line 0 is.before bad is.stand
    ∙ ap (with_tokens is.before) (ap (tokens_from bad 0) d.1 ∙ tokens_from-bad bad (is.byte ∷ d.0)
    is.no_blank is.no_comment none)

pub stand_all : (line : List ℕ) (from : ℕ) (tokens : List Token) (to : ℕ)
    → StandBetween line from tokens to → All (IsTokenOf line) tokens
stand_all line from [] to s = All-nil (IsTokenOf line)
stand_all line from (token ∷ tokens) to s =
    All-cons (IsTokenOf line) token tokens s.1 (stand_all line token.end tokens to s.2)

-- ---- answers

-- two answers are not one
ok_err : {A E : Type 0} (x : A) (e : E) → Ok x ≡ Err e → ⊥
ok_err x e h = absurd (cc h)

pub answers_found : (line : List ℕ) (result : Result (List Token) TokenFault)
    → TokensAnswers (tokens_of line) result → IfOk result (AreTokens line)
answers_found line (Ok tokens) h = tokens_found line tokens h
answers_found line (Err fault) h = tt

pub answers_only : (line : List ℕ) (result : Result (List Token) TokenFault)
    → TokensAnswers (tokens_of line) result
    → (tokens : List Token) → AreTokens line tokens → OrOut fault.NoMemory (Ok tokens) result
answers_only line (Ok found) h tokens are =
    let same : found ≡ tokens = cc (sym h ∙ tokens_only line tokens are) in inl (ap Ok same)
answers_only line (Err (fault.Token bad)) h tokens are =
    absurd (ok_err tokens bad (sym (tokens_only line tokens are) ∙ h))
answers_only line (Err fault.NoMemory) h tokens are = inr refl

pub answers_bad : (line : List ℕ) (result : Result (List Token) TokenFault)
    → TokensAnswers (tokens_of line) result
    → (bad : ℕ) → result ≡ Err (fault.Token bad) → IsBadAt line bad
answers_bad line (Ok found) h bad is = absurd (ok_err found (fault.Token bad) is)
answers_bad line (Err (fault.Token other)) h bad is =
    let same : other ≡ bad = cc is in bad_found line bad (h ∙ ap Err same)
answers_bad line (Err fault.NoMemory) h bad is = absurd (cc is)

pub answers_only_bad : (line : List ℕ) (result : Result (List Token) TokenFault)
    → TokensAnswers (tokens_of line) result
    → (bad : ℕ) → IsBadAt line bad → OrOut fault.NoMemory (Err (fault.Token bad)) result
answers_only_bad line (Ok found) h bad is = absurd (ok_err found bad (sym h ∙ bad_only line bad is))
answers_only_bad line (Err (fault.Token other)) h bad is =
    let same : other
    ≡ bad = cc (sym h ∙ bad_only line bad is) in inl (ap (λ b. Err (fault.Token b)) same)
answers_only_bad line (Err fault.NoMemory) h bad is = inr refl

pub answers_slices : (line : List ℕ) (result : Result (List Token) TokenFault)
    → TokensAnswers (tokens_of line) result → IfOk result (λ tokens. All (IsTokenOf line) tokens)
answers_slices line (Ok tokens) h =
    let are = tokens_found line tokens h in stand_all line 0 tokens are.place are.stand
answers_slices line (Err fault) h = tt
