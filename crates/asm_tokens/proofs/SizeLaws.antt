-- One token: the function of its size is the grammar.
use Rattle.std.proofs.Common.{◌≡◌, ℕ, zero, suc, ◌+◌, ◌-◌, ◌<◌, ◌≤◌, Bool, true, false, eqb, ◌&&◌, ◌||◌, inl, inr, List, [], ◌∷◌, ◌++◌, length, take, drop, Option, Some, None, refl, sym, ap, subst, ◌∙◌, arith}
use Rattle.std.specs.Prelude.{is_some, option_map, slice_get}
use Rattle.std.specs.Char.{digit_value, is_ascii_digit}
use Rattle.std.specs.List.{AllByRecursion, list_all, prefix_len}
use Rattle.std.proofs.lemmas.Bool.{and_parts, and_from, eqb-true, true≢false}
use Rattle.std.proofs.lemmas.Bool.Decides.{nat_tests}
use Rattle.std.proofs.lemmas.List.{length-append}
use Rattle.std.proofs.lemmas.List.Sums.{prefix_len-le-length}
use Rattle.std.proofs.lemmas.Option.{none-some, cond_some, option_and_then_some, some_pair_parts}
use Rattle.std.proofs.Math.Seq.{take-append_seam}
use Rattle.text_lines.proofs.CutLaws.{option_map_some}
use Rattle.text_lines.specs.Numbers.{IsNumber}
use Rattle.asm_tokens.proofs.Heads.{FirstFails-behind, first_same}
use Rattle.asm_tokens.proofs.IntegerLaws.{integer_of-exact}
use Rattle.asm_tokens.proofs.KindLaws.{Begins, begins-kind_of, kind_of-begins, run_passes, run_whole}
use Rattle.asm_tokens.proofs.QuotedLaws.{read_quoted-found, read_quoted-only}
use Rattle.asm_tokens.proofs.RegisterLaws.{register_of-exact}
use Rattle.asm_tokens.specs.declared.integers.Integer.{Integer}
use Rattle.asm_tokens.specs.declared.token.TokenKind.{TokenKind}
use Rattle.asm_tokens.specs.declared.token.TokenKind.TheVariants.{Name, Number, Register, Text, Comma, Colon, Left, Right}
use Rattle.asm_tokens.specs.Integers.{IsInteger, integer_of}
use Rattle.asm_tokens.specs.Lexemes.{IsName, QuotesBytes, is_name_byte, read_quoted}
use Rattle.asm_tokens.specs.Registers.{IsRegister, register_names, register_numbers, register_of}
use Rattle.asm_tokens.specs.Tokens.{EndsBefore, IsTextOf, NoNameByte, kind_of_token, name_run_size, size_of_token, token_of}

-- ---- from the function to the grammar

-- so many bytes at the front are a token of this kind
pub record Sized (kind : TokenKind) (bytes : List ℕ) (size : ℕ) : Type 0 where
  pub some : 0 < size
  pub within : size ≤ length bytes
  pub text : IsTextOf kind (take size bytes)
  pub ends : EndsBefore kind (drop size bytes)

-- one more
one : (n : ℕ) → 1 + n ≡ suc n
one n = omega arith

-- a first byte and the name bytes that follow
run_sized : (kind : TokenKind) (first : ℕ) (rest : List ℕ)
    → ((behind : List ℕ) → NoNameByte behind → EndsBefore kind behind)
    → IsTextOf kind (take (1 + prefix_len is_name_byte rest) (first ∷ rest))
    → Sized kind (first ∷ rest) (1 + prefix_len is_name_byte rest)
run_sized kind first rest stops text = record {
  some = omega arith;
  within = omega (arith, prefix_len-le-length is_name_byte rest);
  text = text;
  ends = rw (one (prefix_len is_name_byte rest)) (stops (drop (prefix_len is_name_byte rest) rest)
      (FirstFails-behind is_name_byte rest));
}

-- what is there
has_some : {A : Type 0} (o : Option A) → is_some o ≡ true → (x : A) × (o ≡ Some x)
has_some None h = absurd (true≢false (sym h))
has_some (Some x) h = (x, refl)

-- a quoted text, up to its closing quote
quoted_sized : (own behind bytes : List ℕ) → QuotesBytes own bytes
    → Sized Text (34 ∷ (own ++ behind)) (suc (length own))
quoted_sized own behind bytes w = record {
  some = omega arith;
  within = omega (arith, length-append own behind);
  text = (bytes, (own, ap (λ (m : List ℕ). 34 ∷ m) (take-append_seam own behind), w));
  ends = tt;
}

-- the same where the first byte and the rest are told by equations
quoted_text : (first : ℕ) (rest : List ℕ) (size : ℕ) → first ≡ 34 → (own behind bytes : List ℕ)
    → rest ≡ own ++ behind → QuotesBytes own bytes
    → length (first ∷ rest) - length behind ≡ size → Sized Text (first ∷ rest) size
quoted_text first rest size quote own behind bytes whole w e =
    let is : suc (length own) ≡ size = omega (arith, length-append own behind, ap length whole) in
    rw (quote, whole, ← is) (quoted_sized own behind bytes w)

-- a sign of one byte
sign : (kind : TokenKind) (first : ℕ) (rest : List ℕ) (size byte : ℕ) → first ≡ byte → 1 ≡ size
    → IsTextOf kind (byte ∷ []) → ((behind : List ℕ) → EndsBefore kind behind)
    → Sized kind (first ∷ rest) size
sign kind first rest size byte is e text ends =
    rw (is, ← e) record { some = omega arith; within = omega arith; text = text; ends = ends rest }

sized : (kind : TokenKind) (first : ℕ) (rest : List ℕ) (size : ℕ) → Begins kind first
    → size_of_token kind (first ∷ rest) ≡ Some size → Sized kind (first ∷ rest) size
unfolding size_of_token
sized Name first rest size begins h =
    let e : 1 + prefix_len is_name_byte rest ≡ size = cc h in
    subst (Sized Name (first ∷ rest)) e (run_sized Name first rest (λ behind s. s)
    (rw (one (prefix_len is_name_byte rest)) (begins, run_passes rest)))
sized Number first rest size begins h =
    let text : List ℕ = take (1 + prefix_len is_name_byte rest) (first ∷ rest) in
    let c = cond_some (is_some (integer_of text)) (1 + prefix_len is_name_byte rest) size h in
    let i = has_some (integer_of text) c.0 in
    subst (Sized Number (first ∷ rest)) c.1 (run_sized Number first rest (λ behind s. s)
    (i.0, (integer_of-exact text i.0).0 i.1))
sized Register first rest size begins h =
    let text : List ℕ = take (1 + prefix_len is_name_byte rest) (first ∷ rest) in
    let c = cond_some (is_some (register_of text)) (1 + prefix_len is_name_byte rest) size h in
    let r = has_some (register_of text) c.0 in
    subst (Sized Register (first ∷ rest)) c.1 (run_sized Register first rest (λ behind s. s)
    (r.0, (register_of-exact text r.0).0 r.1))
sized Text first rest size begins h =
    let m = option_map_some (λ (read : List ℕ × List ℕ). length (first ∷ rest) - length read.1)
    (read_quoted false rest) size h in
    let found = read_quoted-found false rest m.0.0 m.0.1 m.1 in
    quoted_text first rest size begins found.0 m.0.1 m.0.0 found.1 found.2 (cc (m.2))
sized Comma first rest size begins h =
    sign Comma first rest size 44 begins (cc h) refl (λ behind. tt)
sized Colon first rest size begins h =
    sign Colon first rest size 58 begins (cc h) refl (λ behind. tt)
sized Left first rest size begins h = sign Left first rest size 40 begins (cc h) refl (λ behind. tt)
sized Right first rest size begins h =
    sign Right first rest size 41 begins (cc h) refl (λ behind. tt)

pub token_found : (bytes : List ℕ) (kind : TokenKind) (size : ℕ)
    → token_of bytes ≡ Some (kind, size) → Sized kind bytes size
unfolding token_of
token_found [] kind size h = absurd (none-some (kind, size) h)
token_found (first ∷ rest) kind size h =
    option_and_then_some (λ kind. option_map (λ size. (kind, size)) (size_of_token kind (first ∷ rest)))
    (kind_of_token first) (kind, size) h (λ k is then.
    let m = option_map_some (λ size. (k, size)) (size_of_token k (first ∷ rest)) (kind, size) then in
    let e = some_pair_parts k kind m.0 size m.2 in
    sized kind first rest size (kind_of-begins first kind (is ∙ ap Some e.0))
    (ap (λ k. size_of_token k (first ∷ rest)) (sym e.0) ∙ m.1 ∙ ap Some e.1))

-- the kind of a token is that of its first byte
pub token_kind : (first : ℕ) (rest : List ℕ) (kind : TokenKind) (size : ℕ)
    → token_of (first ∷ rest) ≡ Some (kind, size) → kind_of_token first ≡ Some kind
unfolding token_of
token_kind first rest kind size h =
    option_and_then_some (λ kind. option_map (λ size. (kind, size)) (size_of_token kind (first ∷ rest)))
    (kind_of_token first) (kind, size) h (λ k is then.
    let m = option_map_some (λ size. (k, size)) (size_of_token k (first ∷ rest)) (kind, size) then in
    is ∙ ap Some (some_pair_parts k kind m.0 size m.2).0)

-- ---- from the grammar to the function

-- a digit is a name byte
digit_name : (digit : ℕ) → digit_value digit < 16 → is_name_byte digit ≡ true
digit_name digit h = grind (arith, nat_tests)

digits_names : (base : ℕ) (digits : List ℕ) → base ≤ 16
    → AllByRecursion (λ digit. digit_value digit < base) digits
    → list_all is_name_byte digits ≡ true
digits_names base [] small h = refl
digits_names base (digit ∷ digits) small h =
    and_from (is_name_byte digit) (list_all is_name_byte digits)
    (digit_name digit (omega (arith, h.0))) (digits_names base digits small h.1)

number_names : (word : List ℕ) (n : ℕ) → IsNumber word n → list_all is_name_byte word ≡ true
number_names word n h =
    elim h [
      | inl d ↦ digits_names 10 word (omega arith) d.0.digits
      | inr x ↦ rw (x.1) (digits_names 16 x.0 (omega arith) x.2.digits)
    ]

-- a number begins with a digit
decimal_begins : (digit : ℕ) → digit_value digit < 10
    → (is_ascii_digit digit || eqb digit 45) ≡ true
decimal_begins digit h = grind (arith, nat_tests)

-- a text of one first byte and name bytes
pub record Shaped (kind : TokenKind) (text : List ℕ) : Type 0 where
  pub first : ℕ
  pub rest : List ℕ
  pub whole : text ≡ first ∷ rest
  pub begins : Begins kind first
  pub names : list_all is_name_byte rest ≡ true

-- what follows the first
rest_names : (first : ℕ) (rest : List ℕ) → list_all is_name_byte (first ∷ rest) ≡ true
    → list_all is_name_byte rest ≡ true
rest_names first rest h = (and_parts (is_name_byte first) (list_all is_name_byte rest) h).1

name_shaped : (text : List ℕ) → IsName text → Shaped Name text
name_shaped [] h = absurd h
name_shaped (first ∷ rest) h = record {
  first = first;
  rest = rest;
  whole = refl;
  begins =
      h.0;
  names = h.1;
}

number_shaped : (text : List ℕ) (n : ℕ) → IsNumber text n → Shaped Number text
number_shaped [] n h = elim h [
  | inl d ↦ absurd (omega (arith, d.0.some))
  | inr x ↦
      absurd (omega (arith, ap length x.1))
]
number_shaped (first ∷ rest) n h = record {
  first = first;
  rest = rest;
  whole = refl;
  begins = elim h [
    | inl d ↦ decimal_begins first d.0.digits.0
    | inr x ↦ let zero_digit : first ≡ 48 = first_same first 48 rest (120 ∷ x.0) x.1 in
        rw zero_digit refl
  ];
  names = rest_names first rest (number_names (first ∷ rest) n h);
}

integer_shaped : (text : List ℕ) (i : Integer) → IsInteger text i → Shaped Number text
integer_shaped text i h =
    elim h [
      | inl plain ↦ number_shaped text i.magnitude plain.1
      | inr minus ↦ record {
        first = 45;
        rest = minus.0;
        whole = minus.1;
        begins = refl;
        names =
            number_names minus.0 i.magnitude minus.3;
      }
    ]

-- each text of a table is of this shape
is_shaped : List ℕ → Bool
is_shaped [] = false
is_shaped (first ∷ rest) = eqb first 36 && list_all is_name_byte rest

shaped_from : (text : List ℕ) → is_shaped text ≡ true → Shaped Register text
unfolding is_shaped
shaped_from [] h = absurd (true≢false (sym h))
shaped_from (first ∷ rest) h =
    let parts = and_parts (eqb first 36) (list_all is_name_byte rest) h in
    record {
      first = first;
      rest = rest;
      whole = refl;
      begins = eqb-true first 36 parts.0;
      names =
          parts.1;
    }

all_at : (texts : List (List ℕ)) (k : ℕ) (text : List ℕ) → list_all is_shaped texts ≡ true
    → slice_get texts k ≡ Some text → is_shaped text ≡ true
all_at [] k text all h = absurd (none-some text h)
all_at (t ∷ texts) zero text all h =
    let same : t ≡ text = cc h in
    rw (← same) ((and_parts (is_shaped t) (list_all is_shaped texts) all).0)
all_at (t ∷ texts) (suc k) text all h =
    all_at texts k text (and_parts (is_shaped t) (list_all is_shaped texts) all).1 h

numbers_shaped : list_all is_shaped register_numbers ≡ true
unfolding is_shaped register_numbers
numbers_shaped = refl

names_shaped : list_all is_shaped register_names ≡ true
unfolding is_shaped register_names
names_shaped = refl

register_shaped : (text : List ℕ) (r : ℕ) → IsRegister text r → Shaped Register text
register_shaped text r h =
    shaped_from text (elim h [
      | inl number ↦ all_at register_numbers r text numbers_shaped number
      | inr name ↦ all_at register_names r text names_shaped name
    ])

-- the token that the functions find
token_by : (kind : TokenKind) (first : ℕ) (rest : List ℕ) (size : ℕ) → Begins kind first
    → size_of_token kind (first ∷ rest) ≡ Some size → token_of (first ∷ rest) ≡ Some (kind, size)
unfolding token_of
token_by kind first rest size begins h = rw (begins-kind_of kind first begins, h) refl

-- a text of that shape is as long as the name bytes go
run_is : (first : ℕ) (rest behind : List ℕ) → list_all is_name_byte rest ≡ true → NoNameByte behind
    → name_run_size (first ∷ (rest ++ behind)) ≡ suc (length rest)
run_is first rest behind names ends =
    let n : prefix_len is_name_byte (rest ++ behind)
    ≡ length rest = run_whole rest behind names ends in rw n (omega arith)

run_text : (first : ℕ) (rest behind : List ℕ) → list_all is_name_byte rest ≡ true
    → NoNameByte behind
    → take (name_run_size (first ∷ (rest ++ behind))) (first ∷ (rest ++ behind)) ≡ first ∷ rest
run_text first rest behind names ends =
    let n = run_is first rest behind names ends in
    rw n (ap (λ (m : List ℕ). first ∷ m) (take-append_seam rest behind))

name_only : (text behind : List ℕ) → Shaped Name text → NoNameByte behind
    → token_of (text ++ behind) ≡ Some (Name, length text)
unfolding size_of_token
name_only text behind s ends =
    rw (s.whole) (token_by Name s.first (s.rest ++ behind) (suc (length s.rest)) s.begins
    (ap Some (run_is s.first s.rest behind s.names ends)))

number_only : (text behind : List ℕ) (i : Integer) → Shaped Number text → NoNameByte behind
    → integer_of text ≡ Some i → token_of (text ++ behind) ≡ Some (Number, length text)
unfolding size_of_token
number_only text behind i s ends is =
    let here : integer_of (s.first ∷ s.rest) ≡ Some i = ap integer_of (sym s.whole) ∙ is in
    rw (s.whole) (token_by Number s.first (s.rest ++ behind) (suc (length s.rest)) s.begins
    (rw (run_text s.first s.rest behind s.names ends, here)
    (ap Some (run_is s.first s.rest behind s.names ends))))

register_only : (text behind : List ℕ) (r : ℕ) → Shaped Register text → NoNameByte behind
    → register_of text ≡ Some r → token_of (text ++ behind) ≡ Some (Register, length text)
unfolding size_of_token
register_only text behind r s ends is =
    let here : register_of (s.first ∷ s.rest) ≡ Some r = ap register_of (sym s.whole) ∙ is in
    rw (s.whole) (token_by Register s.first (s.rest ++ behind) (suc (length s.rest)) s.begins
    (rw (run_text s.first s.rest behind s.names ends, here)
    (ap Some (run_is s.first s.rest behind s.names ends))))

text_only : (body behind bytes : List ℕ) → QuotesBytes body bytes
    → token_of (34 ∷ (body ++ behind)) ≡ Some (Text, suc (length body))
unfolding size_of_token
text_only body behind bytes w =
    let size : length (34 ∷ (body ++ behind)) - length behind ≡ suc (length body) =
    omega (arith, length-append body behind) in
    token_by Text 34 (body ++ behind) (suc (length body)) refl
    (rw (read_quoted-only bytes body behind w) (ap Some size))

-- a sign
sign_only : (kind : TokenKind) (byte : ℕ) (text behind : List ℕ) → Begins kind byte
    → text ≡ byte ∷ [] → ((bytes : List ℕ) → size_of_token kind bytes ≡ Some 1)
    → token_of (text ++ behind) ≡ Some (kind, length text)
sign_only kind byte text behind begins whole size =
    rw whole (token_by kind byte behind 1 begins (size (byte ∷ behind)))

pub token_only : (kind : TokenKind) (text behind : List ℕ) → IsTextOf kind text
    → EndsBefore kind behind → token_of (text ++ behind) ≡ Some (kind, length text)
unfolding size_of_token
token_only Name text behind h ends = name_only text behind (name_shaped text h) ends
token_only Number text behind h ends =
    number_only text behind h.0 (integer_shaped text h.0 h.1) ends
    ((integer_of-exact text h.0).1 h.1)
token_only Register text behind h ends =
    register_only text behind h.0 (register_shaped text h.0 h.1) ends
    ((register_of-exact text h.0).1 h.1)
token_only Text text behind h ends = rw (h.1.1) (text_only h.1.0 behind h.0 h.1.2)
token_only Comma text behind h ends = sign_only Comma 44 text behind refl h (λ bytes. refl)
token_only Colon text behind h ends = sign_only Colon 58 text behind refl h (λ bytes. refl)
token_only Left text behind h ends = sign_only Left 40 text behind refl h (λ bytes. refl)
token_only Right text behind h ends = sign_only Right 41 text behind refl h (λ bytes. refl)
