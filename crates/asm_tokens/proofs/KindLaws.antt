-- One token: the functions of its kind and size are the grammar.
use Rattle.std.proofs.Common.{◌≡◌, ℕ, suc, ◌+◌, Bool, true, false, cond, eqb, ◌||◌, inl, inr, List, [], ◌∷◌, ◌++◌, length, take, Option, Some, None, refl, subst, arith}
use Rattle.std.specs.Char.{is_ascii_digit}
use Rattle.std.specs.List.{list_all, prefix_len}
use Rattle.std.proofs.lemmas.Bool.{cases_Bool, and_parts, and_from, eqb-true}
use Rattle.std.proofs.lemmas.Bool.Decides.{nat_tests}
use Rattle.std.proofs.lemmas.Option.{none-some}
use Rattle.text_lines.specs.Words.{begins_comment, is_blank}
use Rattle.asm_tokens.specs.declared.token.TokenKind.{TokenKind}
use Rattle.asm_tokens.specs.declared.token.TokenKind.TheVariants.{Name, Number, Register, Text, Comma, Colon, Left, Right}
use Rattle.asm_tokens.specs.Lexemes.{begins_name, is_name_byte}
use Rattle.asm_tokens.specs.Tokens.{NoNameByte, kind_of_token}

-- ---- first bytes

-- a byte that begins a token of this kind
abbrev pub Begins : TokenKind → ℕ → Type 0
Begins Name byte = begins_name byte ≡ true
Begins Number byte = (is_ascii_digit byte || eqb byte 45) ≡ true
Begins Register byte = byte ≡ 36
Begins Text byte = byte ≡ 34
Begins Comma byte = byte ≡ 44
Begins Colon byte = byte ≡ 58
Begins Left byte = byte ≡ 40
Begins Right byte = byte ≡ 41

-- one case of the table
case : {A : Type 0} (P : A → Type 0) (b : Bool) (x : A) (rest : Option A) (y : A)
    → cond b (Some x) rest ≡ Some y → (b ≡ true → P x) → (rest ≡ Some y → P y) → P y
case P true x rest y h here there = subst P (cc h) (here refl)
case P false x rest y h here there = there h

pub kind_of-begins : (byte : ℕ) (kind : TokenKind) → kind_of_token byte ≡ Some kind → Begins kind byte
unfolding kind_of_token
kind_of-begins byte kind h =
    let P : TokenKind → Type 0 = λ k. Begins k byte in
    case P (begins_name byte) Name _ kind h (λ b. b) (λ h.
    case P (is_ascii_digit byte || eqb byte 45) Number _ kind h (λ b. b) (λ h.
    case P (eqb byte 36) Register _ kind h (λ b. eqb-true byte 36 b) (λ h.
    case P (eqb byte 34) Text _ kind h (λ b. eqb-true byte 34 b) (λ h.
    case P (eqb byte 44) Comma _ kind h (λ b. eqb-true byte 44 b) (λ h.
    case P (eqb byte 58) Colon _ kind h (λ b. eqb-true byte 58 b) (λ h.
    case P (eqb byte 40) Left _ kind h (λ b. eqb-true byte 40 b) (λ h.
    case P (eqb byte 41) Right None kind h (λ b. eqb-true byte 41 b)
    (λ h. absurd (none-some kind h)))))))))

-- what begins a number begins no name
no_name : (byte : ℕ) → (is_ascii_digit byte || eqb byte 45) ≡ true → begins_name byte ≡ false
no_name byte h = grind (arith, nat_tests)

pub begins-kind_of : (kind : TokenKind) (byte : ℕ) → Begins kind byte → kind_of_token byte ≡ Some kind
unfolding kind_of_token
begins-kind_of Name byte h = rw h refl
begins-kind_of Number byte h = rw (no_name byte h, h) refl
begins-kind_of Register byte h = rw h refl
begins-kind_of Text byte h = rw h refl
begins-kind_of Comma byte h = rw h refl
begins-kind_of Colon byte h = rw h refl
begins-kind_of Left byte h = rw h refl
begins-kind_of Right byte h = rw h refl

-- what begins a token is no blank and begins no comment
name_no_blank : (byte : ℕ) → begins_name byte ≡ true
    → (is_blank byte ≡ false) × (begins_comment byte ≡ false)
name_no_blank byte h = (grind (arith, nat_tests), grind (arith, nat_tests))

number_no_blank : (byte : ℕ) → (is_ascii_digit byte || eqb byte 45) ≡ true
    → (is_blank byte ≡ false) × (begins_comment byte ≡ false)
number_no_blank byte h = (grind (arith, nat_tests), grind (arith, nat_tests))

no_blank : (kind : TokenKind) (byte : ℕ) → Begins kind byte
    → (is_blank byte ≡ false) × (begins_comment byte ≡ false)
no_blank Name byte h = name_no_blank byte h
no_blank Number byte h = number_no_blank byte h
no_blank Register byte h = rw h (refl, refl)
no_blank Text byte h = rw h (refl, refl)
no_blank Comma byte h = rw h (refl, refl)
no_blank Colon byte h = rw h (refl, refl)
no_blank Left byte h = rw h (refl, refl)
no_blank Right byte h = rw h (refl, refl)

pub kind_of-no_blank : (byte : ℕ) (kind : TokenKind) → kind_of_token byte ≡ Some kind
    → (is_blank byte ≡ false) × (begins_comment byte ≡ false)
kind_of-no_blank byte kind h = no_blank kind byte (kind_of-begins byte kind h)

-- ---- name bytes

-- no name byte follows
stops : (bytes : List ℕ) → NoNameByte bytes → prefix_len is_name_byte bytes ≡ 0
stops [] h = refl
stops (byte ∷ bytes) h = rw h refl

-- all these are name bytes, and no other follows
pub run_whole : (bytes behind : List ℕ) → list_all is_name_byte bytes ≡ true → NoNameByte behind
    → prefix_len is_name_byte (bytes ++ behind) ≡ length bytes
run_whole [] behind all h = stops behind h
run_whole (byte ∷ bytes) behind all h =
    let parts = and_parts (is_name_byte byte) (list_all is_name_byte bytes) all in
    let more : prefix_len is_name_byte (bytes ++ behind) ≡ length bytes = run_whole bytes behind
    parts.1 h in
    rw (parts.0, more) (omega arith)

-- the name bytes at the front are all that there are
pub run_passes : (bytes : List ℕ)
    → list_all is_name_byte (take (prefix_len is_name_byte bytes) bytes) ≡ true
run_passes [] = refl
run_passes (byte ∷ bytes) =
    elim (cases_Bool (is_name_byte byte)) [
      | inl is ↦
          let one : 1 + prefix_len is_name_byte bytes ≡ suc (prefix_len is_name_byte bytes) =
          omega arith in
          rw (is, one) (and_from (is_name_byte byte)
          (list_all is_name_byte (take (prefix_len is_name_byte bytes) bytes)) is
          (run_passes bytes))
      | inr other ↦ rw other refl
    ]
