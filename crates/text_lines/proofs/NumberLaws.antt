-- Numerals: their digits and values as std's `from_str_radix` says them, and the two forms of
-- numbers.
use Rattle.std.proofs.Common.{◌≡◌, ◌≢◌, ℕ, suc, ◌+◌, ◌*◌, ◌^◌, ◌<◌, ◌≤◌, Bool, true, false, cond, eqb, ltb, leb, ◌&&◌, inl, inr, List, [], ◌∷◌, ◌++◌, length, get_or, take, drop, Option, Some, None, Result, Ok, Err, refl, sym, ap, subst, ◌∙◌, arith, Decides}
use Rattle.std.proofs.Math.Nat.{pow-le-pow_right, pow-zero, pow-suc}
use Rattle.std.proofs.lemmas.Bool.{and_parts, and_from, both_ways, true≢false, cases_Bool, eqb-true, cond-true, ltb-true, lt-ltb, leb-true, le-leb, false_from_ne_true}
use Rattle.std.proofs.lemmas.Bool.Decides.{nat_tests, Decides-ltb, Decides-and}
use Rattle.std.proofs.lemmas.Int.Digits.{digits_value-lt}
use Rattle.std.proofs.lemmas.List.{take-append-drop, append_cancel_left}
use Rattle.std.proofs.lemmas.Option.{cond_some, none-some, option_and_then_some}
use Rattle.std.proofs.lemmas.Slice.Eq.{bytes_eq-Decides}
use Rattle.std.proofs.lemmas.Str.{IsUtf8-from_ascii}
use Rattle.std.proofs.lemmas.Str.Ascii.{IsAscii-nil, IsAscii-cons}
use Rattle.std.specs.Prelude.{◌↔◌, IfSome, IsNone, codes, option_and_then}
use Rattle.std.proofs.lemmas.Str.Parse.{without_leading_plus_none}
use Rattle.std.specs.Cmp.Lexicographic.{pointwise}
use Rattle.std.specs.Char.{digit_value, is_digit}
use Rattle.std.specs.List.{AllByRecursion, list_all, starts_with}
use Rattle.std.specs.Result.{OkIff, result_ok}
use Rattle.std.specs.Str.{IsAscii, IsUtf8, bytes_eq}
use Rattle.std.specs.Str.Parse.{AllDigits, ParsesUnsigned, IsNumeral as IsStdNumeral, digits_value, digits_value_after}
use Rattle.text_lines.specs.Numbers.{IsDecimal, IsNumber, IsNumeral, WritesBelow, WritesCount, WritesDecimal, count_below_of, decimal_below_of, if_below, is_numeral, number_below_of, number_of_word, numeral_of, value}

-- ---- values

-- a digit in front of a number's digits
in_front : (n base digit power more : ℕ)
    → (n * base + digit) * power + more ≡ n * (power * base) + (digit * power + more)
in_front n base digit power more = omega arith

-- the number that digits write behind those of another one
pub value_after : (base n : ℕ) (ds : List ℕ)
    → digits_value_after base n ds ≡ n * base ^ length ds + value base ds
value_after base n [] = let one : base ^ 0 ≡ 1 = pow-zero base in rw one (omega arith)
value_after base n (d ∷ ds) =
    value_after base (n * base + digit_value d) ds
    ∙ rw (pow-suc base (length ds)) (in_front n base (digit_value d) (base ^ length ds)
    (value base ds))

pub value_is : (base : ℕ) (ds : List ℕ) → digits_value base ds ≡ value base ds
value_is base ds = value_after base 0 ds ∙ omega arith

-- ---- digits

pub digits_Decides : (base : ℕ) (ds : List ℕ)
    → Decides (list_all (λ d. is_digit d base) ds) (AllDigits base ds)
digits_Decides base [] = (λ h. tt, λ h. refl)
digits_Decides base (d ∷ ds) =
    Decides-and (is_digit d base) (list_all (λ d. is_digit d base) ds)
    (Decides-ltb (digit_value d) base) (digits_Decides base ds)

pub digits_to : (base : ℕ) (ds : List ℕ) → AllByRecursion (λ d. digit_value d < base) ds
    → AllDigits base ds
digits_to base [] h = tt
digits_to base (d ∷ ds) h = (h.0, digits_to base ds h.1)

pub digits_from : (base : ℕ) (ds : List ℕ) → AllDigits base ds
    → AllByRecursion (λ d. digit_value d < base) ds
digits_from base [] h = tt
digits_from base (d ∷ ds) h = (h.0, digits_from base ds h.1)

pub numeral_Decides : (base : ℕ) (word : List ℕ)
    → Decides (is_numeral base word) (IsStdNumeral base word)
numeral_Decides base word =
    Decides-and (ltb 0 (length word)) (list_all (λ d. is_digit d base) word)
    (Decides-ltb 0 (length word)) (digits_Decides base word)

digit_ascii : (d : ℕ) → digit_value d < 16 → d < 128
digit_ascii d h = grind (arith, nat_tests)

pub IsAscii-digits : (base : ℕ) (ds : List ℕ) → base ≤ 16 → AllDigits base ds → IsAscii ds
IsAscii-digits base [] small h = IsAscii-nil
IsAscii-digits base (d ∷ ds) small h =
    IsAscii-cons d ds (digit_ascii d (omega (arith, h.0))) (IsAscii-digits base ds small h.1)

pub IsUtf8-digits : (base : ℕ) (ds : List ℕ) → base ≤ 16 → AllDigits base ds → IsUtf8 ds
IsUtf8-digits base ds small h = IsUtf8-from_ascii ds (IsAscii-digits base ds small h)

-- a numeral begins with no sign
plus_none : (d base : ℕ) → base ≤ 16 → digit_value d < base → d ≢ 43
plus_none d base small h = grind (arith, nat_tests)

pub first_is_digit : (base : ℕ) (word : List ℕ) → base ≤ 16 → IsStdNumeral base word
    → get_or word 0 0 ≢ 43
first_is_digit base [] small h = absurd (omega (arith, h.0))
first_is_digit base (d ∷ ds) small h = plus_none d base small h.1.0

-- ---- one numeral

pub none_from_never : {A : Type 0} (o : Option A) → ((x : A) → o ≡ Some x → ⊥) → o ≡ None
none_from_never None never = refl
none_from_never (Some x) never = absurd (never x refl)

-- where there are just the values of a relation, there is none exactly off the relation
pub none_by_exact : {A : Type 0} (P : A → Type 0) (o : Option A) → ((x : A) → (o ≡ Some x) ↔ P x)
    → IsNone o ↔ ((x : A) → ¬ (P x))
none_by_exact P None exact = (λ _ x p. none-some x ((exact x).1 p), λ _. refl)
none_by_exact P (Some x) exact =
    (λ h. absurd (true≢false h), λ never. absurd (never x ((exact x).0 refl)))

pub numeral_of-exact : (base : ℕ) (word : List ℕ) (n : ℕ)
    → (numeral_of base word ≡ Some n) ↔ (IsNumeral base word × (n ≡ value base word) × (n < 2 ^ 64))
unfolding numeral_of
numeral_of-exact base word n = (
  λ h.
      let c = cond_some (is_numeral base word && ltb (value base word) (2 ^ 64)) (value base word) n
      h in
      let t = and_parts (is_numeral base word) (ltb (value base word) (2 ^ 64)) c.0 in
      let w = (numeral_Decides base word).0 t.0 in
      let small : value base word < 2 ^ 64 = ltb-true (value base word) (2 ^ 64) t.1 in
      (record { some = w.0; digits = digits_from base word w.1 }, sym c.1, rw (sym c.1) small),
  λ h.
      let w = (numeral_Decides base word).1 (h.0.some, digits_to base word h.0.digits) in
      let small : value base word < 2 ^ 64 = rw (sym h.1) h.2 in
      cond-true (is_numeral base word && ltb (value base word) (2 ^ 64)) (Some (value base word))
      None (and_from (is_numeral base word) (ltb (value base word) (2 ^ 64)) w
      (lt-ltb (value base word) (2 ^ 64) small))
      ∙ ap Some (sym h.1),
)

pub numeral_none : (base : ℕ) (word : List ℕ) → (IsStdNumeral base word → ⊥)
    → numeral_of base word ≡ None
unfolding numeral_of
numeral_none base word never =
    let no : is_numeral base word ≡ false = false_from_ne_true (is_numeral base word)
    (λ yes. never ((numeral_Decides base word).0 yes)) in
    rw no refl

-- what parsing a text with no sign gives
pub numeral_parsed : {E : Type 0} (base : ℕ) (word : List ℕ) (r : Result ℕ E)
    → OkIff r (IsStdNumeral base word × (digits_value base word < 2 ^ 64)) (digits_value base word)
    → result_ok r ≡ numeral_of base word
numeral_parsed base word (Ok n) h =
    let same : n ≡ value base word = h.1 ∙ value_is base word in
    sym ((numeral_of-exact base word n).1 (
      record { some = h.0.0.0; digits = digits_from base word h.0.0.1 },
      same,
      rw (h.1) (h.0.1),
    ))
numeral_parsed base word (Err e) h =
    sym (none_from_never (numeral_of base word) (λ n found.
    let w = (numeral_of-exact base word n).0 found in
    h ((w.0.some, digits_to base word w.0.digits), rw (value_is base word, sym w.1) w.2)))

-- what begins with a plus
pub begins_plus : (word : List ℕ) → starts_with eqb word (43 ∷ []) ≡ true → get_or word 0 0 ≡ 43
begins_plus [] h = absurd (true≢false (sym h))
begins_plus (b ∷ bs) h =
    sym (eqb-true 43 b (and_parts (eqb 43 b) (pointwise eqb [] (take 0 bs)) h).0)

pub begins_no_plus : (word : List ℕ) → starts_with eqb word (43 ∷ []) ≡ false → get_or word 0 0 ≢ 43
begins_no_plus [] h e = absurd (omega arith)
begins_no_plus (b ∷ bs) h e = both_ways (starts_with eqb (b ∷ bs) (43 ∷ [])) h (rw e refl)

pub numeral_unsigned : {E : Type 0} (base : ℕ) (word : List ℕ) (r : Result ℕ E)
    → starts_with eqb word (43 ∷ []) ≡ false → ParsesUnsigned 64 base word r
    → result_ok r ≡ numeral_of base word
numeral_unsigned base word r plain parsed =
    numeral_parsed base word r (rw (without_leading_plus_none word (begins_no_plus word plain)) at
    parsed)

-- ---- numbers

-- so many hexadecimal digits write a number below 2^64
short_value : (digits : List ℕ) → AllDigits 16 digits → length digits ≤ 16
    → value 16 digits < 2 ^ 64
short_value digits all short =
    let below : value 16 digits < 16 ^ length digits = rw (value_is 16 digits) at
    (digits_value-lt 16 digits all) in
    let most : 16 ^ length digits ≤ 16 ^ 16 = pow-le-pow_right (omega arith) short in
    omega arith

-- what begins with `0x` is no decimal numeral
not_decimal : (digits : List ℕ) → AllDigits 10 (codes "0x" ++ digits) → ⊥
not_decimal digits h = let x : digit_value 120 < 10 = h.1.0 in absurd (omega arith)

-- a guarded value
pub cond_then : {A : Type 0} (b : Bool) (o : Option A) (x : A) → cond b o None ≡ Some x
    → (b ≡ true) × (o ≡ Some x)
cond_then true o x h = (refl, h)
cond_then false o x h = absurd (none-some x h)

-- a word that begins with `0x`
hexadecimal_exact : (digits : List ℕ) (n : ℕ)
    → (cond (leb (length (codes "0x" ++ digits)) 18) (numeral_of 16 digits) None ≡ Some n) ↔
    IsNumber (codes "0x" ++ digits) n
hexadecimal_exact digits n = (
  λ h.
      let c = cond_then (leb (length (codes "0x" ++ digits)) 18) (numeral_of 16 digits) n h in
      let w = (numeral_of-exact 16 digits n).0 c.1 in
      let short : suc (suc (length digits)) ≤ 18 = leb-true (length (codes "0x" ++ digits)) 18
      c.0 in
      inr (digits, refl, w.0, omega arith, w.1),
  λ h. elim h [
    | inl d ↦ absurd (not_decimal digits (digits_to 10 (codes "0x" ++ digits) d.0.digits))
    | inr x ↦
        let same : digits ≡ x.0 = append_cancel_left (codes "0x") digits x.0 x.1 in
        let short : length digits ≤ 16 = rw same x.3 in
        let all : IsNumeral 16 digits = rw same x.2 in
        let written : n ≡ value 16 digits = rw same x.4 in
        let below : value 16 digits < 2 ^ 64 = short_value digits (digits_to 16 digits all.digits)
        short in
        cond-true (leb (length (codes "0x" ++ digits)) 18) (numeral_of 16 digits) None
        (le-leb (length (codes "0x" ++ digits)) 18 (omega arith))
        ∙ (numeral_of-exact 16 digits n).1 (all, written, rw written below)
  ],
)

pub number_of-exact : (word : List ℕ) (n : ℕ) → (number_of_word word ≡ Some n) ↔ IsNumber word n
unfolding number_of_word
number_of-exact word n =
    elim (cases_Bool (bytes_eq (take 2 word) (codes "0x"))) [
      | inl here ↦
          let front : word ≡ codes "0x" ++ drop 2 word =
          sym (take-append-drop 2 word) ∙ ap (λ two. two ++ drop 2 word)
          ((bytes_eq-Decides (take 2 word) (codes "0x")).0 here) in
          rw here (subst (λ w. (cond (leb (length w) 18) (numeral_of 16 (drop 2 word))
          None ≡ Some n) ↔ IsNumber w n) (sym front) (hexadecimal_exact (drop 2 word) n))
      | inr away ↦
          rw away (
            λ h. inl ((numeral_of-exact 10 word n).0 h),
            λ h. elim h [
              | inl d ↦ (numeral_of-exact 10 word n).1 d
              | inr x ↦ absurd (true≢false (rw x.1 at away))
            ],
          )
    ]

-- ---- numbers below a bound

below-exact : (P : ℕ → Type 0) (read : Option ℕ) (bound n : ℕ) → ((m : ℕ) → (read ≡ Some m) ↔ P m)
    → (option_and_then (if_below bound) read ≡ Some n) ↔ (P n × (n < bound))
below-exact P read bound n exact = (
  λ h. option_and_then_some (if_below bound) read n h (λ m is below.
      let c = cond_some (ltb m bound) m n below in
      let small : m < bound = ltb-true m bound c.0 in
      ((exact n).0 (is ∙ ap Some c.1), rw (sym c.1) small)),
  λ h. rw ((exact n).1 h.0, lt-ltb n bound h.1) refl,
)

pub number_below_of-exact : (bound : ℕ) (word : List ℕ) (n : ℕ)
    → (number_below_of bound word ≡ Some n) ↔ WritesBelow bound word n
unfolding number_below_of
number_below_of-exact bound word n =
    below-exact (IsNumber word) (number_of_word word) bound n (number_of-exact word)

pub count_below_of-exact : (bound : ℕ) (word : List ℕ) (n : ℕ)
    → (count_below_of bound word ≡ Some n) ↔ WritesCount bound word n
unfolding count_below_of
count_below_of-exact bound word n = (
  λ h. option_and_then_some (λ m. cond (leb 1 m) (Some m) None) (number_below_of bound word) n h
      (λ m read from.
      let c = cond_some (leb 1 m) m n from in (
        subst (WritesBelow bound word) c.1 ((number_below_of-exact bound word m).0 read),
        subst (λ n. 1 ≤ n) c.1 (leb-true 1 m c.0),
      )),
  λ h. rw ((number_below_of-exact bound word n).1 h.0, le-leb 1 n h.1) refl,
)

pub decimal_below_of-exact : (bound : ℕ) (word : List ℕ) (n : ℕ)
    → (decimal_below_of bound word ≡ Some n) ↔ WritesDecimal bound word n
unfolding decimal_below_of
decimal_below_of-exact bound word n =
    below-exact (IsDecimal word) (numeral_of 10 word) bound n (numeral_of-exact 10 word)

-- what the relation says of each value
pub some_by_exact : {A : Type 0} (P Q : A → Type 0) (o : Option A) → ((x : A) → (o ≡ Some x) ↔ P x)
    → ((x : A) → P x → Q x) → IfSome o Q
some_by_exact P Q None exact gives = tt
some_by_exact P Q (Some x) exact gives = gives x ((exact x).0 refl)
