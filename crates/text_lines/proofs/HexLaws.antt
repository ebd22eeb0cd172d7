-- Words of hexadecimal digits, against the crate that decodes them.
use Rattle.std.proofs.Common.{◌≡◌, ℕ, zero, suc, ◌+◌, ◌*◌, ◌/◌, ◌%◌, ◌<◌, ◌≤◌, leb, Bool, true, false, ◌&&◌, ◌==◌, inl, inr, List, [], ◌∷◌, ◌++◌, length, take, Option, Some, None, Result, Ok, Err, refl, sym, ap, ◌∙◌, arith, Decides}
use Rattle.std.proofs.Math.Seq.{take-append_seam}
use Rattle.std.proofs.lemmas.Bool.{both_ways, true≢false, cases_Bool, cond-true, eqb-true, le-leb, leb-true}
use Rattle.std.proofs.lemmas.Bool.Decides.{nat_tests, Decides-and, Decides-eqb}
use Rattle.std.proofs.lemmas.List.Elements.{recursion_from_All}
use Rattle.std.proofs.lemmas.Option.{cond_some}
use Rattle.std.specs.Prelude.{◌↔◌, IfOk, IsNone, IsOk, MatchOption, MatchResult, is_ok, option_map}
use Rattle.std.specs.Char.{digit_value, is_digit}
use Rattle.std.specs.List.{AllByRecursion, list_all}
use Rattle.std.specs.Result.{result_ok}
use Rattle.std.specs.Str.Parse.{AllDigits}
use Rattle.hex.specs.Hex.{decode_of, decode_pairs, decode_sized, hex_digit_value, is_hex_digit, pair_value}
use Rattle.hex.proofs.HexLemmas.{IsOk-decode_sized, decode_of-odd, decode_sized-odd, decode_sized-twice}
use Rattle.hex.proofs.Pairs.{decode_pairs-ok_pair, decode_sized-pairs}
use Rattle.hex.specs.declared.error.FromHexError.{FromHexError}
use Rattle.text_lines.specs.Hex.{IsHex, WritesHex, hex_of, hex_within, pairs}
use Rattle.text_lines.proofs.NumberLaws.{cond_then, digits_Decides, digits_from, digits_to, none_by_exact}

-- a digit has the value that the crate gives it
pub digit_is : (c : ℕ) → digit_value c < 16 → hex_digit_value c ≡ Some (digit_value c)
digit_is c h = grind (arith, nat_tests)

-- what the crate takes as a digit is one
pub digit_has : (c : ℕ) → is_hex_digit c ≡ true → digit_value c < 16
digit_has c h = grind (arith, nat_tests)

-- two digits in a row
pair_is : (high low i : ℕ) → digit_value high < 16 → digit_value low < 16
    → pair_value high low i ≡ Ok (digit_value high * 16 + digit_value low)
pair_is high low i h l = rw (digit_is high h, digit_is low l) refl

-- pairs of digits decode as they are
pub decode_is : (i count : ℕ) (word : List ℕ) → length word ≡ 2 * count → AllDigits 16 word
    → decode_pairs i word ≡ Ok (pairs word)
unfolding decode_pairs
decode_is i count [] sized all = refl
decode_is i zero (high ∷ word) sized all = absurd (omega arith)
decode_is i (suc count) (high ∷ []) sized all = absurd (omega arith)
decode_is i (suc count) (high ∷ low ∷ word) sized all =
    decode_pairs-ok_pair i high low (digit_value high * 16 + digit_value low) word
    (pair_is high low i all.0 all.1.0)
    ∙ rw (decode_is (i + 2) count word (omega arith) all.1.1) refl

-- ---- the word as a whole

-- the test of `hex_of`
abbrev fits : ℕ → List ℕ → Bool
fits count word = (length word == 2 * count) && list_all (λ digit. is_digit digit 16) word

fits_Decides : (count : ℕ) (word : List ℕ)
    → Decides (fits count word) ((length word ≡ 2 * count) × AllDigits 16 word)
fits_Decides count word =
    Decides-and (length word == 2 * count) (list_all (λ digit. is_digit digit 16) word)
    (Decides-eqb (length word) (2 * count)) (digits_Decides 16 word)

pub hex_of-exact : (count : ℕ) (word bytes : List ℕ)
    → (hex_of count word ≡ Some bytes) ↔ IsHex count word bytes
unfolding hex_of
hex_of-exact count word bytes = (
  λ h.
      let c = cond_some (fits count word) (pairs word) bytes h in
      let w = (fits_Decides count word).0 c.0 in
      record { sized = w.0; digits = digits_from 16 word w.1; written = sym c.1 },
  λ h.
      cond-true (fits count word) (Some (pairs word)) None
      ((fits_Decides count word).1 (h.sized, digits_to 16 word h.digits))
      ∙ ap Some (sym h.written),
)

each_digit : (word : List ℕ) → AllByRecursion (λ c. is_hex_digit c ≡ true) word → AllDigits 16 word
each_digit [] h = tt
each_digit (c ∷ cs) h = (digit_has c h.0, each_digit cs h.1)

-- what isn't decoded isn't read
refused : (r : Result (List ℕ) FromHexError) → (IsOk r → ⊥) → result_ok r ≡ None
refused (Ok bytes) never = absurd (never refl)
refused (Err e) never = refl

-- decoding into room for so many bytes
pub decoded_is : (count : ℕ) (word : List ℕ)
    → result_ok (decode_sized word count) ≡ hex_of count word
unfolding hex_of
decoded_is count word =
    elim (cases_Bool (fits count word)) [
      | inl here ↦
          let w = (fits_Decides count word).0 here in
          let even : length word % 2 ≡ 0 = rw w.0 (omega arith) in
          let half : length word / 2 ≡ count = rw w.0 (omega arith) in
          rw here (ap result_ok (decode_sized-pairs word count even half ∙ decode_is 0 count word
          w.0 w.1))
      | inr away ↦
          rw away (refused (decode_sized word count) (λ ok.
          let w = (IsOk-decode_sized word count).0 ok in
          both_ways (fits count word) away
          ((fits_Decides count word).1
          (w.0, each_digit word (recursion_from_All (λ c. is_hex_digit c ≡ true) word w.1)))))
    ]

-- decoding into new memory
pub decoded_new : (word : List ℕ) → result_ok (decode_of word) ≡ hex_of (length word / 2) word
decoded_new word =
    elim (cases_Bool (length word % 2 == 1)) [
      | inl odd ↦
          let is : length word % 2 ≡ 1 = eqb-true (length word % 2) 1 odd in
          ap result_ok (decode_of-odd word is ∙ sym (decode_sized-odd word (length word / 2) is))
          ∙ decoded_is (length word / 2) word
      | inr even ↦
          let is : length word ≡ 2 * (length word / 2) = Prim.grind (arith, nat_tests) in
          ap result_ok (sym (decode_sized-twice word (length word / 2) is))
          ∙ decoded_is (length word / 2) word
    ]

-- ---- words of any even number of digits

pub length-pairs : (count : ℕ) (word : List ℕ) → length word ≡ 2 * count → length (pairs word) ≡ count
length-pairs count [] sized = omega arith
length-pairs zero (high ∷ word) sized = absurd (omega arith)
length-pairs (suc count) (high ∷ []) sized = absurd (omega arith)
length-pairs (suc count) (high ∷ low ∷ word) sized = ap suc (length-pairs count word (omega arith))

pub length-IsHex : (count : ℕ) (word bytes : List ℕ) → IsHex count word bytes → length bytes ≡ count
length-IsHex count word bytes is = ap length is.written ∙ length-pairs count word is.sized

pub length-hex_of : (count : ℕ) (word bytes : List ℕ) → hex_of count word ≡ Some bytes
    → length bytes ≡ count
length-hex_of count word bytes h =
    length-IsHex count word bytes ((hex_of-exact count word bytes).0 h)

pub hex_within-exact : (most : ℕ) (word bytes : List ℕ)
    → (hex_within most word ≡ Some bytes) ↔ WritesHex most word bytes
unfolding hex_within
hex_within-exact most word bytes = (
  λ h.
      let c = cond_then (leb (length word / 2) most) (hex_of (length word / 2) word) bytes h in
      let long = length-hex_of (length word / 2) word bytes c.1 in (
        rw long ((hex_of-exact (length word / 2) word bytes).0 c.1),
        rw long
            (leb-true (length word / 2) most c.0),
      ),
  λ h.
      let half : length word / 2 ≡ length bytes = rw h.0.sized (omega arith) in
      rw half (
      cond-true (leb (length bytes) most) (hex_of (length bytes) word) None
      (le-leb (length bytes) most h.1)
      ∙ (hex_of-exact (length bytes) word bytes).1 h.0
      ),
)

pub hex_within-fits : (most : ℕ) (word : List ℕ) → length word / 2 ≤ most
    → hex_within most word ≡ hex_of (length word / 2) word
unfolding hex_within
hex_within-fits most word fits =
    cond-true (leb (length word / 2) most) (hex_of (length word / 2) word) None
    (le-leb (length word / 2) most fits)

-- ---- what the calls answer

-- decoding into a room of just so many bytes
pub fills_by : (decoded : Result (List ℕ) FromHexError) (r : Result (Unit {0}) FromHexError)
    (new : List ℕ) (done : Bool)
    → MatchResult decoded (λ bytes. (r ≡ Ok tt) × (new ≡ bytes)) (λ e. r ≡ Err e) → done ≡ is_ok r
    → MatchOption (result_ok decoded) (done ≡ false) (λ bytes. (done ≡ true) × (new ≡ bytes))
fills_by (Ok bytes) r new done h is = (is ∙ ap is_ok h.0, h.1)
fills_by (Err e) r new done h is = is ∙ ap is_ok h

-- the front of a room that was filled
pub filled_room : (read : Option (List ℕ)) (count : ℕ) (new rest : List ℕ)
    → ((bytes : List ℕ) → read ≡ Some bytes → length bytes ≡ count)
    → MatchOption read (true ≡ false) (λ bytes. (true ≡ true) × (new ≡ bytes))
    → Some (take count (new ++ rest)) ≡ read
filled_room None count new rest long h = absurd (true≢false h)
filled_room (Some bytes) count new rest long h =
    ap Some (rw (h.1, sym (long bytes refl)) (take-append_seam bytes rest))

pub unfilled_room : (read : Option (List ℕ)) (new : List ℕ) → MatchOption read (false ≡ false)
    (λ bytes. (false ≡ true) × (new ≡ bytes)) → ◌≡◌ {A = Option (List ℕ)} None read
unfilled_room None new h = refl
unfilled_room (Some bytes) new h = absurd (true≢false (sym h.0))

-- a form that is read exactly, behind want of memory
pub exact_in : {A E : Type 0} (P : A → Type 0) (form : Option A) → ((x : A) → (form ≡ Some x) ↔ P x)
    → (r : Result (Option A) E)
    → IfOk r (λ found. found ≡ form) → IfOk r (λ found. (x : A) → (found ≡ Some x) ↔ P x)
exact_in P form exact (Ok found) h = rw h exact
exact_in P form exact (Err e) h = tt

pub none_in : {A E : Type 0} (P : A → Type 0) (form : Option A) → ((x : A) → (form ≡ Some x) ↔ P x)
    → (r : Result (Option A) E)
    → IfOk r (λ found. found ≡ form) → IfOk r (λ found. IsNone found ↔ ((x : A) → ¬ (P x)))
none_in P form exact (Ok found) h = none_by_exact P found (rw h exact)
none_in P form exact (Err e) h = tt

-- the same of a value that is made of what was answered
pub none_made : {A B : Type 0} (P : B → Type 0) (f : A → B) (o : Option A)
    → ((x : B) → (option_map f o ≡ Some x) ↔ P x) → IsNone o ↔ ((x : B) → ¬ (P x))
none_made P f None exact = none_by_exact P None exact
none_made P f (Some a) exact = none_by_exact P (Some (f a)) exact
