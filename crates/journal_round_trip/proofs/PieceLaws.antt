-- What is printed of numbers and bytes is a word, and is in the grammar.
use Rattle.std.proofs.Common.{◌≡◌, ℕ, zero, suc, ◌^◌, ◌<◌, ◌≤◌, false, inl, List, [], ◌∷◌, length, refl, sym, ap, ◌∙◌, arith}
use Rattle.std.specs.Fmt.{decimal}
use Rattle.std.specs.Char.{digit_value}
use Rattle.std.specs.Int.{w32, to_be_bytes}
use Rattle.std.specs.List.{AllByRecursion, list_any}
use Rattle.std.specs.Result.{result_ok}
use Rattle.std.proofs.lemmas.Bool.{or_from}
use Rattle.std.proofs.lemmas.Bool.Decides.{nat_tests}
use Rattle.std.proofs.lemmas.Fmt.{decimal_is_IsNumeral}
use Rattle.std.proofs.lemmas.Nat.{from_be_bytes-to_be_bytes_4}
use Rattle.hex.specs.Hex.{IsBytes, encode_lower}
use Rattle.hex.proofs.HexLemmas.{decode_sized-encode_lower}
use Rattle.text_pieces.specs.Pieces.{hex8}
use Rattle.text_lines.specs.Hex.{IsHex}
use Rattle.text_lines.specs.Numbers.{IsDecimal, IsNumeral, WritesBelow}
use Rattle.text_lines.proofs.HexLaws.{decoded_is, hex_of-exact}
use Rattle.text_lines.proofs.NumberLaws.{digits_from, value_is}
use Rattle.step_text.specs.StepFields.{IsHex8}
use Rattle.journal_round_trip.proofs.WordLaws.{IsPlain, IsWord, ends}

-- ---- digits

-- a digit ends neither a word nor a line
ends-digit : (d : ℕ) → digit_value d < 16 → ends d ≡ false
ends-digit d digit = grind (arith, nat_tests)

plain-digits : (base : ℕ) (word : List ℕ) → base ≤ 16
    → AllByRecursion (λ d. digit_value d < base) word → IsPlain word
plain-digits base [] small each = refl
plain-digits base (d ∷ word) small each =
    or_from (ends d) (list_any ends word)
    (ends-digit d (omega (arith, each.0))) (plain-digits base word small each.1)

-- ---- numbers

pub decimal-printed : (n : ℕ) → n < 2 ^ 64 → IsDecimal (decimal n) n
decimal-printed n small =
    let d = decimal_is_IsNumeral n small in
    let numeral : IsNumeral 10 (decimal n) =
    record { some = d.0.0; digits = digits_from 10 (decimal n) d.0.1 } in
    (numeral, sym d.1 ∙ value_is 10 (decimal n), small)

pub number-printed : (bound n : ℕ) → n < bound → n < 2 ^ 64 → WritesBelow bound (decimal n) n
number-printed bound n below small = (inl (decimal-printed n small), below)

pub word-decimal : (n : ℕ) → n < 2 ^ 64 → IsWord (decimal n)
word-decimal n small =
    let d = decimal-printed n small in
    (d.0.some, plain-digits 10 (decimal n) (omega arith) d.0.digits)

-- ---- bytes

pub hex-printed : (count : ℕ) (bytes : List ℕ) → length bytes ≡ count → IsBytes bytes
    → IsHex count (encode_lower bytes) bytes
hex-printed count bytes sized all =
    (hex_of-exact count (encode_lower bytes) bytes).0
    (sym (decoded_is count (encode_lower bytes))
    ∙ ap result_ok (decode_sized-encode_lower bytes count sized all))

pub word-hex : (count : ℕ) (bytes : List ℕ) → length bytes ≡ count → 0 < count → IsBytes bytes
    → IsWord (encode_lower bytes)
word-hex count bytes sized some all =
    let h = hex-printed count bytes sized all in
    (omega (arith, h.sized), plain-digits 16 (encode_lower bytes) (omega arith) h.digits)

-- ---- numbers of 32 bits

pub number-bytes : (n : ℕ) → IsBytes (to_be_bytes w32 n)
number-bytes n zero = omega arith
number-bytes n (suc zero) = omega arith
number-bytes n (suc (suc zero)) = omega arith
number-bytes n (suc (suc (suc zero))) = omega arith
number-bytes n (suc (suc (suc (suc i)))) = omega arith

pub hex8-printed : (n : ℕ) → n < 2 ^ 32 → IsHex8 (hex8 n) n
hex8-printed n small =
    let digits = hex-printed 4 (to_be_bytes w32 n) refl (number-bytes n) in
    (to_be_bytes w32 n, digits, sym (from_be_bytes-to_be_bytes_4 n small))

pub word-hex8 : (n : ℕ) → IsWord (hex8 n)
word-hex8 n = word-hex 4 (to_be_bytes w32 n) refl (omega arith) (number-bytes n)
