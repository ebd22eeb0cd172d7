-- The numbers of printed texts, read again: in decimal, with a sign, and in hexadecimal behind
-- `0x`.
use Rattle.std.proofs.Common.{◌≡◌, ℕ, zero, suc, ◌+◌, ◌-◌, ◌*◌, ◌/◌, ◌%◌, ◌^◌, ◌<◌, ◌≤◌, Bool, true, false, ◌==◌, ◌&&◌, ltb, ℤ, pos, negsuc, ◌-ℤ◌, List, [], ◌∷◌, ◌++◌, get_or, inl, inr, refl, sym, ap, subst, ◌∙◌, arith}
use Rattle.std.specs.Prelude.{codes, slice_index}
use Rattle.std.specs.Char.{digit_value}
use Rattle.std.specs.Fmt.{decimal, signed_decimal}
use Rattle.std.specs.List.{AllByRecursion}
use Rattle.std.proofs.lemmas.Bool.{and_parts, cases_Bool, cases_lt, eqb-true, ltb-false}
use Rattle.std.proofs.lemmas.Fmt.{decimal_is_IsNumeral}
use Rattle.std.proofs.lemmas.Int.{ints}
use Rattle.std.proofs.lemmas.Nat.{be_bytes_4}
use Rattle.hex.specs.Hex.{encode_lower, encode_with, lower_digits}
use Rattle.text_lines.proofs.NumberLaws.{digits_from, value_is}
use Rattle.text_lines.specs.Numbers.{IsNumber, value}
use Rattle.text_pieces.specs.Pieces.{hex8}
use Rattle.mips_instruction.specs.Numbers.{signed_16}
use Rattle.asm_tokens.specs.declared.integers.Integer.{Integer}
use Rattle.asm_tokens.specs.Integers.{IsInteger, signed_integer, whole}
use Rattle.mips_text.specs.Texts.{address_text}

-- ---- decimal

-- a number in decimal is read as itself
pub decimal-number : (n : ℕ) → n < 2 ^ 64 → IsNumber (decimal n) n
decimal-number n fits =
    let d = decimal_is_IsNumeral n fits in
    inl (
      record { some = d.0.0; digits = digits_from 10 (decimal n) d.0.1 },
      sym d.1
          ∙ value_is 10 (decimal n),
      fits,
    )

-- the sign and the magnitude of a whole number
abbrev pub printed : ℤ → Integer
printed (pos n) = signed_integer false n
printed (negsuc n) = signed_integer true (suc n)

-- they are those of that number
pub whole-printed : (z : ℤ) → whole (printed z) ≡ z
whole-printed (pos n) = refl
whole-printed (negsuc n) = omega (arith, ints)

-- far from the ends of 64 bits
abbrev pub IsSmall : ℤ → Type 0
IsSmall (pos n) = n < 2 ^ 32
IsSmall (negsuc n) = n < 2 ^ 32

-- a whole number in decimal is read as itself
pub signed-integer : (z : ℤ) → IsSmall z → IsInteger (signed_decimal z) (printed z)
signed-integer (pos n) small = inl (refl, decimal-number n (omega arith))
signed-integer (negsuc n) small =
    inr (decimal (suc n), refl, refl, decimal-number (suc n) (omega arith))

-- an immediate with its sign is small
pub signed_16-small : (n : ℕ) → n < 2 ^ 16 → IsSmall (signed_16 n)
signed_16-small n fits =
    elim (cases_Bool (ltb n (2 ^ 15))) [
      | inl low ↦ let is : signed_16 n ≡ pos n = rw low refl in subst IsSmall (sym is) (omega arith)
      | inr high ↦
          let large : 2 ^ 15 ≤ n = ltb-false n (2 ^ 15) high in
          let below : pos n -ℤ pos (2 ^ 16) ≡ negsuc (2 ^ 16 - 1 - n) = omega (arith, ints) in
          let is : signed_16 n ≡ negsuc (2 ^ 16 - 1 - n) = rw high below in
          subst IsSmall (sym is) (omega arith)
    ]

-- ---- hexadecimal

-- the digit at a place counts as the place
abbrev counts : ℕ → Bool
counts d = digit_value (slice_index lower_digits d) == d

-- and so do all before a place
abbrev all_count : ℕ → Bool
all_count zero = true
all_count (suc n) = counts n && all_count n

-- which is so at each of them
all_count-at : (n d : ℕ) → all_count n ≡ true → d < n → digit_value (slice_index lower_digits d) ≡ d
all_count-at zero d h below = absurd (omega arith)
all_count-at (suc n) d h below =
    let parts = and_parts (counts n) (all_count n) h in
    elim (cases_lt d n) [
      | inl less ↦ all_count-at n d parts.1 less
      | inr top ↦
          let same : d ≡ n = omega arith in
          rw same (eqb-true (digit_value (slice_index lower_digits n)) n parts.0)
    ]

-- the digits from 0 to f
digit-counts : (d : ℕ) → d < 16 → digit_value (slice_index lower_digits d) ≡ d
digit-counts d below = all_count-at 16 d refl below

-- the two digits of a byte
high_digit : (b : ℕ) → b < 256 → digit_value (slice_index lower_digits (b / 16)) ≡ b / 16
high_digit b byte = digit-counts (b / 16) (omega arith)

low_digit : (b : ℕ) → digit_value (slice_index lower_digits (b % 16)) ≡ b % 16
low_digit b = digit-counts (b % 16) (omega arith)

-- bytes in hexadecimal are digits
encode-digits : (bytes : List ℕ) → AllByRecursion (λ b. b < 256) bytes
    → AllByRecursion (λ d. digit_value d < 16) (encode_lower bytes)
unfolding encode_with
encode-digits [] small = tt
encode-digits (b ∷ bytes) small =
    let high = high_digit b small.0 in
    let low = low_digit b in
    (omega arith, (omega arith, encode-digits bytes small.1))

-- four bytes in hexadecimal
encode-value : (a b c d : ℕ) → a < 256 → b < 256 → c < 256 → d < 256
    → value 16 (encode_lower (a ∷ b ∷ c ∷ d ∷ [])) ≡ a * 2 ^ 24 + b * 2 ^ 16 + c * 2 ^ 8 + d
unfolding encode_with
encode-value a b c d a_byte b_byte c_byte d_byte =
    rw (
      high_digit a a_byte,
      low_digit a,
      high_digit b b_byte,
      low_digit b,
      high_digit c c_byte,
      low_digit c,
      high_digit d d_byte,
      low_digit d,
    ) (omega arith)

-- the bytes of a number of 32 bits, the highest first
abbrev four_bytes : ℕ → List ℕ
four_bytes n = n / 2 ^ 24 ∷ n / 2 ^ 16 % 256 ∷ n / 2 ^ 8 % 256 ∷ n % 256 ∷ []

-- they are bytes
are_bytes : (n : ℕ) → n < 2 ^ 32 → (i : ℕ) → get_or (four_bytes n) i 0 < 256
are_bytes n fits zero = omega arith
are_bytes n fits (suc zero) = omega arith
are_bytes n fits (suc (suc zero)) = omega arith
are_bytes n fits (suc (suc (suc zero))) = omega arith
are_bytes n fits (suc (suc (suc (suc i)))) = omega arith

-- eight digits write them
hex8-is : (n : ℕ) → n < 2 ^ 32 → hex8 n ≡ encode_lower (four_bytes n)
hex8-is n fits = ap encode_lower (be_bytes_4 (four_bytes n) n refl (are_bytes n fits) (omega arith))

-- and those digits are a number behind `0x`
four_bytes-number : (n : ℕ) → n < 2 ^ 32 → IsNumber (codes "0x" ++ encode_lower (four_bytes n)) n
unfolding encode_with
four_bytes-number n fits =
    let a : n / 2 ^ 24 < 256 = omega arith in
    let b : n / 2 ^ 16 % 256 < 256 = omega arith in
    let c : n / 2 ^ 8 % 256 < 256 = omega arith in
    let d : n % 256 < 256 = omega arith in
    let said = encode-value (n / 2 ^ 24) (n / 2 ^ 16 % 256) (n / 2 ^ 8 % 256) (n % 256) a b c d in
    let sum : n ≡ n / 2 ^ 24 * 2 ^ 24 + n / 2 ^ 16 % 256 * 2 ^ 16 + n / 2 ^ 8 % 256 * 2 ^
    8 + n % 256 = omega arith in
    inr (
      encode_lower (four_bytes n),
      refl,
      record { some = omega arith; digits = encode-digits (four_bytes n) (a, (b, (c, (d, tt)))) },
      omega arith,
      sum ∙ sym said,
    )

-- an address is read as itself
pub address-integer : (n : ℕ) → n < 2 ^ 32 → IsInteger (address_text n) (printed (pos n))
address-integer n fits =
    inl (
      refl,
      subst (λ (digits : List ℕ). IsNumber (codes "0x" ++ digits) n) (sym (hex8-is n fits))
          (four_bytes-number n fits),
    )
