-- DIV and DIVU divide.
use Rattle.std.proofs.Common.{◌≡◌, ◌≢◌, ℕ, suc, zero, ◌-◌, ◌*◌, ◌/◌, ◌%◌, ◌^◌, ◌<◌, ◌≤◌, ◌==◌, nat_lt, ℤ, pos, negsuc, neg_ℤ, refl, sym, ap, subst, ◌∙◌, inl, inr, arith, FitsSigned, zero-le, le_trans, le_refl, div-le_self, div-mul-le_self, div-add-mod', mod-lt}
use Rattle.std.proofs.lemmas.Bool.{cond_both, cond-false, le-ltb, ne_eqb}
use Rattle.std.proofs.lemmas.Nat.{mul-le}
use Rattle.std.proofs.Math.Nat.{mod-le}
use Rattle.std.proofs.lemmas.Int.{ints, quot-rem, rem_below}
use Rattle.std.specs.Prelude.{unsigned_abs, int_div, int_rem}
use Rattle.std.specs.Int.{w32}
use Rattle.mips_instruction.specs.declared.instruction.Ins.TheVariants.{Div, Divu}
use Rattle.xom_base.specs.declared.step.Writes.{Writes}
use Rattle.xom_base.specs.declared.step.Writes.TheVariants as writes
use Rattle.mips_instruction.specs.Numbers.{number_modulo_word, signed_number}
use Rattle.mips_effect.specs.Arithmetic.{divided_unsigned, quotient_and_remainder}
use Rattle.mips_effect.specs.Effects.{act, writes_only}
use Rattle.mips_laws.specs.Acts.{WritesOnly}
use Rattle.mips_laws.specs.Division.{HasSignOf, IsDivision, DivDivides, DivOverflowRow, DivuDivides, ZeroDivides}
use Rattle.mips_laws.proofs.Whole.{signed-fits, reduced-below, signed-reduced, signed-size}

-- a number as large as that of 32 signed bits, of either sign
neg-fits : (n : ℕ) → n ≤ 2 ^ 31 → FitsSigned w32 (neg_ℤ (pos n))
neg-fits zero small = record { sfits = omega arith }
neg-fits (suc n) small = record { sfits = omega arith }

-- a quotient by 2 or more is at most half
half-at_most : (n k : ℕ) → 2 ≤ k → n / k * 2 ≤ n
half-at_most n k two =
    le_trans (mul-le (n / k) 2 (n / k) k (le_refl (n / k)) two) (div-mul-le_self n k)

-- 32 signed bits hold a quotient, but in the overflow row
quotient-fits : (a d : ℤ) → FitsSigned w32 a → (a ≡ negsuc (2 ^ 31 - 1) → d ≡ negsuc 0 → ⊥)
    → FitsSigned w32 (int_div a d)
quotient-fits (pos a) (pos d) fits other =
    record { sfits = omega (arith, fits.sfits, div-le_self a d) }
quotient-fits (pos a) (negsuc d) fits other =
    neg-fits (a / suc d) (omega (arith, fits.sfits, div-le_self a (suc d)))
quotient-fits (negsuc a) (pos d) fits other =
    neg-fits (suc a / d) (omega (arith, fits.sfits, div-le_self (suc a) d))
quotient-fits (negsuc a) (negsuc zero) fits other =
    let not_least : a ≡ 2 ^ 31 - 1 → ⊥ = λ is. other (ap negsuc is) refl in
    record { sfits = omega (arith, fits.sfits, not_least) }
quotient-fits (negsuc a) (negsuc (suc d)) fits other =
    record { sfits = omega (arith, fits.sfits, half-at_most (suc a) (suc (suc d)) (omega arith)) }

-- 32 signed bits hold a remainder
remainder-fits : (a d : ℤ) → FitsSigned w32 a → FitsSigned w32 (int_rem a d)
remainder-fits (pos a) d fits =
    record { sfits = omega (arith, fits.sfits, mod-le a (unsigned_abs d)) }
remainder-fits (negsuc a) d fits =
    neg-fits (suc a % unsigned_abs d) (omega (arith, fits.sfits, mod-le (suc a) (unsigned_abs d)))

-- no natural number is below 0
not-negative : (m n : ℕ) → HasSignOf (pos m) (pos n)
not-negative m n = inr (le-ltb n 0 zero-le ∙ sym (le-ltb m 0 zero-le))

neg-sign : (a n : ℕ) → HasSignOf (negsuc a) (neg_ℤ (pos n))
neg-sign a zero = inl refl
neg-sign a (suc n) = inr refl

-- a remainder is zero, or has the dividend's sign
remainder-sign : (a d : ℤ) → HasSignOf a (int_rem a d)
remainder-sign (pos a) d = not-negative a (a % unsigned_abs d)
remainder-sign (negsuc a) d = neg-sign a (suc a % unsigned_abs d)

-- the quotient and the remainder divide
is-division : (a d : ℤ) → 0 < unsigned_abs d → IsDivision a d (int_div a d) (int_rem a d)
is-division a d some = record {
  whole = quot-rem a d;
  smaller = rem_below a d some;
  sign =
      remainder-sign a d;
}

-- only -2^31 and -1 are the numbers of the overflow row
least-is : (s : ℕ) → s < 2 ^ 32 → signed_number s ≡ negsuc (2 ^ 31 - 1) → s ≡ 2 ^ 31
least-is s below is =
    cond_both (nat_lt s (2 ^ 31)) _ _ (λ z. z ≡ negsuc (2 ^ 31 - 1) → s ≡ 2 ^ 31)
    (λ low here. omega (arith, ints, here))
    (λ high here. omega (arith, ints, here))
    is

minus_one-is : (t : ℕ) → t < 2 ^ 32 → signed_number t ≡ negsuc 0 → t ≡ 2 ^ 32 - 1
minus_one-is t below is =
    cond_both (nat_lt t (2 ^ 31)) _ _ (λ z. z ≡ negsuc 0 → t ≡ 2 ^ 32 - 1)
    (λ low here. omega (arith, ints, here))
    (λ high here. omega (arith, ints, here))
    is

-- what is written where the divisor isn't 0
divided-is : (s t : ℕ) → t ≢ 0
    → quotient_and_remainder s t ≡ writes.Pair (number_modulo_word (int_rem (signed_number s) (signed_number t)))
    (number_modulo_word (int_div (signed_number s) (signed_number t)))
divided-is s t some = cond-false (t == 0) _ _ (ne_eqb t 0 some)

div-writes : (rs rt s t : ℕ) (written : Writes) → quotient_and_remainder s t ≡ written
    → WritesOnly (Div rs rt) s t written
unfolding act
div-writes rs rt s t written is mode d following = ap (λ w. writes_only w following) is

divu-writes : (rs rt s t : ℕ) (written : Writes) → divided_unsigned s t ≡ written
    → WritesOnly (Divu rs rt) s t written
unfolding act
divu-writes rs rt s t written is mode d following = ap (λ w. writes_only w following) is

pub div_divides : DivDivides
div_divides rs rt s t s_below t_below some other =
    let q : ℤ = int_div (signed_number s) (signed_number t) in
    let r : ℤ = int_rem (signed_number s) (signed_number t) in
    let s_fits = signed-fits s s_below in
    let q_is : signed_number (number_modulo_word q) ≡ q = signed-reduced q (quotient-fits (signed_number s) (signed_number t) s_fits
    (λ least minus_one. other (record {
      least = least-is s s_below least;
      minus_one =
          minus_one-is t t_below minus_one;
    }))) in
    let r_is : signed_number (number_modulo_word r) ≡ r =
    signed-reduced r (remainder-fits (signed_number s) (signed_number t) s_fits) in
    let whole : IsDivision (signed_number s) (signed_number t) q r = is-division (signed_number s) (signed_number t)
    (signed-size t t_below some) in
    record {
      hi = number_modulo_word r;
      lo = number_modulo_word q;
      hi_bits = reduced-below r;
      lo_bits = reduced-below q;
      writes = div-writes rs rt s t _ (divided-is s t some);
      division = subst (λ lo. IsDivision (signed_number s) (signed_number t) lo (signed_number (number_modulo_word r))) (sym q_is)
          (subst (IsDivision (signed_number s) (signed_number t) q) (sym r_is) whole);
    }

pub div_overflow_row : DivOverflowRow
div_overflow_row rs rt s t row =
    let is : quotient_and_remainder s t ≡ writes.Pair 0 s = rw (row.least, row.minus_one) refl in
    div-writes rs rt s t _ is

pub divu_divides : DivuDivides
divu_divides rs rt s t s_below t_below some =
    let positive : 0 < t = omega (arith, some) in
    record {
      hi = s % t;
      lo = s / t;
      hi_bits = omega (arith, mod-lt s positive);
      lo_bits = omega (arith, div-le_self s t);
      writes = divu-writes rs rt s t _ (cond-false (t == 0) _ _ (ne_eqb t 0 some));
      division = record {
        whole = ap pos (div-add-mod' s t);
        smaller = mod-lt s positive;
        sign =
            not-negative s (s % t);
      };
    }

pub zero_divides : ZeroDivides
zero_divides rs rt s = (div-writes rs rt s 0 _ refl, divu-writes rs rt s 0 _ refl)
