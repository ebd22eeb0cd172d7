-- Shifts are products and quotients by powers of two.
use Rattle.std.proofs.Common.{◌≡◌, ℕ, zero, suc, ◌+◌, ◌*◌, ◌/◌, ◌%◌, ◌^◌, ◌<◌, ◌≤◌, ℤ, pos, negsuc, neg_ℤ, ◌+ℤ◌, ◌*ℤ◌, ◌≤ℤ◌, ◌<ℤ◌, refl, sym, ap, ◌∙◌, subst, arith, add-mul, one-mul, suc-mul, FitsSigned, div-le_self, div-add-mod', mod-lt, pow_pos}
use Rattle.std.proofs.lemmas.Int.{ints}
use Rattle.std.specs.Int.{w32, int_div_euclid}
use Rattle.mips_instruction.specs.declared.instruction.Ins.{Ins}
use Rattle.mips_instruction.specs.declared.instruction.Ins.TheVariants.{Sra, Srav}
use Rattle.mips_instruction.specs.Numbers.{number_modulo_word, signed_number}
use Rattle.mips_effect.specs.declared.seen.Mode.{Mode}
use Rattle.mips_effect.specs.Arithmetic.{shifted_signed}
use Rattle.mips_effect.specs.Effects.{act, sets}
use Rattle.mips_laws.specs.Shifts.{IsQuotientDown, SetsQuotientDown, UnsignedShifts, SignedShifts}
use Rattle.mips_laws.proofs.Whole.{signed-fits, reduced-below, signed-reduced}

pub unsigned_shifts : UnsignedShifts
unfolding act
unsigned_shifts rd rt rs sa s t = (
  λ mode d following. refl,
  λ mode d following. refl,
  λ mode d following. refl,
  λ mode d following. refl,
)

-- 32 signed bits hold the quotient
quotient-fits : (z : ℤ) (d : ℕ) → FitsSigned w32 z → FitsSigned w32 (int_div_euclid z (pos d))
quotient-fits (pos a) d fits = record { sfits = omega (arith, fits.sfits, div-le_self a d) }
quotient-fits (negsuc a) d fits = record { sfits = omega (arith, fits.sfits, div-le_self a d) }

-- products below and above a whole number
pos-at_most : (m n : ℕ) → m ≤ n → pos m ≤ℤ pos n
pos-at_most m n le = omega (arith, ints)

pos-below : (m n : ℕ) → m < n → pos m <ℤ pos n
pos-below m n lt = omega (arith, ints)

neg-at_most : (m n : ℕ) → n < m → neg_ℤ (pos m) ≤ℤ negsuc n
neg-at_most zero n lt = omega arith
neg-at_most (suc m) n lt = omega (arith, ints)

neg-above : (m n : ℕ) → m ≤ n → negsuc n <ℤ neg_ℤ (pos m)
neg-above zero n le = omega (arith, ints)
neg-above (suc m) n le = omega (arith, ints)

product-above : (k d a : ℕ) → k * d ≤ a → negsuc a <ℤ (neg_ℤ (pos k) *ℤ pos d)
product-above zero d a le = omega (arith, ints)
product-above (suc k) d a le = neg-above (suc k * d) a le

next-is : (k : ℕ) → negsuc k +ℤ pos 1 ≡ neg_ℤ (pos k)
next-is zero = refl
next-is (suc k) = omega (arith, ints)

one_more : (k d : ℕ) → (k + 1) * d ≡ k * d + d
one_more k d = add-mul k 1 d ∙ ap (λ n. k * d + n) (one-mul d)

-- a quotient and its remainder, below the divisor
quotient-down : (z : ℤ) (d : ℕ) → 0 < d → IsQuotientDown z d (int_div_euclid z (pos d))
quotient-down (pos a) d some =
    let k : ℕ = a / d in
    let whole : k * d + a % d ≡ a = div-add-mod' a d in
    record {
      at_most = pos-at_most (k * d) a (omega arith);
      next_is_more = pos-below a ((k + 1) * d) (omega (arith, mod-lt a some, one_more k d));
    }
quotient-down (negsuc a) d some =
    let k : ℕ = a / d in
    let whole : k * d + a % d ≡ a = div-add-mod' a d in
    let above : negsuc a <ℤ (neg_ℤ (pos k) *ℤ pos d) = product-above k d a (omega arith) in
    record {
      at_most = neg-at_most (suc k * d) a (omega (arith, mod-lt a some, suc-mul k d));
      next_is_more = subst (λ z. negsuc a <ℤ (z *ℤ pos d)) (sym (next-is k)) above;
    }

-- an instruction that shifts a signed number to the right
sets_quotient_down : (i : Ins) (s t reg by : ℕ) → t < 2 ^ 32
    → ((mode : Mode) (d following : ℕ) → act i mode s t d following ≡ sets reg (shifted_signed t by)
    following)
    → SetsQuotientDown i s t reg (signed_number t) (2 ^ by)
sets_quotient_down i s t reg by below is =
    let q : ℤ = int_div_euclid (signed_number t) (pos (2 ^ by)) in
    let q_is : signed_number (number_modulo_word q) ≡ q =
    signed-reduced q (quotient-fits (signed_number t) (2 ^ by) (signed-fits t below)) in
    record {
      number = number_modulo_word q;
      number_bits = reduced-below q;
      sets = is;
      quotient = subst (IsQuotientDown (signed_number t) (2 ^ by)) (sym q_is)
          (quotient-down (signed_number t) (2 ^ by) (pow_pos by));
    }

pub signed_shifts : SignedShifts
unfolding act
signed_shifts rd rt rs sa s t below = (
  sets_quotient_down (Sra rd rt sa) s t rd sa below (λ mode d following. refl),
  sets_quotient_down (Srav rd rt rs) s t rd (s % 32) below (λ mode d following. refl),
)
