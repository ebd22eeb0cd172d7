-- Two numbers have one quotient and one remainder.
use Rattle.std.proofs.Common.{◌≡◌, ℕ, zero, suc, ◌+◌, ◌*◌, ◌/◌, ◌%◌, ◌<◌, ◌≤◌, ◌⊎◌, ℤ, pos, negsuc, neg_ℤ, ◌+ℤ◌, ◌*ℤ◌, sym, ap, subst, ◌∙◌, inl, inr, arith, mul-pos, zero-lt-suc, zero-mul, suc-mul}
use Rattle.std.proofs.lemmas.Int.{ints, unsigned_abs-mul}
use Rattle.std.proofs.lemmas.Nat.{div-mul-add, mod-mul-add}
use Rattle.std.specs.Prelude.{unsigned_abs}
use Rattle.mips_laws.specs.Division.{HasSignOf, IsDivision, DivisionIsOne}

-- a multiple is 0 or as large as what it is a multiple of
multiple : (k n : ℕ) → (k * n ≡ 0) ⊎ (n ≤ k * n)
multiple zero n = inl (zero-mul n)
multiple (suc k) n = inr (omega (arith, suc-mul k n))

-- a number that has the sign of one that isn't negative isn't negative itself
not_negative : (x y : ℕ) → HasSignOf (pos x) (negsuc y) → ⊥
not_negative x y sign = grind (arith, ints)

not_positive : (x y : ℕ) → HasSignOf (negsuc x) (pos y) → y ≡ 0
not_positive x y sign = grind (arith, ints)

-- the size of a dividend is that of the product and that of the remainder together
sizes : (a p r : ℤ) (m n : ℕ) → p +ℤ r ≡ a → unsigned_abs p ≡ m → (m ≡ 0) ⊎ (n ≤ m)
    → unsigned_abs r < n → HasSignOf a r → m + unsigned_abs r ≡ unsigned_abs a
sizes (pos x) (pos z) (pos y) m n whole product large small sign = omega (arith, ints)
sizes (pos x) (pos z) (negsuc y) m n whole product large small sign = absurd (not_negative x y sign)
sizes (pos x) (negsuc z) (pos y) m n whole product large small sign = grind (arith, ints)
sizes (pos x) (negsuc z) (negsuc y) m n whole product large small sign =
    absurd (not_negative x y sign)
sizes (negsuc x) (pos z) (pos y) m n whole product large small sign = omega (arith, ints)
sizes (negsuc x) (pos z) (negsuc y) m n whole product large small sign = grind (arith, ints)
sizes (negsuc x) (negsuc z) (pos y) m n whole product large small sign =
    omega (arith, ints, not_positive x y sign)
sizes (negsuc x) (negsuc z) (negsuc y) m n whole product large small sign = omega (arith, ints)

-- so quotient and remainder are those of the sizes
sizes-divide : (a d q r : ℤ) → IsDivision a d q r
    → unsigned_abs q * unsigned_abs d + unsigned_abs r ≡ unsigned_abs a
sizes-divide a d q r is =
    sizes a (q *ℤ d) r (unsigned_abs q * unsigned_abs d) (unsigned_abs d) is.whole
    (unsigned_abs-mul q d) (multiple (unsigned_abs q) (unsigned_abs d)) is.smaller is.sign

quotient-size : (a d q r : ℤ) → IsDivision a d q r
    → unsigned_abs q ≡ unsigned_abs a / unsigned_abs d
quotient-size a d q r is =
    sym (div-mul-add (unsigned_abs q) (unsigned_abs d) (unsigned_abs r) is.smaller)
    ∙ ap (λ n. n / unsigned_abs d) (sizes-divide a d q r is)

remainder-size : (a d q r : ℤ) → IsDivision a d q r
    → unsigned_abs r ≡ unsigned_abs a % unsigned_abs d
remainder-size a d q r is =
    sym (mod-mul-add (unsigned_abs q) (unsigned_abs d) (unsigned_abs r) is.smaller)
    ∙ ap (λ n. n % unsigned_abs d) (sizes-divide a d q r is)

-- numbers of one size and one sign are equal
same_sign : (a r s : ℤ) → HasSignOf a r → HasSignOf a s → unsigned_abs r ≡ unsigned_abs s → r ≡ s
same_sign a (pos x) (pos y) one two size = ap pos size
same_sign a (negsuc x) (negsuc y) one two size =
    let same : x ≡ y = omega (arith, size) in ap negsuc same
same_sign (pos w) (pos x) (negsuc y) one two size = absurd (not_negative w y two)
same_sign (negsuc w) (pos x) (negsuc y) one two size =
    let none : x ≡ 0 = not_positive w x one in absurd (omega (arith, size, none))
same_sign (pos w) (negsuc x) (pos y) one two size = absurd (not_negative w x one)
same_sign (negsuc w) (negsuc x) (pos y) one two size =
    let none : y ≡ 0 = not_positive w y two in absurd (omega (arith, size, none))

-- only 0 is its own opposite
opposite : (m : ℕ) → pos m ≡ neg_ℤ (pos m) → 0 < m → ⊥
opposite zero same some = omega arith
opposite (suc m) same some = omega (arith, ints)

-- opposite quotients have different products
apart : (x y : ℕ) (d : ℤ) → x ≡ suc y → 0 < unsigned_abs d → pos x *ℤ d ≡ negsuc y *ℤ d → ⊥
apart x y (pos b) is some same =
    let at : pos (suc y * b) ≡ neg_ℤ (pos (suc y * b)) =
    subst (λ n. pos (n * b) ≡ neg_ℤ (pos (suc y * b))) is same in
    opposite (suc y * b) at (mul-pos (zero-lt-suc y) some)
apart x y (negsuc b) is some same =
    let at : pos (suc y * suc b) ≡ neg_ℤ (pos (suc y * suc b)) =
    sym (subst (λ n. neg_ℤ (pos (n * suc b)) ≡ pos (suc y * suc b)) is same) in
    opposite (suc y * suc b) at (mul-pos (zero-lt-suc y) (zero-lt-suc b))

-- one divisor and one product have one quotient
one_quotient : (q r d : ℤ) → unsigned_abs q ≡ unsigned_abs r → 0 < unsigned_abs d → q *ℤ d ≡ r *ℤ d
    → q ≡ r
one_quotient (pos x) (pos y) d size some same = ap pos size
one_quotient (negsuc x) (negsuc y) d size some same =
    let equal : x ≡ y = omega (arith, size) in ap negsuc equal
one_quotient (pos x) (negsuc y) d size some same = absurd (apart x y d size some same)
one_quotient (negsuc x) (pos y) d size some same = absurd (apart y x d (sym size) some (sym same))

-- equal sums with one summand
same_product : (p q r a : ℤ) → p +ℤ r ≡ a → q +ℤ r ≡ a → p ≡ q
same_product p q r a one two = omega (arith, ints)

pub division_is_one : DivisionIsOne
division_is_one a d q r q' r' one two =
    let r_is : r ≡ r' = same_sign a r r' one.sign two.sign (remainder-size a d q r one
    ∙ sym (remainder-size a d q' r' two)) in
    let products : q *ℤ d ≡ q' *ℤ d = same_product (q *ℤ d) (q' *ℤ d) r a one.whole
    (subst (λ z. q' *ℤ d +ℤ z ≡ a) (sym r_is) two.whole) in
    let some : 0 < unsigned_abs d = omega (arith, one.smaller) in (
      one_quotient q q' d (quotient-size a d q r one ∙ sym (quotient-size a d q' r' two)) some
          products,
      r_is,
    )
