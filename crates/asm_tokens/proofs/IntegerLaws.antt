-- The function of whole numbers is their grammar.
use Rattle.std.proofs.Common.{◌≡◌, ℕ, Bool, true, false, eqb, inl, inr, List, [], ◌∷◌, length, Some, refl, ap, ◌∙◌, arith}
use Rattle.std.specs.Prelude.{◌↔◌, option_map}
use Rattle.std.proofs.lemmas.Bool.{cases_Bool, eqb-true, true≢false}
use Rattle.std.proofs.lemmas.Option.{none-some}
use Rattle.text_lines.proofs.CutLaws.{option_map_some}
use Rattle.text_lines.proofs.NumberLaws.{number_of-exact}
use Rattle.text_lines.specs.Numbers.{IsNumber, number_of_word}
use Rattle.asm_tokens.proofs.Heads.{first_same, rest_same}
use Rattle.asm_tokens.specs.declared.integers.Integer.{Integer}
use Rattle.asm_tokens.specs.Integers.{IsInteger, integer_of, signed_integer}

-- no number begins with `-`, and the empty text is none
no_minus : (rest : List ℕ) (n : ℕ) → IsNumber (45 ∷ rest) n → ⊥
no_minus rest n h = elim h [
  | inl d ↦ absurd (omega (arith, d.0.digits.0))
  | inr x ↦ let e = first_same 45 48 rest (120 ∷ x.0) x.1 in absurd (omega (arith, e))
]

no_number : (n : ℕ) → IsNumber [] n → ⊥
no_number n h = elim h [
  | inl d ↦ absurd (omega (arith, d.0.some))
  | inr x ↦ absurd (omega (arith, ap length x.1))
]

-- a whole number of this sign
signed_exact : (negative : Bool) (word : List ℕ) (i : Integer)
    → (option_map (signed_integer negative) (number_of_word word) ≡ Some i) ↔ ((i.negative ≡ negative)
    × IsNumber word i.magnitude)
signed_exact negative word i = (
  λ h.
      let m = option_map_some (signed_integer negative) (number_of_word word) i h in
      let n : m.0 ≡ i.magnitude = cc (m.2) in
      (cc (m.2), (number_of-exact word i.magnitude).0 (m.1 ∙ ap Some n)),
  λ h. let s = (number_of-exact word i.magnitude).1 h.1 in rw (s, ← h.0) refl,
)

pub integer_of-exact : (text : List ℕ) (i : Integer) → (integer_of text ≡ Some i) ↔ IsInteger text i
unfolding integer_of
integer_of-exact [] i = (
  λ h. absurd (none-some i h),
  λ h. elim h [
    | inl n ↦ absurd (no_number i.magnitude n.1)
    | inr x ↦
        absurd (omega (arith, ap length x.1))
  ],
)
integer_of-exact (first ∷ rest) i =
    elim (cases_Bool (eqb first 45)) [
      | inl minus ↦
          let is : first ≡ 45 = eqb-true first 45 minus in
          rw minus (
            λ h. let s = (signed_exact true rest i).0 h in
                inr (rest, ap (λ b. b ∷ rest) is, s.0, s.1),
            λ h. elim h [
              | inl n ↦ absurd (no_minus rest i.magnitude (rw is at n.1))
              | inr x ↦ let same = rest_same first 45 rest x.0 x.1 in (signed_exact true rest i).1
                  (x.2, rw same (x.3))
            ],
          )
      | inr plain ↦
          rw plain (
            λ h. inl ((signed_exact false (first ∷ rest) i).0 h),
            λ h. elim h [
              | inl n ↦ (signed_exact false (first ∷ rest) i).1 n
              | inr x ↦ let is = first_same first 45 rest x.0 x.1 in
                  absurd (true≢false (rw is at plain))
            ],
          )
    ]
