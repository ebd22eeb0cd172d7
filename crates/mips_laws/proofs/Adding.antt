-- Sums and differences are those of whole numbers.
use Rattle.std.proofs.Common.{◌≡◌, ℕ, suc, ◌+◌, ◌-◌, ◌%◌, ◌^◌, ◌<◌, ◌≤◌, ◌&&◌, nat_lt, true, ℤ, pos, negsuc, ◌+ℤ◌, ◌-ℤ◌, ◌≤ℤ◌, ◌<ℤ◌, Some, None, refl, sym, ap, subst, ◌∙◌, ⊎_elim, arith, FitsSigned}
use Rattle.std.proofs.lemmas.Bool.{cond_both, cond-true, and_parts, and_from, cases_lt, ltb-false}
use Rattle.std.proofs.lemmas.Int.{ints}
use Rattle.std.specs.Prelude.{int_le, int_lt}
use Rattle.std.specs.Int.{w32}
use Rattle.mips_instruction.specs.declared.instruction.Ins.{Ins}
use Rattle.mips_instruction.specs.declared.instruction.Ins.TheVariants.{Add, Addi, Sub}
use Rattle.mips_instruction.specs.Numbers.{number_modulo_word, plus_signed, sign_extended, signed_16, signed_number}
use Rattle.mips_effect.specs.declared.seen.Mode.{Mode}
use Rattle.mips_effect.specs.Arithmetic.{in_32, minus}
use Rattle.mips_effect.specs.Effects.{act, sets, sets_or_overflows}
use Rattle.mips_laws.specs.Sums.{IsSigned32, SetsOrOverflows, SumsAreWhole, AdduAddsModulo, SubuSubtractsModulo}
use Rattle.mips_laws.proofs.Whole.{reduced-below, signed-reduced, signed-extended}

-- the least of 32 signed bits
abbrev least_32 : ℤ
least_32 = pos 0 -ℤ pos (2 ^ 31)

-- what 32 signed bits hold, as the test of their ends
held-fits : (z : ℤ) → IsSigned32 z → FitsSigned w32 z
held-fits (pos n) held = let most = held.most in record { sfits = grind (arith, ints) }
held-fits (negsuc n) held = let least = held.least in record { sfits = grind (arith, ints) }

at_least : (z : ℤ) → least_32 ≤ℤ z → int_le least_32 z ≡ true
at_least z least = grind (arith, ints)

at_most : (z : ℤ) → z <ℤ pos (2 ^ 31) → int_lt z (pos (2 ^ 31)) ≡ true
at_most z most = grind (arith, ints)

least-from : (z : ℤ) → int_le least_32 z ≡ true → least_32 ≤ℤ z
least-from z is = grind (arith, ints)

most-from : (z : ℤ) → int_lt z (pos (2 ^ 31)) ≡ true → z <ℤ pos (2 ^ 31)
most-from z is = grind (arith, ints)

in_32-held : (z : ℤ) → IsSigned32 z → in_32 z ≡ Some (number_modulo_word z)
in_32-held z held =
    cond-true (int_le least_32 z && int_lt z (pos (2 ^ 31))) _ _
    (and_from _ _ (at_least z held.least) (at_most z held.most))

in_32-not_held : (z : ℤ) → ¬ IsSigned32 z → in_32 z ≡ None
in_32-not_held z not_held =
    cond_both (int_le least_32 z && int_lt z (pos (2 ^ 31))) (Some (number_modulo_word z)) None (λ r. r ≡ None)
    (λ within.
    let parts = and_parts (int_le least_32 z) (int_lt z (pos (2 ^ 31))) within in
    let held : IsSigned32 z = record { least = least-from z parts.0; most = most-from z parts.1 } in
    absurd (not_held held))
    (λ _. refl)

-- an instruction that is a whole number, or Overflow
sets_or_overflows-whole : (i : Ins) (s t reg : ℕ) (z : ℤ)
    → ((mode : Mode) (d following : ℕ) → act i mode s t d following ≡ sets_or_overflows reg
    (in_32 z) following)
    → SetsOrOverflows i s t reg z
sets_or_overflows-whole i s t reg z is =
    record {
      holds = λ held. record {
        number = number_modulo_word z;
        number_bits = reduced-below z;
        sets = λ mode d following. is mode d following ∙ ap (λ o. sets_or_overflows reg o following)
            (in_32-held z held);
        number_is = signed-reduced z (held-fits z held);
      };
      not_held = λ not_held mode d following. is mode d following
          ∙ ap (λ o. sets_or_overflows reg o following) (in_32-not_held z not_held);
    }

pub sums_whole : SumsAreWhole
unfolding act
sums_whole rd rs rt imm s t s_below t_below imm_below = (
  sets_or_overflows-whole (Add rd rs rt) s t rd (signed_number s +ℤ signed_number t) (λ mode d following. refl),
  sets_or_overflows-whole (Sub rd rs rt) s t rd (signed_number s -ℤ signed_number t) (λ mode d following. refl),
  sets_or_overflows-whole (Addi rt rs imm) s t rt (signed_number s +ℤ signed_16 imm)
      (λ mode d following. ap (λ z. sets_or_overflows rt (in_32 (signed_number s +ℤ z)) following)
      (signed-extended imm imm_below)),
)

-- a negative number is added as its 32 bits are
negative_added : (s n : ℕ) → s < 2 ^ 32 → n < 2 ^ 16
    → number_modulo_word (pos s +ℤ negsuc n) ≡ (s + number_modulo_word (negsuc n)) % 2 ^ 32
negative_added s n s_below n_below =
    ⊎_elim
    (λ (less : s < suc n).
    let is : pos s +ℤ negsuc n ≡ negsuc (n - s) = omega (arith, ints) in
    ap number_modulo_word is ∙ omega arith)
    (λ (more : suc n ≤ s).
    let is : pos s +ℤ negsuc n ≡ pos (s - suc n) = omega (arith, ints) in
    ap number_modulo_word is ∙ omega arith)
    (cases_lt s (suc n))

-- a signed immediate is added as its 32 bits are
plus_extended : (s imm : ℕ) → s < 2 ^ 32 → imm < 2 ^ 16
    → plus_signed s imm ≡ (s + sign_extended imm) % 2 ^ 32
plus_extended s imm s_below imm_below =
    cond_both (nat_lt imm (2 ^ 15)) (pos imm) (pos imm -ℤ pos (2 ^ 16))
    (λ z. number_modulo_word (pos s +ℤ z) ≡ (s + number_modulo_word z) % 2 ^ 32)
    (λ low. omega arith)
    (λ high.
    let large : 2 ^ 15 ≤ imm = ltb-false imm (2 ^ 15) high in
    let is : pos imm -ℤ pos (2 ^ 16) ≡ negsuc (2 ^ 16 - suc imm) = omega (arith, ints) in
    subst (λ z. number_modulo_word (pos s +ℤ z) ≡ (s + number_modulo_word z) % 2 ^ 32) (sym is)
    (negative_added s (2 ^ 16 - suc imm) s_below (omega arith)))

pub addu_adds : AdduAddsModulo
unfolding act
addu_adds rd rs rt imm s t s_below imm_below = (
  λ mode d following. refl,
  λ mode d following. ap (λ v. sets rt v following)
      (plus_extended s imm s_below imm_below),
)

-- what is subtracted and added again
minus-plus : (s t : ℕ) → s < 2 ^ 32 → t < 2 ^ 32 → (minus s t + t) % 2 ^ 32 ≡ s
minus-plus s t s_below t_below =
    ⊎_elim
    (λ (less : s < t).
    let is : pos s -ℤ pos t ≡ negsuc (t - suc s) = omega (arith, ints) in
    let number : minus s t ≡ 2 ^ 32 - (t - s) = ap number_modulo_word is ∙ (omega arith) in
    omega (arith, number))
    (λ (more : t ≤ s).
    let is : pos s -ℤ pos t ≡ pos (s - t) = omega (arith, ints) in
    let number : minus s t ≡ s - t = ap number_modulo_word is ∙ (omega arith) in
    omega (arith, number))
    (cases_lt s t)

pub subu_subtracts : SubuSubtractsModulo
unfolding act
subu_subtracts rd rs rt s t s_below t_below =
    record {
      number = minus s t;
      number_bits = reduced-below (pos s -ℤ pos t);
      sets =
          λ mode d following. refl;
      number_is = minus-plus s t s_below t_below;
    }
