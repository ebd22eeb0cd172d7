-- Inverses in the field, by computation over all bytes.
use Rattle.std.proofs.Common.{◌≡◌, ℕ, zero, suc, ◌<◌, ◌+◌, ◌-◌, ◌==◌, get_or, sym, refl, ◌∙◌, ap, arith, inl, inr}
use Rattle.std.proofs.lemmas.Bool.{cases_eq}
use Rattle.std.proofs.lemmas.Bool.Decides.{nat_tests}
use Rattle.std.specs.Prelude.{map, if◌then◌else◌}
use Rattle.std.specs.List.{range_with_len}
use Rattle.std.proofs.lemmas.List.FromFn.{get_or-map-range_with_len}
use Rattle.aes_block.specs.Field.{polynomial_product, remainder, times, inverse_below, inverse}
use Rattle.aes_laws.specs.FieldLaws.{InversesAreAlone, InversesAreInverse}

-- the products of the bytes from 1 on with their inverses are as many ones
products : map (λ b. times b (inverse b)) (range_with_len 1 255) ≡ map (λ b. 1)
    (range_with_len 1 255)
unfolding polynomial_product remainder times inverse_below inverse
products = refl

pub inverses_are_inverse : InversesAreInverse
inverses_are_inverse b positive byte =
    sym (get_or-map-range_with_len (λ b. times b (inverse b)) 1 255 (b - 1) b 0 (omega arith)
    (omega arith))
    ∙ ap (λ ones. get_or ones (b - 1) 0) products
    ∙ get_or-map-range_with_len (λ b. 1) 1 255 (b - 1) b 0 (omega arith) (omega arith)

-- one for a byte that isn't i where its product p with another byte is {01}, else none
strays : ℕ → ℕ → ℕ → ℕ
strays p c i = if p == 1 then (if c == i then 0 else 1) else 0

-- how many of the bytes below n, but for i, have the product {01} with b
others : ℕ → ℕ → ℕ → ℕ
others zero b i = 0
others (suc c) b i = strays (times b c) c i + others c b i

no_other : (p c i : ℕ) → p ≡ 1 → strays p c i ≡ 0 → c ≡ i
unfolding strays
no_other p c i one none = grind (arith, nat_tests)

alone_below : (n b i c : ℕ) → others n b i ≡ 0 → c < n → times b c ≡ 1 → c ≡ i
unfolding others
alone_below zero b i c none within one = absurd (omega arith)
alone_below (suc k) b i c none within one =
    elim (cases_eq c k) [
      | inl same ↦ same ∙ no_other (times b k) k i (ap (times b) (sym same) ∙ one) (omega arith)
      | inr differs ↦ alone_below k b i c (omega arith) (omega arith) one
    ]

-- no byte has a second one
counts : map (λ b. others 256 b (inverse b)) (range_with_len 0 256) ≡ map (λ b. 0)
    (range_with_len 0 256)
unfolding polynomial_product remainder times inverse_below inverse others strays
counts = refl

pub inverses_are_alone : InversesAreAlone
inverses_are_alone b c byte other one =
    let none : others 256 b (inverse b) ≡ 0 =
    sym (get_or-map-range_with_len (λ b. others 256 b (inverse b)) 0 256 b b 0 byte (omega arith))
    ∙ ap (λ zeros. get_or zeros b 0) counts
    ∙ get_or-map-range_with_len (λ b. 0) 0 256 b b 0 byte (omega arith) in
    alone_below 256 b (inverse b) c none other one
