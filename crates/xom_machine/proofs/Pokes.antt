-- The write of the bus that is listed for a number is searched by halves.
use Rattle.std.proofs.Common.{◌≡◌, ◌≢◌, inl, inr, ℕ, zero, suc, ◌+◌, ◌<◌, ◌≤◌, List, [], ◌∷◌, length, map, get_or, slice_get, Some, None, Result, Ok, Err, refl, sym, ◌∙◌, arith}
use Rattle.std.specs.Prelude.{◌==◌}
use Rattle.std.specs.Ordering.{nat_cmp, ordering_index}
use Rattle.std.specs.Result.{MatchResult}
use Rattle.std.specs.List.Sorted.{IsBinarySearchResult, IsNonDecreasingBy, IsSearchInRange, IsStrictlyIncreasing}
use Rattle.std.proofs.lemmas.Bool.{cases_lt, eq-eqb, ne_eqb, cond-true, cond-false}
use Rattle.std.proofs.lemmas.Bool.Decides.{nat_tests}
use Rattle.std.proofs.lemmas.Cmp.{ranked}
use Rattle.std.proofs.lemmas.List.{get_or-map, length-map}
use Rattle.std.proofs.lemmas.List.Sorted.{IsNonDecreasingBy-from_default}
use Rattle.xom_base.specs.declared.schedule.Poke.{Poke}
use Rattle.xom_model.specs.Run.{event_number, poke_at}
use Rattle.xom_machine.proofs.Search.{rises}

no_poke : Poke
no_poke = record { event = 0; address = 0; bytes = [] }

abbrev event_at : List Poke → ℕ → ℕ
event_at pokes i = (get_or pokes i no_poke).event

-- ---- What is found

-- one that no earlier one agrees with is the first
first_is : (pokes : List Poke) (n i : ℕ) → i < length pokes → event_at pokes i ≡ n
    → ((j : ℕ) → j < i → event_at pokes j ≢ n) → slice_get pokes i ≡ poke_at pokes n
first_is [] n i inside is before = absurd (omega (arith, inside))
first_is (poke ∷ pokes) n zero inside is before =
    sym (cond-true (poke.event == n) (Some poke) (poke_at pokes n) (eq-eqb poke.event n is))
first_is (poke ∷ pokes) n (suc i) inside is before =
    first_is pokes n i (omega (arith, inside)) is (λ j below. before (suc j) (omega (arith, below)))
    ∙ sym (cond-false (poke.event == n) (Some poke) (poke_at pokes n)
    (ne_eqb poke.event n (before 0 (omega arith))))

-- what stands at a place
stands : (pokes : List Poke) (i : ℕ) (d : Poke) → i < length pokes
    → Some (get_or pokes i d) ≡ slice_get pokes i
stands [] i d inside = absurd (omega (arith, inside))
stands (poke ∷ pokes) zero d inside = refl
stands (poke ∷ pokes) (suc i) d inside = stands pokes i d (omega (arith, inside))

-- where none agrees none is found
none_is : (pokes : List Poke) (n : ℕ) → ((j : ℕ) → j < length pokes → event_at pokes j ≢ n)
    → poke_at pokes n ≡ None
none_is [] n differs = refl
none_is (poke ∷ pokes) n differs =
    cond-false (poke.event == n) (Some poke) (poke_at pokes n)
    (ne_eqb poke.event n (differs 0 (omega arith)))
    ∙ none_is pokes n (λ j below. differs (suc j) (omega (arith, below)))

-- ---- Numbers that ascend
module _ (pokes : List Poke) (up : IsStrictlyIncreasing (map event_number pokes)) where
  event_map : (i : ℕ) → i < length pokes → get_or (map event_number pokes) i 0 ≡ event_at pokes i
  event_map i inside = get_or-map event_number pokes i no_poke 0 inside

  numbers : length (map event_number pokes) ≡ length pokes
  numbers = length-map pokes event_number

  rise : (i j : ℕ) → i ≤ j → j < length pokes → event_at pokes i ≤ event_at pokes j
  rise i j below inside =
      let more = rises (map event_number pokes) up i j below (omega (arith, numbers)) in
      omega (arith, more, event_map i (omega arith), event_map j inside)

  -- strictly
  climb : (i j : ℕ) → i < j → j < length pokes → event_at pokes i < event_at pokes j
  climb i j below inside =
      let next = up i (omega (arith, numbers)) in
      let far = rises (map event_number pokes) up (i + 1) j (omega arith)
      (omega (arith, numbers)) in
      omega (arith, next, far, event_map i (omega arith), event_map j inside)

  comparisons_rise : (n : ℕ)
      → IsNonDecreasingBy (λ (poke : Poke). ordering_index (nat_cmp poke.event n)) pokes
  comparisons_rise n = IsNonDecreasingBy-from_default
      (λ (poke : Poke). ordering_index (nat_cmp poke.event n)) pokes no_poke
      (λ i j below inside. let more = rise i j below inside in grind (arith, nat_tests, more))

  pub searched_poke : (n : ℕ) (r : Result ℕ ℕ) → IsSearchInRange r (length pokes)
      → IsBinarySearchResult (λ (poke : Poke). nat_cmp poke.event n) pokes r
      → MatchResult r (λ i. (d : Poke) → Some (get_or pokes i d) ≡ poke_at pokes n)
      (λ i. None ≡ poke_at pokes n)
  searched_poke n (Ok i) inside equal =
      let is : event_at pokes i ≡ n = ranked _ n _ (sym (equal no_poke)) in
      λ d. stands pokes i d inside ∙ first_is pokes n i inside is (λ j below same. let less =
      climb j i below inside in omega (arith, less, is, same))
  searched_poke n (Err i) inside parted =
      let sides = parted (comparisons_rise n) in
      sym (none_is pokes n (λ j below same. elim (cases_lt j i) [
        | inl before ↦ let less = ranked _ n _ (sym (sides.0 j no_poke (omega arith) before)) in
            omega (arith, less, same)
        | inr past ↦ let more = ranked _ n _ (sym (sides.1 j no_poke past below)) in
            omega (arith, more, same)
      ]))
