-- Numbers that ascend are searched by halves.
use Rattle.std.proofs.Common.{◌≡◌, inl, inr, ℕ, zero, suc, ◌+◌, ◌-◌, ◌<◌, ◌≤◌, false, List, length, get_or, Result, Ok, Err, sym, subst, add-zero, arith}
use Rattle.std.specs.Prelude.{◌==◌, is_ok}
use Rattle.std.specs.Ordering.{nat_cmp}
use Rattle.std.specs.List.{list_any}
use Rattle.std.specs.List.Sorted.{IsBinarySearchResult, IsStrictlyIncreasing}
use Rattle.std.proofs.lemmas.Bool.{cases_lt, eq-eqb, ne_eqb}
use Rattle.std.proofs.lemmas.List.Elements.{All-from_get_or}
use Rattle.std.proofs.lemmas.List.Folds.{list_any_at, list_any_none}
use Rattle.std.proofs.lemmas.List.Sorted.{searched}

-- each number is at most those behind it
rises-by : (xs : List ℕ) → IsStrictlyIncreasing xs → (i gap : ℕ) → i + gap < length xs
    → get_or xs i 0 ≤ get_or xs (i + gap) 0
rises-by xs up i zero inside = rw add-zero (omega arith)
rises-by xs up i (suc gap) inside =
    let place : i + suc gap ≡ (i + gap) + 1 = omega arith in
    let here = rises-by xs up i gap (omega arith) in
    let next = up (i + gap) (omega arith) in
    rw place (omega arith)

pub rises : (xs : List ℕ) → IsStrictlyIncreasing xs → (i j : ℕ) → i ≤ j → j < length xs
    → get_or xs i 0 ≤ get_or xs j 0
rises xs up i j below inside =
    let place : i + (j - i) ≡ j = omega arith in
    subst (λ k. get_or xs i 0 ≤ get_or xs k 0) place (rises-by xs up i (j - i) (omega arith))

-- the search finds a number exactly where it is among them
pub found_among : (xs : List ℕ) (n : ℕ) (r : Result ℕ ℕ) → IsStrictlyIncreasing xs
    → IsBinarySearchResult (λ y. nat_cmp y n) xs r → is_ok r ≡ list_any (λ m. m == n) xs
found_among xs n (Ok i) up result =
    let at = searched xs n (Ok i) result (rises xs up) in
    sym (list_any_at (λ m. m == n) xs i 0 at.0 (eq-eqb (get_or xs i 0) n at.1))
found_among xs n (Err i) up result =
    let at = searched xs n (Err i) result (rises xs up) in
    sym (list_any_none (λ m. m == n) xs (All-from_get_or (λ m. (m == n) ≡ false) xs 0
    (λ k inside. elim (cases_lt k i) [
      | inl below ↦ ne_eqb (get_or xs k 0) n (λ same. let less = at.1 k below in omega arith)
      | inr past ↦ ne_eqb (get_or xs k 0) n (λ same. let more = at.2 k past inside in omega arith)
    ])))
