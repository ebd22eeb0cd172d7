-- Statements that write one place.
use Rattle.std.proofs.Common.{◌≡◌, ℕ, ◌+◌, ◌<◌, ◌≤◌, ◌||◌, max, Bool, true, false, List, [], ◌∷◌, length, get_or, take, refl, sym, ap, ◌∙◌, inl, inr, arith}
use Rattle.std.specs.List.{list_any}
use Rattle.std.proofs.lemmas.Bool.{cases_Bool, or_left, or_parts, or_right, true≢false, false_from_ne_true}
use Rattle.std.proofs.lemmas.Bool.Decides.{nat_tests}
use Rattle.std.proofs.lemmas.List.Folds.{list_any_more}
use Rattle.mips_asm.specs.Places.{Placed}
use Rattle.mips_asm.specs.Layout.{covers}
use Rattle.mips_asm.specs.Passes.{meets, overlaps}

-- both write one place
meets_at : (p e : Placed) (k : ℕ) → p.place ≤ k → k < p.place + p.size → covers e k ≡ true
    → meets p e ≡ true
meets_at p e k from before here = grind (arith, nat_tests)

-- where two statements meet, the later of their places is written by both
meets_some : (p e : Placed) → meets p e ≡ true
    → (p.place ≤ max p.place e.place) × (max p.place e.place < p.place + p.size)
    × (covers e (max p.place e.place) ≡ true)
meets_some p e meet = grind (arith, nat_tests)

pub overlaps_true : (before : List Placed) (p : Placed) (k : ℕ) → p.place ≤ k → k < p.place + p.size
    → list_any (λ (e : Placed). covers e k) before ≡ true → overlaps before p ≡ true
overlaps_true [] p k from below here = here
overlaps_true (e ∷ before) p k from below here =
    elim (cases_Bool (covers e k)) [
      | inl here_too ↦ rw (meets_at p e k from below here_too) refl
      | inr elsewhere ↦ or_right (meets p e) (overlaps before p)
          (overlaps_true before p k from below (rw elsewhere at here))
    ]

pub overlaps_false : (before : List Placed) (p : Placed)
    → ((k : ℕ) → p.place ≤ k → k < p.place + p.size → list_any (λ (e : Placed). covers e k)
    before ≡ false)
    → overlaps before p ≡ false
overlaps_false [] p none = refl
overlaps_false (e ∷ before) p none =
    let apart : meets p e ≡ false = false_from_ne_true (meets p e) (λ meet.
    let some = meets_some p e meet in
    true≢false (sym (or_left (covers e (max p.place e.place)) _ some.2) ∙ none (max p.place e.place)
    some.0 some.1)) in
    rw apart (overlaps_false before p
    (λ k from below. (or_parts (covers e k) _ (none k from below)).1))

pub overlaps_empty : (before : List Placed) (p : Placed) → p.size ≡ 0 → overlaps before p ≡ false
overlaps_empty [] p empty = refl
overlaps_empty (e ∷ before) p empty =
    let apart : meets p e ≡ false = grind (arith, nat_tests) in
    rw apart (overlaps_empty before p empty)

or_swap : (a b : Bool) → (a || b) ≡ (b || a)
or_swap true true = refl
or_swap true false = refl
or_swap false true = refl
or_swap false false = refl

-- the places that are written, with one more statement
pub marked_more : (placed : List Placed) (i : ℕ) (d : Placed) (k : ℕ) (old new : Bool)
    → i < length placed
    → new ≡ (covers (get_or placed i d) k || old)
    → old ≡ list_any (λ (e : Placed). covers e k) (take i placed)
    → new ≡ list_any (λ (e : Placed). covers e k) (take (i + 1) placed)
marked_more placed i d k old new within set known =
    set
    ∙ or_swap (covers (get_or placed i d) k) old
    ∙ ap (λ (b : Bool). b || covers (get_or placed i d) k) known
    ∙ sym (list_any_more (λ (e : Placed). covers e k) placed i d within)

-- a statement that writes nothing
pub marked_same : (placed : List Placed) (i : ℕ) (d : Placed) (k : ℕ) (old : Bool)
    → i < length placed → (get_or placed i d).size ≡ 0
    → old ≡ list_any (λ (e : Placed). covers e k) (take i placed)
    → old ≡ list_any (λ (e : Placed). covers e k) (take (i + 1) placed)
marked_same placed i d k old within empty known =
    let none : covers (get_or placed i d) k ≡ false = grind (arith, nat_tests) in
    marked_more placed i d k old old within (rw none refl) known
