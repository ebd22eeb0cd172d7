-- Faults that are looked for kind by kind: the first of them is one alone.
use Rattle.std.proofs.Common.{◌≡◌, ℕ, ◌⊎◌, inl, inr, List, [], ◌∷◌, ◌++◌, Option, Some, None, refl, sym, ap, subst, ◌∙◌}
use Rattle.std.specs.List.{All}
use Rattle.std.proofs.lemmas.List.Elements.{All-head, All-tail}
use Rattle.std.proofs.lemmas.Option.{none-some, same_Some}
use Rattle.asm_source.specs.declared.content.Part.{Part}
use Rattle.mips_asm.specs.declared.fault.AsmFault.{AsmFault}
use Rattle.mips_asm.specs.declared.fault.AsmFault.TheVariants.{Syntax, Duplicate, TooLong, Overlap, UnknownName, Range, NoMemory}
use Rattle.mips_asm.specs.Places.{Placed}
use Rattle.mips_asm.specs.Layout.{layout}
use Rattle.mips_asm.specs.Passes.{duplicate_line, overlap_line, statement_line, too_long_line, unknown_line}
use Rattle.mips_asm.specs.Sources.{IsFirst, IsOutOfRange, IsPartsFault, IsPlacedFault, bad_entry_of, labels_of}

-- ---- the first bad element

-- lists with equal heads and equal tails
same_head : {X : Type 0} (x y : X) (xs ys : List X) → ◌≡◌ {A = List X} (x ∷ xs) (y ∷ ys) → x ≡ y
same_head x y xs ys h = cc

same_tail : {X : Type 0} (x y : X) (xs ys : List X) → ◌≡◌ {A = List X} (x ∷ xs) (y ∷ ys) → xs ≡ ys
same_tail x y xs ys h = cc

module _ {X : Type 0} (Bad : X → Type 0) where
  -- two bad elements of a list with none before them are the same
  first-same : (before : List X) (x : X) (after : List X) (before' : List X) (x' : X)
      (after' : List X)
      → before ++ (x ∷ after) ≡ before' ++ (x' ∷ after')
      → All (λ y. ¬ Bad y) before → All (λ y. ¬ Bad y) before' → Bad x → Bad x' → x ≡ x'
  first-same [] x after [] x' after' whole good good' bad bad' = same_head x x' after after' whole
  first-same [] x after (z ∷ zs) x' after' whole good good' bad bad' =
      absurd (All-head (λ y. ¬ Bad y) z zs good'
      (subst Bad (same_head x z after (zs ++ (x' ∷ after')) whole) bad))
  first-same (z ∷ zs) x after [] x' after' whole good good' bad bad' =
      absurd (All-head (λ y. ¬ Bad y) z zs good
      (subst Bad (sym (same_head z x' (zs ++ (x ∷ after)) after' whole)) bad'))
  first-same (z ∷ zs) x after (z' ∷ zs') x' after' whole good good' bad bad' =
      first-same zs x after zs' x' after' (same_tail z z' (zs ++ (x ∷ after)) (zs' ++ (x' ∷ after'))
      whole)
      (All-tail (λ y. ¬ Bad y) z zs good) (All-tail (λ y. ¬ Bad y) z' zs' good') bad bad'

-- the line of the first bad element is one alone
IsFirst-same : {X : Type 0} (line : X → ℕ) (Bad : X → Type 0) (xs : List X) (n m : ℕ)
    → IsFirst line Bad xs n → IsFirst line Bad xs m → n ≡ m
IsFirst-same line Bad xs n m p q =
    p.number ∙ ap line (first-same Bad p.before p.first p.after q.before q.first q.after
    (sym p.whole ∙ q.whole) p.good q.good p.bad q.bad) ∙ sym q.number

-- ---- one kind of fault after another

-- a fault of this kind, where its line was found, or one of a later kind
abbrev Stage : (ℕ → AsmFault) → Option ℕ → (AsmFault → Type 0) → AsmFault → Type 0
Stage kind found Later a = ((n : ℕ) × (found ≡ Some n) × (a ≡ kind n)) ⊎ ((found ≡ None) × Later a)

-- two faults that are looked for in stages are the same where those of later stages are
Stage-same : (kind : ℕ → AsmFault) (found : Option ℕ) (Later : AsmFault → Type 0) (a b : AsmFault)
    → (Later a → Later b → a ≡ b)
    → Stage kind found Later a → Stage kind found Later b → a ≡ b
Stage-same kind found Later a b later (inl p) (inl q) =
    p.2 ∙ ap kind (same_Some p.0 q.0 (sym p.1 ∙ q.1)) ∙ sym q.2
Stage-same kind found Later a b later (inl p) (inr q) = absurd (none-some p.0 (sym q.0 ∙ p.1))
Stage-same kind found Later a b later (inr p) (inl q) = absurd (none-some q.0 (sym p.0 ∙ q.1))
Stage-same kind found Later a b later (inr p) (inr q) = later p.1 q.1

-- ---- faults at places

-- a value out of its range
abbrev RangeFault : List Placed → AsmFault → Type 0
RangeFault placed a =
    (n : ℕ) × (a ≡ Range n)
    × IsFirst statement_line (IsOutOfRange (labels_of placed) (bad_entry_of placed)) placed n

RangeFault-same : (placed : List Placed) (a b : AsmFault) → RangeFault placed a
    → RangeFault placed b → a ≡ b
RangeFault-same placed a b p q =
    p.1 ∙ ap Range (IsFirst-same statement_line (IsOutOfRange (labels_of placed) (bad_entry_of placed))
    placed p.0 q.0 p.2 q.2) ∙ sym q.1

-- a name of no label, or a later fault
abbrev UnknownFault : List Placed → AsmFault → Type 0
UnknownFault placed =
    Stage (λ n. UnknownName n) (unknown_line (labels_of placed) placed) (RangeFault placed)

-- a place that is written twice, or a later fault
abbrev OverlapFault : List Placed → AsmFault → Type 0
OverlapFault placed = Stage (λ n. Overlap n) (overlap_line placed) (UnknownFault placed)

-- the faults at places, in their order
placed_stages : (placed : List Placed) (a : AsmFault) → IsPlacedFault placed a
    → OverlapFault placed a
placed_stages placed (Syntax n) is = absurd is
placed_stages placed (Duplicate n) is = absurd is
placed_stages placed (TooLong n) is = absurd is
placed_stages placed (Overlap n) is = inl (n, is, refl)
placed_stages placed (UnknownName n) is = inr (is.0, inl (n, is.1, refl))
placed_stages placed (Range n) is = inr (is.0, inr (is.1, (n, refl, is.2)))
placed_stages placed NoMemory is = absurd is

-- two faults at the same places are the same
IsPlacedFault-same : (placed : List Placed) (a b : AsmFault) → IsPlacedFault placed a
    → IsPlacedFault placed b → a ≡ b
IsPlacedFault-same placed a b p q =
    Stage-same (λ n. Overlap n) (overlap_line placed) (UnknownFault placed) a b
    (Stage-same (λ n. UnknownName n) (unknown_line (labels_of placed) placed) (RangeFault placed) a
    b
    (RangeFault-same placed a b))
    (placed_stages placed a p)
    (placed_stages placed b q)

-- ---- faults of labels and statements

-- a byte past the limit, or a later fault
abbrev TooLongFault : List Part → AsmFault → Type 0
TooLongFault parts =
    Stage (λ n. TooLong n) (too_long_line (layout 0 parts)) (λ a. IsPlacedFault (layout 0 parts) a)

-- a label that was named before, or a later fault
abbrev DuplicateFault : List Part → AsmFault → Type 0
DuplicateFault parts = Stage (λ n. Duplicate n) (duplicate_line parts) (TooLongFault parts)

-- the faults of labels and statements, in their order
parts_stages : (parts : List Part) (a : AsmFault) → IsPartsFault parts a → DuplicateFault parts a
parts_stages parts (Syntax n) is = absurd is
parts_stages parts (Duplicate n) is = inl (n, is, refl)
parts_stages parts (TooLong n) is = inr (is.0, inl (n, is.1, refl))
parts_stages parts (Overlap n) is = inr (is.0, inr (is.1, is.2))
parts_stages parts (UnknownName n) is = inr (is.0, inr (is.1, is.2))
parts_stages parts (Range n) is = inr (is.0, inr (is.1, is.2))
parts_stages parts NoMemory is = absurd is.2

-- two faults of the same labels and statements are the same
pub IsPartsFault-same : (parts : List Part) (a b : AsmFault) → IsPartsFault parts a
    → IsPartsFault parts b → a ≡ b
IsPartsFault-same parts a b p q =
    Stage-same (λ n. Duplicate n) (duplicate_line parts) (TooLongFault parts) a b
    (Stage-same (λ n. TooLong n) (too_long_line (layout 0 parts))
    (λ f. IsPlacedFault (layout 0 parts) f) a b
    (IsPlacedFault-same (layout 0 parts) a b))
    (parts_stages parts a p)
    (parts_stages parts b q)
