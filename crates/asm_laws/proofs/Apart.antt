-- Each place of an image is written once at most.
use Rattle.std.proofs.Common.{◌≡◌, ℕ, zero, suc, ◌<◌, Bool, true, false, inl, inr, List, [], ◌∷◌, ◌++◌, length, get_or, take, Some, None, sym, ap, subst, ◌∙◌, arith, append_assoc, get_or-take, length-take-le}
use Rattle.std.specs.List.{slice_get}
use Rattle.std.proofs.lemmas.Bool.{cases_order, true≢false}
use Rattle.std.proofs.lemmas.Bool.Decides.{nat_tests}
use Rattle.std.proofs.lemmas.List.{append-nil}
use Rattle.std.proofs.lemmas.List.Folds.{list_any_at}
use Rattle.std.proofs.lemmas.Option.{get_or_from_slice_get, slice_get_within}
use Rattle.asm_source.specs.declared.content.Part.{Part}
use Rattle.asm_syntax.specs.Lines.{source_of}
use Rattle.mips_asm.specs.Places.{Placed}
use Rattle.mips_asm.specs.Layout.{covers, layout}
use Rattle.mips_asm.specs.Passes.{first_fault, meets, overlap_line, overlaps, statement_line}
use Rattle.mips_asm.proofs.FaultLaws.{first_good, rest_good}
use Rattle.mips_asm.proofs.OneOutcome.{same_Ok}
use Rattle.asm_laws.specs.Sizes.{PlacesAreWrittenOnce}

-- where no element is bad, none is bad behind those before it
good_at : {X : Type 0} (line : X → ℕ) (bad : List X → X → Bool) (before xs : List X) (j : ℕ) (d : X)
    → first_fault line bad before xs ≡ None → j < length xs
    → bad (before ++ take j xs) (get_or xs j d) ≡ false
good_at line bad before [] j d none within = absurd (omega (arith, within))
good_at line bad before (x ∷ xs) zero d none within =
    ap (λ front. bad front x) (append-nil before) ∙ first_good line bad before x xs none
good_at line bad before (x ∷ xs) (suc j) d none within =
    ap (λ front. bad front (get_or xs j d)) (sym (append_assoc before (x ∷ []) (take j xs)))
    ∙ good_at line bad (before ++ x ∷ []) xs j d (rest_good line bad before x xs none)
    (omega (arith, within))

-- two statements that write one place meet
covers-meets : (p q : Placed) (k : ℕ) → covers p k ≡ true → covers q k ≡ true → meets q p ≡ true
covers-meets p q k first second = grind (arith, nat_tests)

-- a later statement writes no place of an earlier one
not_later : (placed : List Placed) (i j k : ℕ) (p q : Placed) → overlap_line placed ≡ None
    → slice_get placed i ≡ Some p → slice_get placed j ≡ Some q
    → covers p k ≡ true → covers q k ≡ true → i < j → ⊥
not_later placed i j k p q none first second p_there q_there before =
    let within : j < length placed = slice_get_within placed j q second in
    let p_is : get_or (take j placed) i p ≡ p = get_or-take j placed i p before
    ∙ get_or_from_slice_get placed i p p first in
    let long : length (take j placed) ≡ j = length-take-le j placed (omega (arith, within)) in
    let meet : meets q (get_or (take j placed) i p) ≡ true = ap (meets q) p_is ∙ covers-meets p q k
    p_there q_there in
    let some : overlaps (take j placed) q ≡ true = list_any_at (meets q) (take j placed) i p
    (omega (arith, long)) meet in
    let good : overlaps (take j placed) q ≡ false =
    ap (overlaps (take j placed)) (sym (get_or_from_slice_get placed j q q second))
    ∙ good_at statement_line overlaps [] placed j q none within in
    true≢false (sym some ∙ good)

pub places_once : PlacesAreWrittenOnce
places_once text parts image read is i j k p q first second p_there q_there =
    let none : overlap_line (layout 0 parts) ≡ None =
    subst (λ (ps : List Part). overlap_line (layout 0 ps) ≡ None) (same_Ok (source_of text) is.parts
    parts is.read read) is.placed.no_overlap in
    elim (cases_order i j) [
      | inl same ↦ same
      | inr other ↦ elim other [
        | inl before ↦ absurd (not_later (layout 0 parts) i j k p q none first second p_there
            q_there before)
        | inr behind ↦ absurd (not_later (layout 0 parts) j i k q p none second first q_there
            p_there behind)
      ]
    ]
