-- Where there is an image there is no fault.
use Rattle.std.proofs.Common.{◌≡◌, ℕ, inl, inr, List, [], ◌∷◌, ◌++◌, Option, Some, None, sym, subst, ◌∙◌}
use Rattle.std.proofs.lemmas.Option.{none-some}
use Rattle.xom_base.specs.declared.image.PlainImage.{PlainImage}
use Rattle.asm_source.specs.declared.content.Part.{Part}
use Rattle.mips_asm.specs.declared.fault.AsmFault.{AsmFault}
use Rattle.mips_asm.specs.declared.fault.AsmFault.TheVariants.{Syntax, Duplicate, TooLong, Overlap, UnknownName, Range, NoMemory}
use Rattle.mips_asm.specs.Places.{Placed}
use Rattle.mips_asm.specs.Layout.{layout}
use Rattle.mips_asm.specs.Passes.{Labels, duplicate_line, statement_line, too_long_line}
use Rattle.mips_asm.specs.Sources.{GivesNothing, IsFirst, IsOutOfRange, IsPartsFault, IsPlacedFault, IsPlacedImage, StatementsWrite, bad_entry, bad_entry_of, entry_by, labels_of, last_entry}
use Rattle.mips_asm.specs.Images.{PlacedBytes}

-- a fault that was both found and not found
both : (found : Option ℕ) (n : ℕ) → found ≡ None → found ≡ Some n → ⊥
both found n none some = none-some n (sym none ∙ some)

-- each of the statements writes bytes
Writes-some : (labels : Labels) (before : List Placed) (x : Placed) (after : List Placed)
    (chunks : List PlacedBytes)
    → StatementsWrite labels (before ++ (x ∷ after)) chunks → ¬ GivesNothing labels x
Writes-some labels [] x after chunks writes nothing = nothing writes.0 writes.2
Writes-some labels (z ∷ before) x after chunks writes nothing =
    Writes-some labels before x after writes.1 writes.4 nothing

-- where the last `.entry` says an entry, it is not bad
entry-not_bad : (labels : Labels) (last : Option Placed) (entry line : ℕ)
    → entry_by labels last ≡ Some entry → bad_entry labels last ≡ Some line → ⊥
entry-not_bad labels None entry line good bad = none-some line bad
entry-not_bad labels (Some last) entry line good bad = none-some line (rw good at bad)

-- where there is an image, no value is out of its range
image-in_range : (placed : List Placed) (image : PlainImage) (n : ℕ) → IsPlacedImage placed image
    → IsFirst statement_line (IsOutOfRange (labels_of placed) (bad_entry_of placed)) placed n → ⊥
image-in_range placed image n is first = elim first.bad [
  | inl nothing ↦ Writes-some (labels_of placed) first.before first.first first.after is.chunks
      (subst (λ (xs : List Placed). StatementsWrite (labels_of placed) xs is.chunks) first.whole is.writes)
      nothing
  | inr bad ↦ entry-not_bad (labels_of placed) (last_entry placed) image.entry (statement_line first.first)
      is.entry bad
]

-- where places have an image, they have no fault
not_placed_fault : (placed : List Placed) (image : PlainImage) (fault : AsmFault)
    → IsPlacedImage placed image → IsPlacedFault placed fault → ⊥
not_placed_fault placed image (Syntax n) is wrong = wrong
not_placed_fault placed image (Duplicate n) is wrong = wrong
not_placed_fault placed image (TooLong n) is wrong = wrong
not_placed_fault placed image (Overlap n) is wrong = both _ n is.no_overlap wrong
not_placed_fault placed image (UnknownName n) is wrong = both _ n is.no_unknown wrong.1
not_placed_fault placed image (Range n) is wrong = image-in_range placed image n is wrong.2
not_placed_fault placed image NoMemory is wrong = wrong

-- the same of labels and statements
pub not_parts_fault : (parts : List Part) (image : PlainImage) (fault : AsmFault)
    → duplicate_line parts ≡ None → too_long_line (layout 0 parts) ≡ None
    → IsPlacedImage (layout 0 parts) image → IsPartsFault parts fault → ⊥
not_parts_fault parts image (Syntax n) unique short is wrong = wrong
not_parts_fault parts image (Duplicate n) unique short is wrong = both _ n unique wrong
not_parts_fault parts image (TooLong n) unique short is wrong = both _ n short wrong.1
not_parts_fault parts image (Overlap n) unique short is wrong =
    not_placed_fault (layout 0 parts) image (Overlap n) is wrong.2
not_parts_fault parts image (UnknownName n) unique short is wrong =
    not_placed_fault (layout 0 parts) image (UnknownName n) is wrong.2
not_parts_fault parts image (Range n) unique short is wrong =
    not_placed_fault (layout 0 parts) image (Range n) is wrong.2
not_parts_fault parts image NoMemory unique short is wrong = wrong.2
