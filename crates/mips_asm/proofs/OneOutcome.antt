-- A source has one outcome.
use Rattle.std.proofs.Common.{◌≡◌, ℕ, ◌⊎◌, inl, inr, List, Result, Ok, Err, refl, sym, ap, subst, ◌∙◌}
use Rattle.xom_base.specs.declared.image.PlainImage.{PlainImage}
use Rattle.asm_source.specs.declared.content.Part.{Part}
use Rattle.asm_syntax.specs.Lines.{source_of}
use Rattle.mips_asm.specs.declared.fault.AsmFault.{AsmFault}
use Rattle.mips_asm.specs.declared.fault.AsmFault.TheVariants.{Syntax, Duplicate, TooLong, Overlap, UnknownName, Range, NoMemory}
use Rattle.mips_asm.specs.Layout.{layout}
use Rattle.mips_asm.specs.Sources.{IsFaultOf, IsImageOf, IsPartsFault, IsPlacedImage}
use Rattle.mips_asm.specs.Laws.{NotBoth, OneFault, OneImage}
use Rattle.mips_asm.proofs.NotBothLaws.{not_parts_fault}
use Rattle.mips_asm.proofs.SameFaults.{IsPartsFault-same}
use Rattle.mips_asm.proofs.SameImages.{IsPlacedImage-same}

-- what was read is one alone
pub same_Ok : {A E : Type 0} (r : Result A E) (a b : A) → r ≡ Ok a → r ≡ Ok b → a ≡ b
same_Ok r a b p q = cc

same_Err : {A E : Type 0} (r : Result A E) (a b : E) → r ≡ Err a → r ≡ Err b → a ≡ b
same_Err r a b p q = cc

-- what was read was not refused
not_both_read : {A E : Type 0} (r : Result A E) (a : A) (e : E) → r ≡ Ok a → r ≡ Err e → ⊥
not_both_read r a e p q = cc

-- a source has one image
pub one_image : OneImage
one_image text a b p q =
    let same : p.parts ≡ q.parts = same_Ok (source_of text) p.parts q.parts p.read q.read in
    IsPlacedImage-same (layout 0 q.parts) a b
    (subst (λ (parts : List Part). IsPlacedImage (layout 0 parts) a) same p.placed) q.placed

-- ---- the outcome as it is read

-- a line is off the grammar, or what was read has the fault
abbrev ReadFault : List ℕ → AsmFault → Type 0
ReadFault text a =
    ((n : ℕ) × (source_of text ≡ Err n) × (a ≡ Syntax n))
    ⊎ ((parts : List Part) × (source_of text ≡ Ok parts) × IsPartsFault parts a)

-- a fault as it is read
read_fault : (text : List ℕ) (a : AsmFault) → IsFaultOf text a → ReadFault text a
read_fault text (Syntax n) is = inl (n, is, refl)
read_fault text (Duplicate n) is = inr is
read_fault text (TooLong n) is = inr is
read_fault text (Overlap n) is = inr is
read_fault text (UnknownName n) is = inr is
read_fault text (Range n) is = inr is
read_fault text NoMemory is = absurd is

-- two faults of one reading are the same
ReadFault-same : (text : List ℕ) (a b : AsmFault) → ReadFault text a → ReadFault text b → a ≡ b
ReadFault-same text a b (inl p) (inl q) =
    p.2 ∙ ap Syntax (same_Err (source_of text) p.0 q.0 p.1 q.1) ∙ sym q.2
ReadFault-same text a b (inl p) (inr q) = absurd (not_both_read (source_of text) q.0 p.0 q.1 p.1)
ReadFault-same text a b (inr p) (inl q) = absurd (not_both_read (source_of text) p.0 q.0 p.1 q.1)
ReadFault-same text a b (inr p) (inr q) =
    IsPartsFault-same q.0 a b (subst (λ (parts : List Part). IsPartsFault parts a)
    (same_Ok (source_of text) p.0 q.0 p.1 q.1) p.2) q.2

-- a source has one fault
pub one_fault : OneFault
one_fault text a b p q = ReadFault-same text a b (read_fault text a p) (read_fault text b q)

-- what has an image was read, and has no fault as it was read
not_read_fault : (text : List ℕ) (image : PlainImage) (fault : AsmFault) → IsImageOf text image
    → ReadFault text fault → ⊥
not_read_fault text image fault is (inl wrong) =
    not_both_read (source_of text) is.parts wrong.0 is.read wrong.1
not_read_fault text image fault is (inr wrong) =
    not_parts_fault is.parts image fault is.no_duplicate is.not_too_long is.placed
    (subst (λ (parts : List Part). IsPartsFault parts fault)
    (same_Ok (source_of text) wrong.0 is.parts wrong.1 is.read) wrong.2)

-- a source with an image has no fault
pub not_both : NotBoth
not_both text image fault is wrong =
    not_read_fault text image fault is (read_fault text fault wrong)
