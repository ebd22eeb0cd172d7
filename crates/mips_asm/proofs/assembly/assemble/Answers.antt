-- What the answer says, both ways.
use Rattle.std.proofs.Common.{inl, inr, List, ℕ, Result, Ok, Err, ap}
use Rattle.std.specs.Prelude.{IfErr, IfOk, MatchResult}
use Rattle.xom_base.specs.Memory.{OrOut}
use Rattle.xom_base.specs.declared.image.PlainImage.{PlainImage}
use Rattle.mips_asm.specs.declared.fault.AsmFault.{AsmFault}
use Rattle.mips_asm.specs.declared.fault.AsmFault.TheVariants.{NoMemory}
use Rattle.mips_asm.specs.Sources.{IsFaultOf, IsImageOf, OrNoMemory}
use Rattle.mips_asm.proofs.OneOutcome.{not_both, one_fault, one_image}
use Rattle.mips_asm.proofs.assembly.assemble.Goals as goal

-- what has an image is answered by it, unless memory runs out
only_image : (text : List ℕ) (r : Result PlainImage AsmFault) (image : PlainImage)
    → MatchResult r (IsImageOf text) (OrNoMemory (IsFaultOf text)) → IsImageOf text image
    → OrOut NoMemory (Ok image) r
only_image text (Ok x) image h is =
    inl (ap (λ (i : PlainImage). Ok i) (one_image text x image h is))
only_image text (Err fault) image (inl none) is = inr (ap (λ (f : AsmFault). Err f) none)
only_image text (Err fault) image (inr wrong) is = absurd (not_both text image fault is wrong)

-- what has a fault is answered by it, unless memory runs out
only_fault : (text : List ℕ) (r : Result PlainImage AsmFault) (fault : AsmFault)
    → MatchResult r (IsImageOf text) (OrNoMemory (IsFaultOf text)) → IsFaultOf text fault
    → OrOut NoMemory (Err fault) r
only_fault text (Ok x) fault h is = absurd (not_both text x fault h is)
only_fault text (Err other) fault (inl none) is = inr (ap (λ (f : AsmFault). Err f) none)
only_fault text (Err other) fault (inr wrong) is =
    inl (ap (λ (f : AsmFault). Err f) (one_fault text other fault wrong is))

-- of both halves of an answer, one
ok_of : {A E : Type 0} (r : Result A E) (P : A → Type 0) (Q : E → Type 0) → MatchResult r P Q
    → IfOk r P
ok_of (Ok x) P Q h = h
ok_of (Err e) P Q h = tt

err_of : {A E : Type 0} (r : Result A E) (P : A → Type 0) (Q : E → Type 0) → MatchResult r P Q
    → IfErr r Q
err_of (Ok x) P Q h = tt
err_of (Err e) P Q h = h

pub returns-clause-found : goal.returns-clause-found
returns-clause-found c =
    ok_of c.assembled.result (IsImageOf c.args.text.now) (OrNoMemory (IsFaultOf c.args.text.now))
    c.assembled.ensures

pub returns-clause-only : goal.returns-clause-only
returns-clause-only c =
    λ image is. only_image c.args.text.now c.assembled.result image c.assembled.ensures is

pub returns-clause-fault : goal.returns-clause-fault
returns-clause-fault c =
    err_of c.assembled.result (IsImageOf c.args.text.now) (OrNoMemory (IsFaultOf c.args.text.now))
    c.assembled.ensures

pub returns-clause-only_fault : goal.returns-clause-only_fault
returns-clause-only_fault c =
    λ fault is. only_fault c.args.text.now c.assembled.result fault c.assembled.ensures is
