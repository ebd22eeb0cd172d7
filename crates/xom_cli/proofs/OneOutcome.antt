-- What words come to is one thing.
use Rattle.std.proofs.Common.{◌≡◌, ℕ, List, Option, Some, None, Result, Ok, Err, sym, ◌∙◌, ap, subst}
use Rattle.xom_base.specs.declared.image.PlainImage.{PlainImage}
use Rattle.mips_asm.specs.declared.fault.AsmFault.{AsmFault}
use Rattle.mips_asm.specs.Sources.{IsFaultOf}
use Rattle.mips_asm.proofs.OneOutcome.{not_both, one_fault, one_image}
use Rattle.cli_base.specs.declared.answer.Answer.{Answer}
use Rattle.cli_base.specs.declared.refusal.Refusal.{Refusal}
use Rattle.cli_programs.specs.Assembly.{AssemblesRead, AssemblesText, image_answer, said_of}
use Rattle.cli_base.specs.Inputs.{Held, file_or_refusal}
use Rattle.cli_programs.specs.Programs.{source_limit}
use Rattle.xom_cli.specs.Laws.{HaveOneOutcome}
use Rattle.xom_cli.specs.Outcome.{IsOutcome, IsPrinted, IsPrintedBy, Printed, printed_text}
use Rattle.xom_cli.specs.Rows.{Asm, Debug, Disasm, Judge, Plain, Row, Run, Seal, Trace, row_of_words}

same-some : (o : Option Refusal) (a b : Refusal) → o ≡ Some a → o ≡ Some b → a ≡ b
same-some o a b p q = cc

-- one thing is said of the faults of a source
said-one : (source text : List ℕ) (a b : AsmFault) (x y : Refusal) → IsFaultOf text a
    → IsFaultOf text b → said_of source a ≡ Some x → said_of source b ≡ Some y → x ≡ y
said-one source text a b x y p q says other =
    same-some (said_of source b) x y (subst (λ (f : AsmFault). said_of source f ≡ Some x)
    (one_fault text a b p q) says) other

-- the text of a source comes to one thing
text-one : (source text target : List ℕ) (x y : Result Answer Refusal)
    → AssemblesText source text target x → AssemblesText source text target y → x ≡ y
text-one source text target (Ok a) (Ok b) p q =
    ap Ok
    (p.2 ∙ ap (λ (image : PlainImage). image_answer image target) (one_image text p.0 q.0 p.1 q.1)
    ∙ sym q.2)
text-one source text target (Ok a) (Err r) p q = absurd (not_both text p.0 q.0 p.1 q.1)
text-one source text target (Err r) (Ok b) p q = absurd (not_both text q.0 p.0 q.1 p.1)
text-one source text target (Err r) (Err s) p q =
    ap Err (said-one source text p.0 q.0 r s p.1 q.1 p.2 q.2)

-- so does what reading it gave
read-one : (source target : List ℕ) (read : Result (List ℕ) Refusal) (x y : Result Answer Refusal)
    → AssemblesRead source target read x → AssemblesRead source target read y → x ≡ y
read-one source target (Ok text) x y p q = text-one source text target x y p q
read-one source target (Err refusal) x y p q = p ∙ sym q

-- so does each row
row-one : (row : Row) (held : Held) (x y : Result Answer Refusal) → IsOutcome row held x
    → IsOutcome row held y → x ≡ y
row-one (Asm source target) held x y p q =
    read-one source target (file_or_refusal held source source_limit) x y p q
row-one (Disasm image) held x y p q = sym p ∙ q
row-one (Plain image steps received) held x y p q = sym p ∙ q
row-one (Seal image key id machine sealed) held x y p q = sym p ∙ q
row-one (Run run) held x y p q = sym p ∙ q
row-one (Trace run journal) held x y p q = sym p ∙ q
row-one (Judge run journal) held x y p q = sym p ∙ q
row-one (Debug run commands) held x y p q = sym p ∙ q

printed-one : (o : Option Row) (held : Held) (p q : Printed) → IsPrintedBy o held p
    → IsPrintedBy o held q → p ≡ q
printed-one None held p q a b = a ∙ sym b
printed-one (Some row) held p q a b =
    a.2 ∙ ap printed_text (row-one row held a.0 b.0 a.1 b.1) ∙ sym b.2

pub one_outcome : HaveOneOutcome
unfolding IsPrinted
one_outcome words held p q a b = printed-one (row_of_words words) held p q a b
