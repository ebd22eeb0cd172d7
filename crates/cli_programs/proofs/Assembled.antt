-- What is answered of the text of a source is what its name comes to.
use Rattle.std.proofs.Common.{◌≡◌, ℕ, inl, inr, List, Some, Result, Ok, Err, sym, subst, arith}
use Rattle.xom_io.specs.Answers.{FilesTold}
use Rattle.mips_asm.specs.declared.fault.AsmFault.{AsmFault}
use Rattle.mips_asm.specs.declared.fault.AsmFault.TheVariants as asm_fault
use Rattle.mips_asm.specs.Sources.{IsFaultOf, OrNoMemory}
use Rattle.cli_base.specs.declared.answer.Answer.{Answer}
use Rattle.cli_base.specs.declared.refusal.Refusal.{Refusal}
use Rattle.cli_base.specs.declared.refusal.Refusal.TheVariants.{Unread, Bad}
use Rattle.cli_base.specs.declared.refusal.Stop.{Stop}
use Rattle.cli_base.specs.declared.refusal.Stop.TheVariants as stop
use Rattle.cli_programs.specs.Assembly.{Assembles, AssemblesRead, IsAssembled, Says, said_of}
use Rattle.cli_base.specs.Inputs.{Held, file_or_refusal}
use Rattle.cli_programs.specs.Programs.{source_limit}
use Rattle.cli_base.specs.Readings.{IsWanted, Meets}

-- a fault of a source isn't that it can't be read
pub said-unread : (source name : List ℕ) (fault : AsmFault)
    → said_of source fault ≡ Some (Unread name) → ⊥
said-unread source name (asm_fault.Syntax line) is = cc
said-unread source name (asm_fault.Duplicate line) is = cc
said-unread source name (asm_fault.TooLong line) is = cc
said-unread source name (asm_fault.Overlap line) is = cc
said-unread source name (asm_fault.UnknownName line) is = cc
said-unread source name (asm_fault.Range line) is = cc
said-unread source name asm_fault.NoMemory is = cc

-- want of memory is told by no refusal
said-none : (source : List ℕ) (fault : AsmFault) (refusal : Refusal) → fault ≡ asm_fault.NoMemory
    → said_of source fault ≡ Some refusal → ⊥
said-none source fault refusal none says =
    let said : said_of source asm_fault.NoMemory
    ≡ Some refusal = subst (λ (f : AsmFault). said_of source f ≡ Some refusal) none says in
    absurd (cc)

-- a source with a fault is refused for it, or for want of memory
pub assembled_stops : (source text target : List ℕ) (fault : AsmFault) (made : Stop)
    → OrNoMemory (IsFaultOf text) fault → Says source fault made
    → IsAssembled source text target (Err made)
assembled_stops source text target fault (stop.Refused refusal) (inl none) says =
    absurd (said-none source fault refusal none says)
assembled_stops source text target fault (stop.Refused refusal) (inr is) says = (fault, is, says)
assembled_stops source text target fault stop.NoMemory is says = tt

module _ (told : FilesTold) (source target text : List ℕ) (before after : ℕ) (stays : after ≡ before)
    (read : (held : Held) → told ≡ Some held → file_or_refusal held source source_limit ≡ Ok text) where
  -- what the text comes to, the name does
  of_name : (outcome : Result Answer Refusal) → AssemblesRead source target (Ok text) outcome
      → IsWanted told (Assembles source target) outcome
  of_name outcome is held here =
      subst (λ (bytes : Result (List ℕ) Refusal). AssemblesRead source target bytes outcome)
      (sym (read held here)) is

  pub assembled_meets : (result : Result Answer Stop) → IsAssembled source text target result
      → Meets told (Assembles source target) before after result
  assembled_meets (Ok answer) is = (stays, of_name (Ok answer) is)
  assembled_meets (Err (stop.Refused (Unread name))) is = absurd (said-unread source name is.0 is.2)
  assembled_meets (Err (stop.Refused (Bad name fault))) is =
      (stays, of_name (Err (Bad name fault)) is)
  assembled_meets (Err stop.NoMemory) is = omega arith
