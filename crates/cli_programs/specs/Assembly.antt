-- `asm SOURCE IMAGE`: the image that a source stands for, or the fault of the source.
use Rattle.std.specs.Prelude.{◌≡◌, ℕ, List, ◌++◌, Option, Some, None, Result, Ok, Err, codes, length}
use Rattle.std.specs.Fmt.{decimal}
use Rattle.xom_base.specs.declared.image.PlainImage.{PlainImage}
use Rattle.text_pieces.specs.Pieces.{hex8}
use Rattle.mips_asm.specs.declared.fault.AsmFault.{AsmFault}
use Rattle.mips_asm.specs.declared.fault.AsmFault.TheVariants as asm_fault
use Rattle.mips_asm.specs.Sources.{IsFaultOf, IsImageOf}
use Rattle.xom_image.specs.PlainFiles.{plain_file}
use Rattle.cli_base.specs.declared.answer.Answer.{Answer}
use Rattle.cli_base.specs.declared.refusal.InputFault.TheVariants.{BadSource}
use Rattle.cli_base.specs.declared.refusal.Refusal.{Refusal}
use Rattle.cli_base.specs.declared.refusal.Refusal.TheVariants.{Bad}
use Rattle.cli_base.specs.declared.refusal.SourceFault.TheVariants as source_fault
use Rattle.cli_base.specs.declared.refusal.Stop.{Stop}
use Rattle.cli_base.specs.declared.refusal.Stop.TheVariants as stop
use Rattle.cli_base.specs.Commands.{writes}
use Rattle.cli_base.specs.Inputs.{Held, file_or_refusal}
use Rattle.cli_programs.specs.Programs.{source_limit}

-- how many bytes an image has, and its entry
abbrev pub image_text : (size entry : ℕ) → List ℕ
image_text size entry =
    codes "image " ++ (decimal size ++ (codes " bytes entry " ++ (hex8 entry ++ codes "\n")))

-- an image as a file of this name
abbrev pub image_answer : PlainImage → List ℕ → Answer
image_answer image target =
    writes (image_text (length image.bytes) image.entry) target (plain_file image.entry image.bytes)

-- what is said of a source of this name that has this fault; want of memory is none of it
abbrev pub said_of : List ℕ → AsmFault → Option Refusal
said_of source (asm_fault.Syntax line) = Some (Bad source (BadSource line source_fault.Syntax))
said_of source (asm_fault.Duplicate line) =
    Some (Bad source (BadSource line source_fault.Duplicate))
said_of source (asm_fault.TooLong line) = Some (Bad source (BadSource line source_fault.TooLong))
said_of source (asm_fault.Overlap line) = Some (Bad source (BadSource line source_fault.Overlap))
said_of source (asm_fault.UnknownName line) =
    Some (Bad source (BadSource line source_fault.UnknownName))
said_of source (asm_fault.Range line) = Some (Bad source (BadSource line source_fault.Range))
said_of source asm_fault.NoMemory = None

-- a source with this fault is refused so; want of memory comes freely
abbrev pub Says : List ℕ → AsmFault → Stop → Type 0
Says source fault (stop.Refused refusal) = said_of source fault ≡ Some refusal
Says source fault stop.NoMemory = Unit {0}

-- what the text of a source comes to: its image as a file, or its fault
abbrev pub AssemblesText : List ℕ → List ℕ → List ℕ → Result Answer Refusal → Type 0
AssemblesText source text target (Ok answer) =
    (image : PlainImage) × IsImageOf text image × (answer ≡ image_answer image target)
AssemblesText source text target (Err refusal) =
    (fault : AsmFault) × IsFaultOf text fault × (said_of source fault ≡ Some refusal)

-- the same of what reading the source gave
abbrev pub AssemblesRead : List ℕ → List ℕ → Result (List ℕ) Refusal → Result Answer Refusal
    → Type 0
AssemblesRead source target (Ok text) result = AssemblesText source text target result
AssemblesRead source target (Err refusal) result = result ≡ Err refusal

-- what `asm` of a source and an image of these names comes to
abbrev pub Assembles : List ℕ → List ℕ → Held → Result Answer Refusal → Type 0
Assembles source target held result =
    AssemblesRead source target (file_or_refusal held source source_limit) result

-- what was answered of the text of a source; want of memory comes freely
abbrev pub IsAssembled : List ℕ → List ℕ → List ℕ → Result Answer Stop → Type 0
IsAssembled source text target (Ok answer) = AssemblesText source text target (Ok answer)
IsAssembled source text target (Err (stop.Refused refusal)) =
    AssemblesText source text target (Err refusal)
IsAssembled source text target (Err stop.NoMemory) = Unit {0}
