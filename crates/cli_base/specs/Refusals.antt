-- Why a command wasn't carried out, and the line that says so.
use Rattle.std.specs.Prelude.{ℕ, List, ◌++◌, codes}
use Rattle.std.specs.Fmt.{decimal}
use Rattle.cli_base.specs.declared.refusal.InputFault.{InputFault}
use Rattle.cli_base.specs.declared.refusal.InputFault.TheVariants.{TooLong, NotBuilt, BadByte, BadLine, BadSource}
use Rattle.cli_base.specs.declared.refusal.SourceFault.{SourceFault}
use Rattle.cli_base.specs.declared.refusal.SourceFault.TheVariants as source_fault
use Rattle.cli_base.specs.declared.refusal.Refusal.{Refusal}
use Rattle.cli_base.specs.declared.refusal.Refusal.TheVariants.{Unread, Bad}

-- the line of words that match no row
abbrev pub words_line : List ℕ
words_line = codes "xom: words\n"

-- the word for what is wrong with a source
abbrev pub source_word : SourceFault → List ℕ
source_word source_fault.Syntax = codes "Syntax"
source_word source_fault.Duplicate = codes "Duplicate"
source_word source_fault.TooLong = codes "TooLong"
source_word source_fault.Overlap = codes "Overlap"
source_word source_fault.UnknownName = codes "UnknownName"
source_word source_fault.Range = codes "Range"

-- what is said of a file behind its name: offsets count from 0, lines from 1
abbrev pub input_fault_text : InputFault → List ℕ
input_fault_text TooLong = codes ": too long\n"
input_fault_text NotBuilt = codes ": not built\n"
input_fault_text (BadByte offset) = codes " byte " ++ (decimal offset ++ codes ": bad\n")
input_fault_text (BadLine line) = codes " line " ++ (decimal line ++ codes ": bad\n")
input_fault_text (BadSource line fault) =
    codes " line " ++ (decimal line ++ (codes ": " ++ (source_word fault ++ codes "\n")))

-- the line of a refusal
abbrev pub refusal_text : Refusal → List ℕ
refusal_text (Unread name) = codes "xom: cannot read " ++ (name ++ codes "\n")
refusal_text (Bad name fault) = codes "xom: " ++ (name ++ input_fault_text fault)

-- the status of a refusal: a file that can't be read, or bad input
abbrev pub refusal_status : Refusal → ℕ
refusal_status (Unread name) = 2
refusal_status (Bad name fault) = 4
