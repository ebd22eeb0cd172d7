-- The line on a run's events: how many there were, and how the run ended.
use Rattle.std.specs.Prelude.{ℕ, Bool, true, false, List, ◌++◌, Option, Some, None, codes}
use Rattle.std.specs.Fmt.{decimal}
use Rattle.text_pieces.specs.Pieces.{hex8}
use Rattle.xom_model.specs.declared.outcome.NullFault.{NullFault}
use Rattle.xom_model.specs.declared.outcome.NullFault.TheVariants as null

-- the word for a fault of the null instruction
abbrev pub fault_word : NullFault → List ℕ
fault_word null.Reserved = codes "Reserved"
fault_word null.Overflow = codes "Overflow"
fault_word null.Address = codes "Address"
fault_word null.Break = codes "Break"
fault_word null.Call = codes "Call"

-- the end of a line that tells of a fault
abbrev pub kind_text : NullFault → List ℕ
kind_text why = codes " " ++ (fault_word why ++ codes "\n")

-- the line's end for a fault of the null instruction at an address
abbrev pub kernel_fault_text : ℕ → NullFault → List ℕ
kernel_fault_text at why = codes " kernel fault at " ++ (hex8 at ++ kind_text why)

-- how a run ended: by Halt, by a fault of the null instruction at an address, or since the budget
-- was reached
abbrev pub stop_text : Option (ℕ × NullFault) → List ℕ
stop_text None = codes " halted\n"
stop_text (Some (at, why)) = kernel_fault_text at why

-- how a run ended, as the end of a line: the kernel halted or faulted, or else the budget was
-- reached
abbrev pub ending_text : Bool → Option (ℕ × NullFault) → List ℕ
ending_text true fault = stop_text fault
ending_text false fault = codes " budget\n"

-- the line of a run with so many events, which halted or not, by a fault or not
abbrev pub events_text : ℕ → Bool → Option (ℕ × NullFault) → List ℕ
events_text events halted fault = codes "events " ++ (decimal events ++ ending_text halted fault)
