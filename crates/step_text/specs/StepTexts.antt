-- The text of one recorded step, field by field, and the names of a guest's own faults. This
-- project's own format.
use Rattle.std.specs.Prelude.{◌≡◌, ℕ, ◌-◌, List, ◌++◌, drop, codes}
use Rattle.std.specs.Fmt.{decimal}
use Rattle.std.specs.Int.{w32, to_be_bytes}
use Rattle.hex.specs.Hex.{encode_lower}
use Rattle.text_pieces.specs.Pieces.{hex8}
use Rattle.xom_base.specs.declared.event.OwnFault.{OwnFault}
use Rattle.xom_base.specs.declared.event.OwnFault.TheVariants as fault
use Rattle.xom_base.specs.declared.step.Writes.{Writes}
use Rattle.xom_base.specs.declared.step.Writes.TheVariants as writes
use Rattle.xom_base.specs.declared.step.Stored.{Stored}
use Rattle.xom_base.specs.declared.step.Stored.TheVariants as stored
use Rattle.xom_base.specs.declared.step.Received.{Received}
use Rattle.xom_base.specs.declared.step.Received.TheVariants as received
use Rattle.xom_base.specs.declared.step.Released.{Released}
use Rattle.xom_base.specs.declared.step.Released.TheVariants as released
use Rattle.xom_base.specs.declared.step.StepEnd.{StepEnd}
use Rattle.xom_base.specs.declared.step.StepEnd.TheVariants as ended
use Rattle.xom_base.specs.declared.step.Step.{Step}

-- the low bytes of a 32-bit number, so many of them, the high one first
abbrev pub low_hex : ℕ → ℕ → List ℕ
low_hex count value = encode_lower (drop (4 - count) (to_be_bytes w32 value))

-- the cells written; HI and LO alone are r32 and r33
abbrev pub writes_text : Writes → List ℕ
writes_text writes.Nothing = codes "-"
writes_text (writes.One reg value) = codes "r" ++ (decimal reg ++ (codes "=" ++ hex8 value))
writes_text (writes.Pair hi lo) = codes "hl=" ++ (hex8 hi ++ (codes ":" ++ hex8 lo))

-- the bytes stored, behind their address and their number
abbrev pub stored_text : Stored → List ℕ
stored_text stored.Nothing = codes "-"
stored_text (stored.Bytes address count value) =
    hex8 address ++ (codes "+" ++ (decimal count ++ (codes "=" ++ low_hex count value)))

-- what came from outside; a word of RAM behind its address
abbrev pub received_text : Received → List ℕ
received_text received.Nothing = codes "-"
received_text (received.Cell value) = codes "cell=" ++ hex8 value
received_text (received.Null address value) =
    codes "null=" ++ (hex8 address ++ (codes ":" ++ hex8 value))
received_text (received.Signal n) = codes "signal=" ++ decimal n

-- what was given out; a word of RAM behind its address
abbrev pub released_text : Released → List ℕ
released_text released.Nothing = codes "-"
released_text (released.Cell reg value) = codes "r" ++ (decimal reg ++ (codes "=" ++ hex8 value))
released_text (released.Null address value) =
    codes "null=" ++ (hex8 address ++ (codes ":" ++ hex8 value))

-- how the step ended
abbrev pub step_end_text : StepEnd → List ℕ
step_end_text ended.Goes = codes "goes"
step_end_text (ended.Call code) = codes "call=" ++ decimal code
step_end_text ended.Exit = codes "exit"

-- the fields PC NPC WRITES STORED: where the guest was, and what it changed of its own
abbrev pub own_fields : Step → List ℕ
own_fields step =
    hex8 step.pc ++ (codes " "
    ++ (hex8 step.npc ++ (codes " "
    ++ (writes_text step.writes ++ (codes " " ++ stored_text step.stored)))))

-- the fields RECEIVED RELEASED END: what passed to and from the guest
abbrev pub outer_fields : Step → List ℕ
outer_fields step =
    received_text step.received
    ++ (codes " " ++ (released_text step.released ++ (codes " " ++ step_end_text step.end)))

-- all fields, PC NPC WRITES STORED RECEIVED RELEASED END, with one space between each two
unfoldable pub step_fields : Step → List ℕ
step_fields step = own_fields step ++ (codes " " ++ outer_fields step)

-- a guest's own fault by its name
abbrev pub own_fault_text : OwnFault → List ℕ
own_fault_text fault.Reserved = codes "Reserved"
own_fault_text fault.Foreign = codes "Foreign"
own_fault_text fault.Overflow = codes "Overflow"
own_fault_text fault.Address = codes "Address"
own_fault_text fault.Break = codes "Break"
