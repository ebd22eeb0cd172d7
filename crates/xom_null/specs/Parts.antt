-- The parts that null code is given, as the records that its definition speaks of.
use Rattle.std.specs.Prelude.{ℕ, List}
use Rattle.xom_base.specs.declared.event.Cause.{Cause}
use Rattle.tag_regs.specs.declared.cell.Cell.{Cell}
use Rattle.xom_model.specs.Null.{Told, Open}

-- what null code may change: the cells, the bytes of RAM and the null pair
abbrev pub open_of : List Cell → List ℕ → ℕ × ℕ → Open
open_of cells ram pair = record { cells = cells; ram = ram; pc = pair.0; npc = pair.1 }

-- what it may be told: the last status, and why and from which slot a guest left last
abbrev pub null_told : ℕ → Cause → ℕ → Told
null_told status cause who = record { status = status; cause = cause; who = who }
