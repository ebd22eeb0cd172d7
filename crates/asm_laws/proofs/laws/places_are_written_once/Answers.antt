use Rattle.asm_laws.proofs.Apart.{places_once}
use Rattle.mips_asm.proofs.SizeLaws.{Gives-size}
use Rattle.asm_laws.proofs.laws.places_are_written_once.Goals as goal

pub returns : goal.returns
returns c = record { sizes = Gives-size; once = places_once }
