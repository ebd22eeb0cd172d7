-- The size of RAM stays.
use Rattle.line_ram.specs.Laws.{SizeStays}
use Rattle.line_ram.proofs.Ranges.{length-stored}

pub stored_size : SizeStays
stored_size = length-stored
