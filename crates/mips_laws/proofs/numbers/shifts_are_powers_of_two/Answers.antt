use Rattle.mips_laws.proofs.Shifting.{unsigned_shifts, signed_shifts}
use Rattle.mips_laws.proofs.numbers.shifts_are_powers_of_two.Goals as goal

pub returns : goal.returns
returns c = record { unsigned = unsigned_shifts; signed = signed_shifts }
