use Rattle.mips_laws.proofs.Branching.{branches_on_equality, branches_on_sign}
use Rattle.mips_laws.proofs.numbers.branches_go_where_conditions_hold.Goals as goal

pub returns : goal.returns
returns c = record { equality = branches_on_equality; sign = branches_on_sign }
