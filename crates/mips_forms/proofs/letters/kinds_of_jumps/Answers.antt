-- What is found in a table has the kinds of that table.
use Rattle.std.proofs.Common.{rules, [], ◌∷◌}
use Rattle.mips_forms.specs.declared.operand.OperandKind.TheVariants as kinds
use Rattle.mips_forms.specs.Builds.{rows_with_operands}
use Rattle.mips_forms.proofs.FormTable.{kinds_of_found}
use Rattle.mips_forms.proofs.letters.kinds_of_jumps.Goals as goal

pub returns-then-is_some : goal.returns-then-is_some
unfolding rows_with_operands
returns-then-is_some c =
    kinds_of_found c.args.name.now (kinds.Jump ∷ [])
    c.jump.result c.jump.ensures (search rules)
