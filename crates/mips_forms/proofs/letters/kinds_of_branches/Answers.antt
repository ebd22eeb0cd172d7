-- What is found in a table has the kinds of that table.
use Rattle.std.proofs.Common.{rules, [], ◌∷◌}
use Rattle.mips_forms.specs.declared.operand.OperandKind.TheVariants as kinds
use Rattle.mips_forms.specs.Builds.{rows_with_operands}
use Rattle.mips_forms.proofs.FormTable.{kinds_of_found}
use Rattle.mips_forms.proofs.letters.kinds_of_branches.Goals as goal

pub returns-then-is_some : goal.returns-then-is_some
unfolding rows_with_operands
returns-then-is_some c =
    kinds_of_found c.args.name.now (kinds.Register ∷ kinds.Register ∷ kinds.Branch ∷ [])
    c.compare.result c.compare.ensures (search rules)

pub returns-then-is_some-2 : goal.returns-then-is_some-2
unfolding rows_with_operands
returns-then-is_some-2 c =
    kinds_of_found c.args.name.now (kinds.Register ∷ kinds.Branch ∷ [])
    c.test.result c.test.ensures (search rules)
