-- The kinds that stand in the tables are those of the instructions with that mnemonic.
use Rattle.std.proofs.Common.{◌≡◌, ℕ, List, Option, Some, None, MatchOption}
use Rattle.mips_forms.specs.declared.operand.OperandKind.{OperandKind}
use Rattle.mips_forms.specs.Forms.{FormTakes, IsNoMnemonic}
use Rattle.mips_forms.specs.Builds.{kinds_of}
use Rattle.mips_forms.proofs.FormTable.{kinds_of-Takes, kinds_of-none}
use Rattle.mips_forms.proofs.building.kinds.Goals as goal

taken : {X : Type 0} (shown : X → List OperandKind) (name : List ℕ) (found : Option X)
    → MatchOption found (kinds_of name ≡ None) (λ shape. kinds_of name ≡ Some (shown shape))
    → MatchOption found (IsNoMnemonic name) (λ shape. FormTakes name (shown shape))
taken shown name None is = kinds_of-none name is
taken shown name (Some shape) is = kinds_of-Takes name (shown shape) is

pub returns-clause-exact : goal.returns-clause-exact
returns-clause-exact c =
    taken (λ shape. shape.now) c.args.name.now c.found_kinds.result c.found_kinds.ensures
