-- What is built is the one instruction of that form.
use Rattle.std.proofs.Common.{sym, ◌∙◌}
use Rattle.mips_forms.proofs.FormTable.{build_of-form, form-build_of}
use Rattle.mips_forms.proofs.building.build.Goals as goal

pub returns-clause-exact : goal.returns-clause-exact
returns-clause-exact c i =
    let name = c.args.name.now in
    let operands = c.args.operands.now in (
      λ is. build_of-form name operands i (sym c.found.ensures ∙ is),
      λ is. c.found.ensures
          ∙ form-build_of name operands i is,
    )
