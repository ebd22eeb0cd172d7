-- The laws, as the table of forms gives them.
use Rattle.mips_forms.proofs.FormTable.{forms_differ, kinds_of_forms, operands_fit}
use Rattle.mips_forms.proofs.law.forms_are_exact.Goals as goal

pub returns : goal.returns
returns c = record { differ = forms_differ; kinds = kinds_of_forms; fit = operands_fit }
