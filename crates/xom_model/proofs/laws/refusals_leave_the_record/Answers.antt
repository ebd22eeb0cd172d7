use Rattle.xom_model.proofs.RecordRefused.{do_refused, null_refused}
use Rattle.xom_model.proofs.laws.refusals_leave_the_record.Goals as goal

pub returns : goal.returns
returns c = record { script = do_refused; code = null_refused }
