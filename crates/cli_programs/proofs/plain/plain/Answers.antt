use Rattle.cli_base.proofs.Without.{given_on}
use Rattle.cli_programs.proofs.Stopped.{plain_stops}
use Rattle.cli_programs.proofs.plain.plain.Goals as goal

pub returns-in_err-values-clause-gives : goal.returns-in_err-values-clause-gives
returns-in_err-values-clause-gives g c =
    given_on _ _ _ _ c.in_err-values.field-0.0 c.from_residual-in_err-values.result
    c.from_residual-in_err-values.ensures.1
    (plain_stops _ _ c.args.steps _ _ _ _ _ c.in_err-values.field-0.0 c.in_ok-image.ensures.gives
    (rw c.in_ok-image.ensures.names at c.in_err-values.ensures.gives))
