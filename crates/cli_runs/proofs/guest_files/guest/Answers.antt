use Rattle.std.specs.Prelude.{string_bytes}
use Rattle.cli_base.proofs.Without.{given_on}
use Rattle.cli_runs.proofs.Files.{guest_stops}
use Rattle.cli_runs.proofs.guest_files.guest.Goals as goal

pub returns-in_err-input-clause-gives : goal.returns-in_err-input-clause-gives
returns-in_err-input-clause-gives g c =
    given_on _ _ _ _ c.in_err-input.field-0.0 c.from_residual-in_err-input.result
    c.from_residual-in_err-input.ensures.1
    (guest_stops _ (string_bytes c.args.run.now) c.args.frames c.args.frame c.args.line.now
    _ _ _ _ c.in_err-input.field-0.0 c.in_ok-image.ensures.gives
    (rw c.in_ok-image.ensures.names at c.in_err-input.ensures.gives))
