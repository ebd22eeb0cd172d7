use Rattle.cli_base.proofs.Without.{given_on}
use Rattle.cli_debug.proofs.Files.{debug_ends, debug_stops}
use Rattle.cli_debug.proofs.debug.debug.Goals as goal
use Rattle.std.specs.Prelude.{string_bytes}

pub returns-in_err-list-clause-gives : goal.returns-in_err-list-clause-gives
returns-in_err-list-clause-gives g c =
    given_on _ _ _ _ c.in_err-list.field-0.0 c.from_residual-in_err-list.result
    c.from_residual-in_err-list.ensures.1
    (debug_stops _ (string_bytes c.args.run.now) (string_bytes c.args.commands.now)
    _ _ _ _ c.in_ok-parts.ensures.gives c.in_err-list.field-0.0 (rw c.in_ok-parts.ensures.names at
    c.in_err-list.ensures.gives))

pub returns-clause-gives : goal.returns-clause-gives
returns-clause-gives g c =
    debug_ends _ (string_bytes c.args.run.now) (string_bytes c.args.commands.now)
    _ _ _ _ c.in_ok-parts.ensures.gives _ _
    (rw c.in_ok-parts.ensures.names at c.in_ok-list.ensures.gives) c.in_ok-debugged.ensures.value
