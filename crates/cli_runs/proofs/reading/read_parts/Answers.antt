use Rattle.std.specs.Prelude.{string_bytes}
use Rattle.cli_runs.proofs.Files.{parts_end}
use Rattle.cli_runs.proofs.reading.read_parts.Goals as goal

pub returns-clause-gives : goal.returns-clause-gives
returns-clause-gives g c =
    parts_end _ (string_bytes c.args.run.now) _ _ _ _ c.parts_named.result
    c.in_ok-file.ensures.gives (rw c.in_ok-file.ensures.names at c.parts_named.ensures.gives)
