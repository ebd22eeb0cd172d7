use Rattle.cli_runs.proofs.Rules.{read-runnable}
use Rattle.cli_runs.proofs.Steps.{lined-keeps}
use Rattle.cli_runs.specs.RunFiles.{IsRunnable}
use Rattle.cli_runs.proofs.run_files.run_in.Goals as goal

pub returns-clause-runnable : goal.returns-clause-runnable
returns-clause-runnable c =
    lined-keeps IsRunnable c.read_run.result c.lined.result
    (read-runnable c.args.text.now _ c.read_run.result c.read_run.ensures.text
    c.read_run.ensures.rules) c.lined.ensures
