-- A run is the program alone, and there is just one.
use Rattle.plain_run.proofs.AloneLaws.{one_run, runs_alone}
use Rattle.plain_run.proofs.law.run_is_alone.Goals as goal

pub returns-clause-alone : goal.returns-clause-alone
returns-clause-alone c = runs_alone

pub returns-clause-one : goal.returns-clause-one
returns-clause-one c = one_run
