use Rattle.power_on.proofs.Schedules.{is_schedule}
use Rattle.cli_trace.proofs.made.run_under.Goals as goal

pub run-requires-clause-schedule : goal.run-requires-clause-schedule
run-requires-clause-schedule g c =
    is_schedule c.args.file.now.frames c.args.file.now.schedule c.requires.file.schedule
