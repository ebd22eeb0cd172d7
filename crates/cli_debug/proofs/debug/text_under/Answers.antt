use Rattle.cli_debug.proofs.debug.text_under.Goals as goal
use Rattle.power_on.proofs.Schedules.{is_schedule}

pub debug-requires-clause-schedule : goal.debug-requires-clause-schedule
debug-requires-clause-schedule g c =
    is_schedule c.args.file.now.frames c.args.file.now.schedule c.requires.file.schedule
