-- A script tells the turn of each of its lines, and Halt behind the last.
use Rattle.xom_model.specs.Run.{run_from}
use Rattle.xom_model.specs.State.{Record}
use Rattle.power_on.specs.Shipped.{shipped_versions}
use Rattle.kernels.specs.Turns.{script_told}
use Rattle.kernels.proofs.Told.{script_run-some}
use Rattle.cli_runs.specs.declared.kernel_file.KernelFile.TheVariants as kernel_file
use Rattle.power_on.specs.Start.{first_of}
use Rattle.cli_trace.proofs.Told.{told-whole}
use Rattle.cli_trace.proofs.made.ran_script.Goals as goal

pub returns : goal.returns
returns c =
    let file = c.args.file.now in
    let lines = c.args.script.lines in
    let first : Record = first_of file c.args.guests.now (kernel_file.Script c.args.script) in
    told-whole (run_from shipped_versions script_told file.schedule file.budget 0 first lines) first
    c.in_ok-last.last.state
    (script_run-some shipped_versions file.schedule file.budget 0 first lines)
    (rw (c.in_ok-machine.ensures.start, c.new.ensures) at c.in_ok-last.ensures)
