-- A script tells the turn of each of its lines, and Halt behind the last.
use Rattle.cli_debug.proofs.Told.{script_moments-some, text-whole}
use Rattle.cli_debug.proofs.debug.script_text.Goals as goal
use Rattle.cli_runs.specs.declared.kernel_file.KernelFile.TheVariants as kernel_file
use Rattle.power_on.specs.Start.{first_of}
use Rattle.kernels.specs.Turns.{script_told}
use Rattle.power_on.specs.Shipped.{shipped_versions}
use Rattle.xom_debug.specs.Moments.{moments_from}
use Rattle.xom_model.specs.Seen.{view_of}
use Rattle.xom_model.specs.State.{Record}

pub returns : goal.returns
returns c =
    let file = c.args.file.now in
    let lines = c.args.script.lines in
    let first : Record = first_of file c.args.guests.now (kernel_file.Script c.args.script) in
    text-whole c.args.commands.now (view_of first) (moments_from shipped_versions script_told file.schedule
    file.budget 0 first lines) c.in_ok-text.text
    (script_moments-some shipped_versions file.schedule file.budget 0 first lines)
    (rw (c.in_ok-machine.ensures.start, c.new.ensures) at c.in_ok-text.ensures)
