-- An image always tells its turn.
use Rattle.xom_model.specs.Run.{run_from}
use Rattle.xom_model.specs.State.{Record}
use Rattle.power_on.specs.Shipped.{shipped_versions}
use Rattle.kernels.specs.Turns.{image_told}
use Rattle.kernels.proofs.Told.{image_run-some}
use Rattle.cli_runs.specs.declared.kernel_file.KernelFile.TheVariants as kernel_file
use Rattle.power_on.specs.Start.{first_of}
use Rattle.cli_trace.proofs.Told.{told-whole}
use Rattle.cli_trace.proofs.made.ran_image.Goals as goal

pub returns : goal.returns
returns c =
    let file = c.args.file.now in
    let first : Record = first_of file c.args.guests.now (kernel_file.Image c.args.image.now) in
    told-whole (run_from shipped_versions image_told file.schedule file.budget 0 first tt) first
    c.in_ok-last.last.state
    (image_run-some shipped_versions file.schedule file.budget 0 first tt)
    (rw (c.in_ok-machine.ensures.start) at c.in_ok-last.ensures)
