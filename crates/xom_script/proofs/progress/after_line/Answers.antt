-- Each state has its own rows.
use Rattle.xom_script.proofs.progress.after_line.Goals as goal

pub returns-in-Start : goal.returns-in-Start
returns-in-Start c = rw c.in-Start.is (c.after_start.ensures c.args.number)

pub returns-in-Keyed : goal.returns-in-Keyed
returns-in-Keyed c = rw c.in-Keyed.is (c.after_machine.ensures c.args.number)

pub returns-in-Booted : goal.returns-in-Booted
returns-in-Booted c = rw c.in-Booted.is (c.after_boot.ensures c.args.number)

pub returns-in-Framed : goal.returns-in-Framed
returns-in-Framed c = rw c.in-Framed.is (c.after_frames.ensures c.args.number)

pub returns-in-Kernel : goal.returns-in-Kernel
returns-in-Kernel c = rw c.in-Kernel.is (c.after_kernel.ensures c.args.number)

pub returns-in-Whole : goal.returns-in-Whole
returns-in-Whole c = rw c.in-Whole.is (c.after_whole.ensures c.args.number)
