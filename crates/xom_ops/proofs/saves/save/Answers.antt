-- RAM keeps its size.
use Rattle.xom_ops.proofs.Fitting.{fits_resized}
use Rattle.xom_ops.proofs.saves.save.Goals as goal

pub invariant_of-core : goal.invariant_of-core
invariant_of-core g c = fits_resized _ _ _ _ _ _ _ _ c.write_saved.ensures.size c.core.invariant
