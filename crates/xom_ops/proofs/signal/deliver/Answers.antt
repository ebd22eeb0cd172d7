-- The guest stays who it was.
use Rattle.std.proofs.Common.{◌∙◌, ap}
use Rattle.xom_ops.specs.Signals.{at_handler}
use Rattle.xom_ops.proofs.Moving.{fits_signalled}
use Rattle.xom_ops.proofs.signal.deliver.Goals as goal

pub invariant_of-core : goal.invariant_of-core
invariant_of-core g c =
    fits_signalled _ _ _ _ _ _ _ c.args.slot _ c.core.invariant
    (c.signalled.ensures ∙ ap at_handler c.session.ensures)
