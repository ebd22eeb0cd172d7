-- A byte is a range of one.
use Rattle.std.proofs.Common.{◌≡◌, Some, get_or, slice_get, refl, subst, sym}
use Rattle.xom_machine.proofs.Bytes.{byte_at}
use Rattle.xom_machine.proofs.machine.view.byte_of.Goals as goal

pub returns : goal.returns
returns c =
    subst (λ into. Some (get_or into 0 0) ≡ slice_get c.args.ram.now c.args.address)
    (sym c.read.ensures) (byte_at c.args.ram.now c.args.address 0 (c.if-not-holds.ensures.0 refl))
