-- One of the owners holds it where it stands in what all of them sealed.
use Rattle.std.proofs.Common.{ap, ◌∙◌}
use Rattle.std.specs.List.{list_any}
use Rattle.image_sealer.specs.Membership.{is_sealed}
use Rattle.image_sealer.specs.Sealing.{sealing_of}
use Rattle.image_sealer.specs.declared.owner_sealing.OwnerSealing.{OwnerSealing}
use Rattle.trace_judge.proofs.ForgeryLaws.{sealed_by_any}
use Rattle.trace_judge.proofs.sealings.Sealings.has.Goals as goal

pub returns : goal.returns
returns c =
    let key = c.args.key.now in
    let message = c.args.message.now in
    c.any_has.ensures
    ∙ ap (list_any (λ (own : OwnerSealing). is_sealed key message
    (sealing_of own.machine own.owner))) c.as_slice.ensures.value
    ∙ sealed_by_any (λ (own : OwnerSealing). sealing_of own.machine own.owner)
    c.args.self.now.items.items key message
