-- None of those so far holds the message under the key.
use Rattle.std.proofs.Common.{◌≡◌, drop}
use Rattle.std.specs.List.{list_any}
use Rattle.image_sealer.specs.Membership.{is_sealed}
use Rattle.image_sealer.specs.Sealing.{sealing_of}
use Rattle.trace_judge.proofs.sealings.any_has.Given as goal

abbrev pub invariant-loop-own : goal.invariant-loop-own
invariant-loop-own l =
    list_any (λ own. is_sealed l.key l.message (sealing_of own.machine own.owner))
    (drop l.own-index l.items) ≡ list_any
    (λ own. is_sealed l.key l.message (sealing_of own.machine own.owner)) l.items
