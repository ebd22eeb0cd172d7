-- The owners so far are ready.
use Rattle.std.proofs.Common.{◌≡◌, take}
use Rattle.std.specs.List.{flat_map}
use Rattle.image_sealer.specs.Sealing.{sealing_of}
use Rattle.journal_findings.specs.Findings.{sealed_by}
use Rattle.trace_judge.proofs.sealings.Sealings.new.Given as goal

abbrev pub invariant-loop-i : goal.invariant-loop-i
invariant-loop-i l =
    flat_map (λ own. sealing_of own.machine own.owner) l.items.items
    ≡ sealed_by l.machine (take l.i l.owners)
