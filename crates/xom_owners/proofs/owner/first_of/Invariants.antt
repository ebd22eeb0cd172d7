-- No owner before this one has the id.
use Rattle.std.proofs.Common.{◌≡◌, drop}
use Rattle.xom_owners.specs.Owners.{owner_of}
use Rattle.xom_owners.proofs.owner.first_of.Given as goal

abbrev pub invariant-loop-owner : goal.invariant-loop-owner
invariant-loop-owner l = owner_of (drop l.owner-index l.owners) l.id ≡ owner_of l.owners l.id
