-- What is kept of the owners of a run that were read is what the machine wants of them.
use Rattle.std.proofs.Common.{List}
use Rattle.xom_owners.specs.declared.owner.Owner.{Owner}
use Rattle.xom_model.specs.Laws.{AreOwners}
use Rattle.cli_runs.specs.OwnerImages.{AreWhole}

pub are_owners : (owners : List Owner) → AreWhole owners → AreOwners owners
are_owners owners whole = record {
  distinct = whole.distinct;
  whole = λ i owner is. record { id = whole.ids i owner is; key = whole.keys i owner is };
}
