-- An owner beside the key of the machine that it seals for.
use Rattle.xom_base.specs.declared.key.Key256.{Key256}
use Rattle.xom_owners.specs.declared.owner.Owner.{Owner}

-- an owner, and the key of the machine that it seals for
pub record Owned : Type 0 where
  pub machine : Key256
  pub owner : Owner
