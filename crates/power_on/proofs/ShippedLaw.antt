-- The version stores of the program keep the law of versions.
use Rattle.xom_versions.specs.Versions.{VersionLaw}
use Rattle.replay_tree.specs.TreeLaw.{tree_law}
use Rattle.power_on.specs.Shipped.{ShippedStands, shipped_versions}

pub shipped_law : VersionLaw shipped_versions ShippedStands
shipped_law = tree_law
