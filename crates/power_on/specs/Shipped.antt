-- The versions of private lines that the program runs with: a tree of hashes in hostile RAM.
use Rattle.xom_versions.specs.Versions.{Versions}
use Rattle.xom_model.specs.Versions.{StandsFor}
use Rattle.replay_tree.specs.Calls.{top_level, tree}
use Rattle.replay_tree.specs.Tree.{TreeStands}

-- what its version stores answer, hash and leave
abbrev pub shipped_versions : Versions
shipped_versions = tree

-- for which numbers of the lines a store stands in a journal
abbrev pub ShippedStands : StandsFor
ShippedStands = TreeStands top_level
