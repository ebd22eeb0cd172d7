-- The first leaves are written.
use Rattle.std.proofs.Common.{◌≡◌, length}
use Rattle.line_ram.specs.Bytes.{ram_with_bytes}
use Rattle.xom_versions.specs.Versions.{start_version}
use Rattle.replay_tree.specs.Tree.{node, parts_joined}
use Rattle.replay_tree.proofs.build.write_leaves.Given as goal

abbrev pub invariant-loop-index : goal.invariant-loop-index
invariant-loop-index l =
    (l.ram ≡ ram_with_bytes l.initial.ram l.area (parts_joined (node (start_version l.lines) 0) l.index))
    × (length l.ram ≡ length l.initial.ram)
