-- The first versions stand in the leaf.
use Rattle.std.proofs.Common.{◌≡◌, replicate}
use Rattle.line_ram.specs.Bytes.{ram_with_bytes}
use Rattle.replay_tree.specs.Tree.{parts_joined}
use Rattle.replay_tree.proofs.Built.{leaf_part}
use Rattle.replay_tree.proofs.build.leaf.Given as goal

abbrev pub invariant-loop-k : goal.invariant-loop-k
invariant-loop-k l =
    l.leaf ≡ ram_with_bytes (replicate 64 0) 0 (parts_joined (leaf_part l.lines l.index) l.k)
