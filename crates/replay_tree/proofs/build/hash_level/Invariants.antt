-- The first blocks are hashed, and their digests written.
use Rattle.replay_tree.proofs.Built.{Hashed}
use Rattle.replay_tree.proofs.build.hash_level.Given as goal

abbrev pub invariant-loop-index : goal.invariant-loop-index
invariant-loop-index l =
    Hashed l.area l.level l.index l.initial.ram l.ram l.initial.journal.entries l.journal.entries
    l.initial.journal.spare l.journal.spare
