-- The level goes down.
use Rattle.replay_tree.proofs.path.+check.Given as goal

abbrev pub decreases-check : goal.decreases-check
decreases-check l = l.level
