-- The level goes down.
use Rattle.replay_tree.proofs.place.+index_at.Given as goal

abbrev pub decreases-index_at : goal.decreases-index_at
decreases-index_at l = l.level
