-- The level goes down.
use Rattle.replay_tree.proofs.build.+fill_up_to.Given as goal

abbrev pub decreases-fill_up_to : goal.decreases-fill_up_to
decreases-fill_up_to l = l.level
