-- The level goes down.
use Rattle.replay_tree.proofs.path.+renew.Given as goal

abbrev pub decreases-renew : goal.decreases-renew
decreases-renew l = l.level
