use Rattle.replay_tree.specs.Calls.{top_level, tree}
use Rattle.replay_tree.specs.Tree.{TreeStands}
use Rattle.headline_law.proofs.Headline.{kept-judged, kernels-judged, runs-judged}
use Rattle.journal_laws.proofs.KernelRuns.{kernels_are_read_again}
use Rattle.journal_laws.proofs.RuledEvents.{events_keep_rules, start_keeps_rules}
use Rattle.journal_laws.proofs.RuledRuns.{journals_are_read_again, journals_keep_rules}
use Rattle.tree_laws.proofs.TreeRules.{tree_rules}
use Rattle.tree_laws.proofs.laws.the_tree_serves_the_whole_machine.Goals as goal

pub returns : goal.returns
returns c = record {
  held = kept-judged (TreeStands top_level);
  runs = runs-judged tree (TreeStands top_level);
  kernels = kernels-judged tree (TreeStands top_level);
  texts = tree_rules;
  at_start = start_keeps_rules tree;
  kept = events_keep_rules tree (TreeStands top_level);
  always = journals_keep_rules tree (TreeStands top_level);
  read_again = journals_are_read_again tree (TreeStands top_level);
  kernels_read_again = kernels_are_read_again tree (TreeStands top_level);
}
