use Rattle.xom_versions.specs.Chip.{ChipStands, chip}
use Rattle.headline_law.proofs.Headline.{kept-judged, kernels-judged, runs-judged}
use Rattle.headline_law.proofs.laws.every_guest_follows.Goals as goal

pub returns : goal.returns
returns c = record {
  kept = kept-judged ChipStands;
  runs = runs-judged chip ChipStands;
  kernels =
      kernels-judged chip ChipStands;
}
