use Rattle.xom_versions.specs.Chip.{ChipStands}
use Rattle.xom_model.proofs.PadsKept.{pads_hold}
use Rattle.xom_model.proofs.laws.no_pad_serves_twice.Goals as goal

pub returns : goal.returns
returns c = record {
  names = λ owners core holds. holds.slots.seals.once;
  pads =
      pads_hold ChipStands;
}
