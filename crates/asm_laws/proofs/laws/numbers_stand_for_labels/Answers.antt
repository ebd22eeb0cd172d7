use Rattle.asm_laws.proofs.Numbering.{images_by_numbers}
use Rattle.asm_laws.proofs.Replacing.{numbers_stand}
use Rattle.asm_laws.proofs.laws.numbers_stand_for_labels.Goals as goal

pub returns : goal.returns
returns c = record { statements = numbers_stand; images = images_by_numbers }
