use Rattle.asm_laws.proofs.Images.{images_have_statements}
use Rattle.asm_laws.proofs.laws.statements_stand_in_images.Goals as goal

pub returns : goal.returns
returns c = images_have_statements
