-- The lines open by the law on lines.
use Rattle.image_sealer.proofs.Opening.{lines_open}
use Rattle.image_sealer.proofs.law.sealed_images_open.Goals as goal

pub returns-clause-lines : goal.returns-clause-lines
returns-clause-lines c = lines_open
