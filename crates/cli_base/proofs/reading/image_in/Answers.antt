use Rattle.std.proofs.Common.{ap}
use Rattle.cli_base.specs.Inputs.{image_at, image_found}
use Rattle.cli_base.proofs.Images.{valid_image-of}
use Rattle.cli_base.proofs.reading.image_in.Goals as goal

pub returns-in-Ok : goal.returns-in-Ok
unfolding image_at
returns-in-Ok c = rw c.in-Ok.ensures.value (ap image_found (valid_image-of c.in-Ok.image))
