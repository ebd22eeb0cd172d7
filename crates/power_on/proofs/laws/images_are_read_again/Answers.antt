-- The laws, as they are proved of the definitions.
use Rattle.power_on.proofs.Reading.{guests-read, kernel-read}
use Rattle.power_on.proofs.laws.images_are_read_again.Goals as goal

pub returns : goal.returns
returns c = record { kernel = kernel-read; guests = guests-read }
