use Rattle.asm_laws.proofs.Guests.{guests_do_so}
use Rattle.asm_laws.proofs.laws.words_do_what_guests_do.Goals as goal

pub returns : goal.returns
returns c = guests_do_so
