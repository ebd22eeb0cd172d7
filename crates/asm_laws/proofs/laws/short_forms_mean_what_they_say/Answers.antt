use Rattle.asm_laws.proofs.ShortForms.{b_goes, la_loads, li_loads, move_copies, nop_goes}
use Rattle.asm_laws.proofs.laws.short_forms_mean_what_they_say.Goals as goal

pub returns : goal.returns
returns c = record {
  li = li_loads;
  la = la_loads;
  moves = move_copies;
  nop = nop_goes;
  b = b_goes;
}
