-- The search finds a number exactly where it is among them.
use Rattle.std.proofs.Common.{◌∙◌}
use Rattle.xom_machine.proofs.Search.{found_among}
use Rattle.xom_machine.proofs.next.is_among.Goals as goal

pub returns : goal.returns
returns c =
    c.is_ok.ensures.value
    ∙ found_among c.args.numbers.now c.args.number c.binary_search.result c.requires
    c.binary_search.ensures.position
