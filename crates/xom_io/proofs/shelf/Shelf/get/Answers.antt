-- The map has what the list of names has.
use Rattle.std.proofs.Common.{◌∙◌, ap}
use Rattle.std.specs.BTreeMap.{get_by_text}
use Rattle.xom_io.proofs.Named.{get-named}
use Rattle.xom_io.proofs.shelf.Shelf.get.Goals as goal

pub returns : goal.returns
returns c =
    rw (← c.self.view_is, get-named c.self.inside.files)
    (c.get.ensures.value ∙ ap (get_by_text c.self.inside.files) c.as_str.ensures.value)
