-- To set a name in the list is to insert it into the map.
use Rattle.xom_io.proofs.Named.{named-insert}
use Rattle.xom_io.proofs.shelf.Shelf.set.Goals as goal

pub returns-clause-ok : goal.returns-clause-ok
returns-clause-ok c =
    let inserted = named-insert c.self.inside.files c.insert.new.self c.in_ok-key.key
    c.in_ok-copy.copy c.in_ok-insert.ensures.updates in
    rw (← c.self.view_is, inserted) (cc (c.in_ok-key.ensures.cases, c.in_ok-copy.ensures))
