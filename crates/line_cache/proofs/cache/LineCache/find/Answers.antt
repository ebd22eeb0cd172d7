-- The place that was found holds the line, and no line is of slot 0.
use Rattle.line_cache.specs.Ways.{Cache}
use Rattle.line_cache.proofs.Search.{found_filled}
use Rattle.line_cache.proofs.cache.LineCache.find.Goals as goal

pub returns-clause-filled : goal.returns-clause-filled
returns-clause-filled c =
    let opened : Cache = record {
      ways = c.self.inside.ways.items;
      pointers = c.self.inside.pointers;
    } in
    found_filled opened c.args.self.now c.self.view_is c.self.invariant c.args.slot c.args.line
    c.requires c.first_place-first.result c.first_place-first.ensures
    c.deref.result.now c.deref.ensures.value c.way_of.result c.way_of.ensures c.in_ok-way.way
    c.in_ok-way.was
