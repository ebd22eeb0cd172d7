-- All ways were written, each without the slot's line.
use Rattle.std.proofs.Common.{◌∙◌, ap}
use Rattle.line_cache.specs.Ways.{Cache, without_slot}
use Rattle.line_cache.proofs.Dropping.{dropped_is_cache, dropped_lines}
use Rattle.line_cache.proofs.cache.LineCache.drop_slot.Goals as goal

pub invariant_of-self : goal.invariant_of-self
invariant_of-self c =
    let opened : Cache = record {
      ways = c.self.inside.ways.items;
      pointers = c.self.inside.pointers;
    } in
    dropped_is_cache opened c.args.self.now c.self.view_is c.self.invariant c.args.slot
    c.self.inside.ways.len c.self.inside.ways.ok.0 c.drop_lines.new.ways (c.drop_lines.ensures
    ∙ ap (without_slot c.args.slot) c.deref_mut.ensures.value)

pub returns-clause-lines : goal.returns-clause-lines
returns-clause-lines c =
    let opened : Cache = record {
      ways = c.self.inside.ways.items;
      pointers = c.self.inside.pointers;
    } in
    dropped_lines opened c.args.self.now c.self.view_is c.self.invariant c.args.slot
    c.self.inside.ways.len c.self.inside.ways.ok.0 c.drop_lines.new.ways (c.drop_lines.ensures
    ∙ ap (without_slot c.args.slot) c.deref_mut.ensures.value) c.requires
