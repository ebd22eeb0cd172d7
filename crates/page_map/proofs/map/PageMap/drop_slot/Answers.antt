-- The slot's pages were set to those of a slot without one.
use Rattle.page_map.proofs.Frames.{dropped}
use Rattle.page_map.proofs.map.PageMap.drop_slot.Goals as goal

pub returns-clause-frames : goal.returns-clause-frames
returns-clause-frames c =
    dropped c.self.inside.slots.items c.args.self.now c.self.view_is c.self.invariant c.args.slot
    c.from.result c.requires.known c.from.ensures
    c.empty_pages.result c.empty_pages.ensures
