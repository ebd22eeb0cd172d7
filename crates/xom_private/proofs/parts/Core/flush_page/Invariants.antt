-- The flush has come past so many lines, each of which wanted at most 5,000 bytes of spare.
use Rattle.std.proofs.Common.{◌≤◌, ◌+◌, ◌*◌}
use Rattle.xom_private.proofs.Flushing.{Reached}
use Rattle.xom_private.proofs.parts.Core.flush_page.Given as goal

abbrev pub invariant-loop-line : goal.invariant-loop-line
invariant-loop-line g l =
    Reached g.V.VersionStore.versions l.slot l.page l._line l.fn.self.core l.self.core
    × (l.fn.self.spare ≤ l.self.spare + 5000 * l._line)
