-- The least line among the places so far.
use Rattle.line_cache.specs.Lines.{IsLeastAmong}
use Rattle.line_cache.proofs.cache.least_of_page.Given as goal

abbrev pub invariant-loop-place : goal.invariant-loop-place
invariant-loop-place l = IsLeastAmong l.ways l.slot l.page l.place l.least
