-- The searches are fed one more entry.
use Rattle.std.proofs.Common.{arith}
use Rattle.journal_findings.specs.Findings.{sealed_by}
use Rattle.trace_judge.proofs.JudgeLaws.{searched_next}
use Rattle.trace_judge.proofs.judging.search.Goals as goal

pub loop-entry-preserved : goal.loop-entry-preserved
loop-entry-preserved c =
    searched_next (sealed_by c.args.machine.now c.args.owners.now) c.loop-entry.searches
    c.feed.new.self c.args.entries.now c.loop-entry.entry-index c.entry-item.result
    c.loop-entry-test.true
    (omega (arith, c.loop-entry-test.true, c.loop-entry.auto.entry-index-end)) c.entry-item.is
    c.in_ok-feed.ensures.ok c.loop-entry.invariant
