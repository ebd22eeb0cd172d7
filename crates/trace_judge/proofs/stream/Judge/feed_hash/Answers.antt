-- The guests pass over a Hash.
use Rattle.journal_findings.specs.Findings.{sealed_by}
use Rattle.trace_judge.proofs.GuestLaws.{hash_passed}
use Rattle.trace_judge.proofs.stream.Judge.feed_hash.Goals as goal

pub returns-in-Ok : goal.returns-in-Ok
returns-in-Ok c machine owners es small was = record {
  owners_are = was.owners_are;
  searches =
      c.in-Ok.ensures.ok (sealed_by machine owners) es small was.searches;
  guests = hash_passed owners c.args.self.now.guests.items.items es c.args.text.now
      c.args.digest.now was.guests;
}
