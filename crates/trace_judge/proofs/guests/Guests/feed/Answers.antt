-- One more entry.
use Rattle.trace_judge.proofs.GuestLaws.{fed_one}
use Rattle.trace_judge.proofs.guests.Guests.feed.Goals as goal

pub returns-in-Ok-clause-ok : goal.returns-in-Ok-clause-ok
returns-in-Ok-clause-ok c es small may fed =
    fed_one c.args.owners.now c.args.self.now.items.items _ es c.args.entry.now c.in-Ok.ensures.ok
    small may fed
