-- The search for forgeries passes over a Hash.
use Rattle.xom_base.specs.declared.entry.Entry.TheVariants.{Hash as AHash}
use Rattle.trace_judge.specs.Maps.{has_name}
use Rattle.trace_judge.proofs.ForgeryLaws.{hash_passed}
use Rattle.trace_judge.proofs.JudgeLaws.{next_counted, next_number}
use Rattle.trace_judge.proofs.searches.Searches.feed_hash.Goals as goal

pub returns-in-Ok-clause-ok : goal.returns-in-Ok-clause-ok
returns-in-Ok-clause-ok c sealed es small was =
    let old = c.args.self.now in
    let text = c.args.text.now in
    let digest = c.args.digest.now in
    record {
      sealings = was.sealings;
      counted = next_counted old.count es (AHash text digest) was.counted small;
      forgeries = hash_passed sealed old.forgeries.found (has_name old.forgeries.names) es text digest
          was.forgeries;
      collisions = c.in-Ok.ensures.ok es (next_number old.count es was.counted small) was.collisions;
    }
