-- The search for collisions passes over what is no Hash.
use Rattle.std.proofs.Common.{sym, subst, ◌∷◌, ◌++◌, []}
use Rattle.trace_judge.specs.Maps.{first_in}
use Rattle.trace_judge.specs.SealSearch.{HasSearchedSeals}
use Rattle.trace_judge.proofs.CollisionLaws.{other_passed}
use Rattle.trace_judge.proofs.JudgeLaws.{next_counted, next_number}
use Rattle.trace_judge.proofs.searches.Searches.feed_other.Goals as goal

pub returns-in-Ok-clause-ok : goal.returns-in-Ok-clause-ok
returns-in-Ok-clause-ok c sealed es small was =
    let old = c.args.self.now in
    let entry = c.args.entry.now in
    record {
      sealings = was.sealings;
      counted = next_counted old.count es entry was.counted small;
      forgeries = subst (λ s. HasSearchedSeals s c.feed.new.self (es ++ entry ∷ [])) was.sealings
          (c.in-Ok.ensures.ok es (next_number old.count es was.counted small)
          (subst (λ s. HasSearchedSeals s old.forgeries es) (sym was.sealings) was.forgeries));
      collisions = other_passed old.collisions.found (first_in old.collisions.hashes) es entry c.requires
          was.collisions;
    }
