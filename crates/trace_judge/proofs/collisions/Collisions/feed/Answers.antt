-- One more entry, or none where memory was wanted.
use Rattle.xom_base.specs.declared.entry.Entry.TheVariants as entry
use Rattle.trace_judge.proofs.CollisionLaws.{fed_not, fed_one}
use Rattle.trace_judge.proofs.collisions.Collisions.feed.Goals as goal

pub returns-in-Ok-clause-ok : goal.returns-in-Ok-clause-ok
returns-in-Ok-clause-ok c es counted was =
    fed_one c.args.number _ _ _ _ es (entry.Hash c.args.text.now c.args.digest.now) counted
    c.in-Ok.ensures.found c.in-Ok.ensures.firsts was

pub returns-in-Err-clause-err : goal.returns-in-Err-clause-err
returns-in-Err-clause-err c es was =
    fed_not _ _ _ _ es c.in-Err.ensures.kept c.in-Err.ensures.still was
