-- One more entry, or none where memory was wanted.
use Rattle.trace_judge.proofs.ForgeryLaws.{fed_not, fed_one}
use Rattle.trace_judge.proofs.forgeries.Forgeries.feed.Goals as goal

pub returns-in-Ok-clause-ok : goal.returns-in-Ok-clause-ok
returns-in-Ok-clause-ok c es counted was =
    fed_one _ c.args.number _ _ _ _ es c.args.entry.now counted c.in-Ok.ensures.found
    c.in-Ok.ensures.has was

pub returns-in-Err-clause-err : goal.returns-in-Err-clause-err
returns-in-Err-clause-err c sealed es was =
    fed_not sealed _ _ _ _ es c.in-Err.ensures.kept c.in-Err.ensures.still was
