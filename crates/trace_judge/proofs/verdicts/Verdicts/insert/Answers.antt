-- The map has what was put, and else what it had.
use Rattle.trace_judge.proofs.VerdictLaws.{put_pair}
use Rattle.trace_judge.proofs.verdicts.Verdicts.insert.Goals as goal

pub returns : goal.returns
returns c n other =
    put_pair c.args.self.now.found c.insert.new.self c.args.install c.args.id.now.0 c.args.verdict
    c.in_ok-_old.ensures.updates n other
