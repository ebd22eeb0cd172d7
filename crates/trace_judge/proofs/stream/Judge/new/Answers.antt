-- Each part was fed nothing.
use Rattle.std.proofs.Common.{refl}
use Rattle.trace_judge.proofs.stream.Judge.new.Goals as goal

pub returns : goal.returns
returns c = record {
  owners_are = refl;
  searches = c.in_ok-new.ensures;
  guests =
      c.new-2.ensures c.args.owners.now;
}
