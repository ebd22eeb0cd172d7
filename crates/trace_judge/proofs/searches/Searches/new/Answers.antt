-- Each search was fed nothing.
use Rattle.std.proofs.Common.{refl}
use Rattle.trace_judge.proofs.searches.Searches.new.Goals as goal

pub returns : goal.returns
returns c = record {
  sealings = c.in_ok-sealings.ensures;
  counted = refl;
  forgeries =
      c.new-2.ensures _;
  collisions = c.new-3.ensures;
}
