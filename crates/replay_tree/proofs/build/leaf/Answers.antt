-- One more version stands in the leaf, and in the end all eight.
use Rattle.std.proofs.Common.{replicate, refl, ◌∙◌, ap, arith}
use Rattle.std.specs.Int.{w64, to_be_bytes}
use Rattle.replay_tree.proofs.Built.{versions_all, versions_more, versions_none}
use Rattle.replay_tree.proofs.build.leaf.Goals as goal

pub loop-k-init : goal.loop-k-init
loop-k-init c = versions_none (replicate 64 0) c.args.lines c.args.index

pub loop-k-preserved : goal.loop-k-preserved
loop-k-preserved c =
    versions_more (replicate 64 0) c.loop-k.leaf c.copy_from_slice.new.self c.args.lines c.args.index
    c.loop-k.k c.loop-k.invariant
    (c.copy_from_slice.ensures.after ∙ c.to_be_bytes.ensures ∙ ap (to_be_bytes w64) c.first_version.ensures)

pub returns : goal.returns
returns c =
    versions_all (replicate 64 0) c.loop-k.leaf c.args.lines c.args.index c.loop-k.k refl
    (omega (arith, c.loop-k-test.false, c.loop-k.auto.k-end)) c.loop-k.invariant
