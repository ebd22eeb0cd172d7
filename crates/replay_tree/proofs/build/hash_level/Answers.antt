-- One more block is hashed, and its digest written.
use Rattle.std.proofs.Common.{◌<◌, ◌∙◌, ap, subst}
use Rattle.line_ram.specs.Bytes.{ram_with_bytes}
use Rattle.replay_tree.proofs.Built.{hashed_more, hashed_none}
use Rattle.replay_tree.proofs.build.hash_level.Goals as goal

pub loop-index-init : goal.loop-index-init
loop-index-init c =
    hashed_none c.args.area c.args.level c.args.ram.now c.args.journal.now.entries
    c.args.journal.now.spare

pub loop-index-preserved : goal.loop-index-preserved
loop-index-preserved c =
    hashed_more c.args.area c.args.level c.loop-index.index c.args.ram.now c.loop-index.ram
    c.write.new.self c.hash_block-digest.result
    c.args.journal.now.entries c.loop-index.journal.entries c.hash_block-digest.new.journal.entries
    c.args.journal.now.spare c.loop-index.journal.spare c.hash_block-digest.new.journal.spare
    c.requires.area c.requires.level (subst (λ wide. c.loop-index.index < wide)
    c.width-index-end.ensures c.loop-index-test.true) c.loop-index.invariant
    (c.write.ensures.bytes ∙ ap (λ at. ram_with_bytes c.loop-index.ram at c.hash_block-digest.result)
    c.digest_at.ensures.value) c.write.ensures.size c.hash_block-digest.ensures.digest
    c.hash_block-digest.ensures.entries c.hash_block-digest.ensures.spare
