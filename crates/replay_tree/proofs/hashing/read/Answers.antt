-- The block was read behind the level.
use Rattle.std.proofs.Common.{◌∷◌, ◌∙◌, ap}
use Rattle.line_ram.specs.Bytes.{bytes_at}
use Rattle.replay_tree.specs.Area.{tree_block_size}
use Rattle.replay_tree.proofs.PathsKept.{text_read}
use Rattle.replay_tree.proofs.hashing.read.Goals as goal

pub returns : goal.returns
returns c =
    text_read c.args.text.now c.read.new.into c.args.ram.now c.args.level c.block_at.result
    (tree_block_size c.args.level) c.requires.size c.read.ensures
    ∙ ap (λ at. c.args.level ∷ bytes_at c.args.ram.now at (tree_block_size c.args.level))
    c.block_at.ensures.value
