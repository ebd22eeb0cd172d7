-- The journal's room is enough.
use Rattle.std.proofs.Common.{arith}
use Rattle.replay_tree.proofs.Built.{room_of_all, top_block}
use Rattle.replay_tree.proofs.build.build_in.Goals as goal

pub hash_block-requires-clause-room : goal.hash_block-requires-clause-room
hash_block-requires-clause-room c =
    let all = room_of_all in let block = top_block in let used = c.fill_up_to.ensures.spare in
    let room = c.requires.room in omega arith

pub returns-clause-spare : goal.returns-clause-spare
returns-clause-spare c =
    let all = room_of_all in let block = top_block in let used = c.fill_up_to.ensures.spare in
    let last = c.hash_block.ensures.spare in omega arith
