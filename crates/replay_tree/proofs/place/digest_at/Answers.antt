-- The place lies in the area.
use Rattle.std.proofs.Common.{◌≤◌, ◌+◌, ◌*◌, arith}
use Rattle.xom_versions.specs.Store.{area_size}
use Rattle.replay_tree.proofs.Built.{digest_within}
use Rattle.replay_tree.proofs.place.digest_at.Goals as goal

within : (c : goal.After-level_offset) → c.level_offset.result + 32 * c.args.index + 32 ≤ area_size
within c =
    let fits = digest_within c.args.level c.args.index c.requires.level c.requires.index in let at =
    c.level_offset.ensures.value in omega arith

pub overflow_mul-result : goal.overflow_mul-result
overflow_mul-result c = let fits = within c in omega arith

pub overflow_add-result-2 : goal.overflow_add-result-2
overflow_add-result-2 c = let fits = within c in let held = c.requires.area in omega arith

pub returns-clause-within : goal.returns-clause-within
returns-clause-within c = let fits = within c in omega arith
