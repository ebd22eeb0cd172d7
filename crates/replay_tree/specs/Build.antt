-- What a build writes and hashes, as it goes through the area.
use Rattle.std.specs.Prelude.{ℕ, zero, suc, ◌+◌, ◌*◌, List, [], ◌∷◌, ◌++◌}
use Rattle.replay_tree.specs.Tree.{block_text, digest_of, parts_joined}
use Rattle.replay_tree.specs.Area.{block_in, tree_block_size, width}
use Rattle.replay_tree.specs.Calls.{top_level}

-- the digests of the first blocks that RAM has at a level
abbrev pub digests_in : ℕ → List ℕ → ℕ → ℕ → List ℕ
digests_in area ram level n = parts_joined (λ i. digest_of level (block_in top_level area ram level i)) n

-- the texts of the first blocks that RAM has at a level
unfoldable pub texts_in : ℕ → List ℕ → ℕ → ℕ → List (List ℕ)
texts_in area ram level zero = []
texts_in area ram level (suc n) =
    texts_in area ram level n ++ block_text level (block_in top_level area ram level n) ∷ []

-- how many bytes of the journal the blocks of the levels below this one use
unfoldable pub room_below : ℕ → ℕ
room_below zero = 0
room_below (suc level) = room_below level + (81 + tree_block_size level) * width top_level level
