-- The round constants, by computation over the ten rounds.
use Rattle.std.proofs.Common.{◌≡◌, ℕ, ◌<◌, get_or, refl, ◌∙◌, ap, arith}
use Rattle.std.specs.Prelude.{map}
use Rattle.std.specs.List.{range_with_len}
use Rattle.std.proofs.lemmas.List.FromFn.{get_or-map-range_with_len}
use Rattle.aes_block.specs.Field.{polynomial_product, remainder, times}
use Rattle.aes_block.specs.Keys.{power_of_x}
use Rattle.aes_block.specs.declared.expansion.TheConstants.{ROUND_CONSTANTS}

constants : ROUND_CONSTANTS ≡ map power_of_x (range_with_len 0 10)
unfolding polynomial_product remainder times power_of_x
constants = refl

pub constant_of : (n : ℕ) → n < 10 → get_or ROUND_CONSTANTS n 0 ≡ power_of_x n
constant_of n round =
    ap (λ table. get_or table n 0) constants
    ∙ get_or-map-range_with_len power_of_x 0 10 n n 0 round (omega arith)
