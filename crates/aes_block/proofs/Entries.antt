-- Each entry of the table is the S-box's value, by computation over all bytes.
use Rattle.std.proofs.Common.{◌≡◌, ℕ, ◌<◌, get_or, refl, ◌∙◌, ap, arith}
use Rattle.std.specs.Prelude.{map}
use Rattle.std.specs.List.{range_with_len}
use Rattle.std.proofs.lemmas.List.FromFn.{get_or-map-range_with_len}
use Rattle.aes_block.specs.Field.{polynomial_product, remainder, times, inverse_below, inverse}
use Rattle.aes_block.specs.Substitution.{affine_bits, s_box}
use Rattle.aes_block.specs.declared.table.TheConstants.{S_BOX}

-- the table is the list of the S-box's values
entries : S_BOX ≡ map s_box (range_with_len 0 256)
unfolding polynomial_product remainder times inverse_below inverse affine_bits s_box
entries = refl

-- so each entry is the S-box's value at its place
pub entry_of : (b : ℕ) → b < 256 → get_or S_BOX b 0 ≡ s_box b
entry_of b byte =
    ap (λ table. get_or table b 0) entries
    ∙ get_or-map-range_with_len s_box 0 256 b b 0 byte (omega arith)
