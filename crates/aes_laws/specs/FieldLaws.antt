-- Laws of the field of FIPS 197, section 4, for whoever reads the definition of the S-box.
use Rattle.std.specs.Prelude.{ℕ, ◌≡◌, ◌<◌}
use Rattle.aes_block.specs.Field.{inverse, times}

-- each byte but {00} times its inverse is {01}
abbrev pub InversesAreInverse : Type 0
InversesAreInverse = (b : ℕ) → 0 < b → b < 256 → times b (inverse b) ≡ 1

-- a byte whose product with b is {01} is the inverse of b
abbrev pub InversesAreAlone : Type 0
InversesAreAlone = (b c : ℕ) → b < 256 → c < 256 → times b c ≡ 1 → c ≡ inverse b
