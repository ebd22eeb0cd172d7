-- Laws for whoever reads the definitions or rests on them.
use Rattle.std.specs.Prelude.{ℕ, ◌<◌, List, slice_index}
use Rattle.aes_block.specs.Cipher.{aes128}

-- the numbers are bytes
abbrev pub AreBytes : List ℕ → Type 0
AreBytes bytes = (i : ℕ) → slice_index bytes i < 256

-- under a key of bytes a block of bytes comes out, whatever goes in
abbrev pub BlocksAreBytes : Type 0
BlocksAreBytes = (key block : List ℕ) → AreBytes key → AreBytes (aes128 key block)
