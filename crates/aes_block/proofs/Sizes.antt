-- What AES-128 gives is a block.
use Rattle.std.proofs.Common.{◌≡◌, ℕ, List, length, refl}
use Rattle.aes_block.specs.Cipher.{aes128, cipher}
use Rattle.aes_block.specs.State.{add_round_key}

pub length-aes128 : (key block : List ℕ) → length (aes128 key block) ≡ 16
unfolding aes128 cipher add_round_key
length-aes128 key block = refl
