-- A key made ready: the states of SHA-256 after its two pads.
use Rattle.std.specs.Prelude.{ℕ, List}
use Rattle.sha2.specs.Hashers.{Holds256}
use Rattle.sha2.specs.declared.Sha256.{Sha256}
use Rattle.keyed_mac.specs.Hmac.{block_key, block_with_pad, ipad, opad}

-- the first state has hashed the block that stands before each text, the second the one before each
-- inner digest
pub record IsPrepared (first second : Sha256) (key : List ℕ) : Type 0 where
  pub inner : Holds256 first (block_with_pad ipad (block_key key))
  pub outer : Holds256 second (block_with_pad opad (block_key key))
