-- A tag has 32 bytes.
use Rattle.std.proofs.Common.{◌++◌}
use Rattle.sha2.specs.Sha256.{sha256}
use Rattle.sha2.proofs.Facts256.{length-sha256}
use Rattle.keyed_mac.specs.Hmac.{block_key, block_with_pad, hmac_sha256, ipad, opad}
use Rattle.keyed_mac.specs.Laws.{TagsHaveTheirLength}

pub tags_have_their_length : TagsHaveTheirLength
unfolding hmac_sha256
tags_have_their_length key text =
    length-sha256 (block_with_pad opad (block_key key) ++ sha256 (block_with_pad ipad (block_key key) ++ text))
