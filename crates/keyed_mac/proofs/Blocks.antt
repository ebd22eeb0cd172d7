-- A key written over the front of a block of zeros.
use Rattle.std.proofs.Common.{◌≡◌, ℕ, ◌≤◌, List, ◌++◌, length, drop, replicate, ap, sym, ◌∙◌, if◌then◌else◌}
use Rattle.std.proofs.lemmas.Bool.{le-leb}
use Rattle.std.proofs.lemmas.List.{drop-replicate}
use Rattle.sha2.specs.Sha256.{sha256}
use Rattle.keyed_mac.specs.Hmac.{block_key, zero_padded}

pub block_key-short : (key : List ℕ) → length key ≤ 64
    → key ++ drop (length key) (replicate 64 0) ≡ block_key key
block_key-short key fits =
    ap (λ zeros. key ++ zeros) (drop-replicate (length key) 64 0)
    ∙ sym (ap (λ short. zero_padded (if short then key else sha256 key))
    (le-leb (length key) 64 fits))
