-- The keyed-hash message authentication code HMAC (FIPS 198-1) with SHA-256 (FIPS 180-4) as its
-- hash. Texts are lists of bytes, section numbers are of FIPS 198-1.
use Rattle.std.specs.Prelude.{ℕ, ◌-◌, List, ◌++◌, length, map, nat_le, replicate, bit_xor, if◌then◌else◌}
use Rattle.sha2.specs.Sha256.{sha256}

-- B, the size of a block of SHA-256 in bytes (section 2.3)
abbrev pub hash_block_size : ℕ
hash_block_size = 64

-- the byte of the inner pad (section 2.3)
abbrev pub ipad : ℕ
ipad = 0x36

-- the byte of the outer pad (section 2.3)
abbrev pub opad : ℕ
opad = 0x5c

-- the text with zeros behind it, up to the size of a block
abbrev pub zero_padded : List ℕ → List ℕ
zero_padded text = text ++ replicate (hash_block_size - length text) 0

-- K0: the key, or the hash of one that is longer than a block, with zeros behind it (section 4,
-- steps 1 to 3)
abbrev pub block_key : List ℕ → List ℕ
block_key key = zero_padded (if nat_le (length key) hash_block_size then key else sha256 key)

-- each byte of a block xor that of a pad (steps 4 and 7)
abbrev pub block_with_pad : ℕ → List ℕ → List ℕ
block_with_pad pad block = map (λ byte. bit_xor byte pad) block

-- H((K0 xor opad) || H((K0 xor ipad) || text)) (steps 5, 6, 8 and 9)
unfoldable pub hmac_sha256 : List ℕ → List ℕ → List ℕ
hmac_sha256 key text =
    sha256 (block_with_pad opad (block_key key) ++ sha256 (block_with_pad ipad (block_key key) ++ text))
