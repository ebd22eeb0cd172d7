-- The keys that come from an image key or a machine key: each is HMAC over SHA-256 of a prefix byte
-- and the fields that it is for. Numbers have eight bytes, the highest first. The prefixes are this
-- project's own.
use Rattle.std.specs.Prelude.{ℕ, List, ◌∷◌, ◌++◌, drop, take}
use Rattle.std.specs.Int.{w64, to_be_bytes}
use Rattle.keyed_mac.specs.Hmac.{hmac_sha256}
use Rattle.xom_base.specs.declared.key.ImageId.{ImageId}
use Rattle.xom_base.specs.declared.key.Key256.{Key256}
use Rattle.xom_seal.specs.declared.keys.LineKeys.{LineKeys}
use Rattle.xom_seal.specs.declared.keys.RegisterKeys.{RegisterKeys}

-- the AES key of an image's lines: the first 16 bytes of HMAC(image key, 14 || id)
unfoldable pub image_aes_key : List ℕ → List ℕ → List ℕ
image_aes_key key id = take 16 (hmac_sha256 key (0x14 ∷ id))

-- the tag key of an install's lines: HMAC(image key, 10 || boot || install)
unfoldable pub run_tag_key : List ℕ → ℕ → ℕ → List ℕ
run_tag_key key boot install =
    hmac_sha256 key (0x10 ∷ (to_be_bytes w64 boot ++ to_be_bytes w64 install))

-- their AES key: the first 16 bytes of HMAC(image key, 11 || boot || install)
unfoldable pub run_aes_key : List ℕ → ℕ → ℕ → List ℕ
run_aes_key key boot install =
    take 16 (hmac_sha256 key (0x11 ∷ (to_be_bytes w64 boot ++ to_be_bytes w64 install)))

-- both keys of an install's registers under an epoch: HMAC(image key, 12 || boot || install ||
-- epoch)
unfoldable pub register_key_bytes : List ℕ → ℕ → ℕ → ℕ → List ℕ
register_key_bytes key boot install epoch =
    hmac_sha256 key (0x12
    ∷ (to_be_bytes w64 boot ++ (to_be_bytes w64 install ++ to_be_bytes w64 epoch)))

-- the AES key of an envelope: the first 16 bytes of HMAC(machine key, 13 || id)
unfoldable pub envelope_aes_key : List ℕ → List ℕ → List ℕ
envelope_aes_key machine id = take 16 (hmac_sha256 machine (0x13 ∷ id))

-- the keys of an image's lines, whose tag key is the image key itself
abbrev pub image_keys : Key256 → ImageId → LineKeys
image_keys key id = record { tag = key; aes = record { 0 = image_aes_key key.0 id.0 } }

-- the keys of an install's lines
abbrev pub run_keys : Key256 → ℕ → ℕ → LineKeys
run_keys key boot install = record {
  tag = record { 0 = run_tag_key key.0 boot install };
  aes = record { 0 = run_aes_key key.0 boot install };
}

-- the keys of an install's registers under an epoch: the first 16 bytes are the AES key, the last
-- 16 the tag key
abbrev pub register_keys : Key256 → ℕ → ℕ → ℕ → RegisterKeys
register_keys key boot install epoch = record {
  aes = record { 0 = take 16 (register_key_bytes key.0 boot install epoch) };
  tag = record { 0 = drop 16 (register_key_bytes key.0 boot install epoch) };
}
