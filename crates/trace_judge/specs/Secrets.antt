-- The secret of the fingerprints by which a judge looks up. Its prefix is this project's own, and none of
-- those of the keys that are derived from a machine's key.
use Rattle.std.specs.Prelude.{ℕ, List, [], ◌∷◌}
use Rattle.keyed_mac.specs.Hmac.{hmac_sha256}
use Rattle.xom_base.specs.declared.key.Key256.{Key256}

-- HMAC(machine key, 20)
abbrev pub fingerprint_secret : Key256 → List ℕ
fingerprint_secret machine = hmac_sha256 machine.0 (0x20 ∷ [])
