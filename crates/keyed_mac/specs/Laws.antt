-- What whoever rests on tags may know of their form.
use Rattle.std.specs.Prelude.{◌≡◌, ℕ, List, length}
use Rattle.xom_base.specs.Sizes.{tag_size}
use Rattle.keyed_mac.specs.Hmac.{hmac_sha256}

-- a tag has 32 bytes, whatever the key and the text
abbrev pub TagsHaveTheirLength : Type 0
TagsHaveTheirLength = (key text : List ℕ) → length (hmac_sha256 key text) ≡ tag_size
