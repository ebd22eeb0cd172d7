-- The two digests go on from the two states that the key was made ready to.
use Rattle.std.proofs.Common.{◌++◌, ap, ◌∙◌}
use Rattle.std.proofs.Math.Logic.{∥∥₁_elim}
use Rattle.std.specs.Coded.{Coded-set, coded_list, coded_ℕ}
use Rattle.sha2.specs.Sha256.{sha256}
use Rattle.keyed_mac.specs.Hmac.{block_key, block_with_pad, hmac_sha256, ipad, opad}
use Rattle.keyed_mac.specs.Prepared.{IsPrepared}
use Rattle.keyed_mac.proofs.mac_key.MacKey.tag.Goals as goal

pub returns : goal.returns
unfolding hmac_sha256
returns c =
    let key = c.self.inside.key in
    let from_states = λ (ready : IsPrepared c.self.inside.inner c.self.inside.outer key).
    c.digest_behind.ensures (block_with_pad opad (block_key key)) ready.outer
    ∙ ap (λ text. sha256 (block_with_pad opad (block_key key) ++ text))
    (c.digest_behind-inner.ensures (block_with_pad ipad (block_key key)) ready.inner) in
    ∥∥₁_elim c.self.invariant (Coded-set (coded_list coded_ℕ) _ _) from_states
    ∙ ap (λ seen. hmac_sha256 seen c.args.text.now) c.self.view_is
